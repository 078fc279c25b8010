-- `join`: each need by its law.
use Prim.Native.Nat.{ℕ, ◌+◌}
use mathlib.Core.Path.{ap, ◌∙◌}
use mathlib.Core.List.{List}
use Rattle.tables.specs.Layout.{store}
use Rattle.lookup.specs.Chains.{head_base, link_base, joined}
use Rattle.lookup.proofs.chain.join.Goals as goal

pub returns : goal.returns
unfolding joined
returns c = let a = c.args in
    c.put_word-2.ensures ∙ ap (λ (l : List ℕ). store l head_base a.h (a.v + 1)) (c.put_word.ensures ∙ ap (store a.to.now link_base a.v) c.word-next.ensures)
