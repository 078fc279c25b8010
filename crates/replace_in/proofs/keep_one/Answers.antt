-- `keep_one`: each need by its law.
use mathlib.Core.Logic.{inl, inr}
use borrow.Author.Rules.{rules}
use Rattle.replace_in.proofs.Taking.{one_a, one_a', one_b, one_b', ones}
use Rattle.replace_in.proofs.keep_one.Goals as goal

pub returns-then-s-a : goal.returns-then-s-a
returns-then-s-a c = elim c.then-s-a.either [
  | inl e ↦ (one_a c.args.area.now c.args.k _ _ _ e, one_a' _ _ _ _ _ e)
  | inr p ↦ (one_b c.args.area.now c.args.k _ _ _ p.1, one_b' _ _ _ _ _ p.1)
]

pub put_sig-requires : goal.put_sig-requires
put_sig-requires c = search (rules, ones)

pub shape_of-area : goal.shape_of-area
shape_of-area c = search (rules, ones)

pub returns : goal.returns
returns c = search (rules, ones)
