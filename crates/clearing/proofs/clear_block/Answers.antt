-- A block that joins to zero is as it would be set.
use mathlib.Core.Path.{◌≡◌, sym, ◌∙◌}
use lib.ListN.{length, replicate}
use borrow.Author.Rules.{rules}
use Rattle.clearing.proofs.Blocks.{zeroed_all}
use Rattle.clearing.proofs.Zeros.{joined_zero, zeroed_none}
use Rattle.clearing.proofs.clear_block.Goals as goal

pub returns-then-joined-eq0-clause-whole : goal.returns-then-joined-eq0-clause-whole
returns-then-joined-eq0-clause-whole c = joined_zero 0 _ (sym c.joined.ensures.whole ∙ c.if-joined-eq0.true)

pub returns-then-joined-eq0-clause-words : goal.returns-then-joined-eq0-clause-words
returns-then-joined-eq0-clause-words c h = zeroed_none _ _ _ (sym (c.joined.ensures.words h) ∙ c.if-joined-eq0.true)

pub returns-clause-words : goal.returns-clause-words
returns-clause-words c = zeroed_all _ _ (let e : c.fill.new.self ≡ replicate (length c.args.block.now) 0 = search rules in e)
