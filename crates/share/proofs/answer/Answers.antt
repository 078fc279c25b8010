-- `answer`: what is shown, by the outcome of the entry.
use Rattle.share.proofs.Entry.{entry}
use Rattle.share.proofs.Shows.{answers, answer_short, answer_long}
use borrow.Author.Rules.{rules}
use lib.Seq.{length-take-le}
use mathlib.Core.Path.{sym}
use Rattle.share.proofs.answer.Goals.{then-input-lt4-via-then-input-lt4, then-input-lt4-via-else-input-lt4+then-input-gt16384}
use Rattle.share.proofs.answer.Goals as goal

pub returns-then-input-lt4 : goal.returns-then-input-lt4
returns-then-input-lt4 c = elim c.then-input-lt4.branch [
  | then-input-lt4-via-then-input-lt4 w ↦ answer_short _ _ _ _ _ _ _ w.if-input-lt4.true c.refuse.ensures
  | then-input-lt4-via-else-input-lt4+then-input-gt16384 w ↦ answer_long _ _ _ _ _ _ _ w.if-input-lt4.false w.if-input-gt16384.true c.refuse.ensures
]

pub slice_bounds-show-end : goal.slice_bounds-show-end
slice_bounds-show-end c = search (rules, answers, entry)

pub slice_bounds-show-end-in-Ok : goal.slice_bounds-show-end-in-Ok
slice_bounds-show-end-in-Ok c = sym (length-take-le _ _ (search (rules, answers, entry)))

pub returns-in-Err : goal.returns-in-Err
returns-in-Err c = search (rules, answers, entry)

pub returns-in-Ok : goal.returns-in-Ok
returns-in-Ok c = search (rules, answers, entry)
