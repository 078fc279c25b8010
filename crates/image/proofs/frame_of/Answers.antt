-- `frame_of`: each need by its law.
use mathlib.Core.Path.{ap}
use mathlib.Core.Bool.{not}
use borrow.Author.Rules.{rules}
use Rattle.image.proofs.Frames.{frame_off, frame_over, frame_short, frame_start, frame_yes}
use Rattle.image.proofs.frame_of.Goals as goal

pub returns-then-len-lt16 : goal.returns-then-len-lt16
returns-then-len-lt16 c = frame_short _ c.if-len-lt16.true

pub returns-then-not-span-len : goal.returns-then-not-span-len
returns-then-not-span-len c = search (rules, frame_off)

pub returns-then-not-inputs-nodes : goal.returns-then-not-inputs-nodes
returns-then-not-inputs-nodes c = frame_over _ _ c.word_at-span.ensures (ap not c.if-not-span-len.false) c.if-len-lt16.false _ _ _ c.word_at-inputs.ensures c.word_at-nodes.ensures c.word_at-outs.ensures (ap not c.if-not-inputs-nodes.true)

pub overflow_sub-result : goal.overflow_sub-result
overflow_sub-result c = search (rules, frame_start)

pub returns : goal.returns
returns c = search (rules, frame_yes)
