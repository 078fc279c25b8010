-- `keep_node`: each need by its law.
use Rattle.keep_marked.proofs.Kept.{keep_yes, keep_no}
use Rattle.keep_marked.proofs.keep_node.Goals as goal

pub returns-then-word-gt0 : goal.returns-then-word-gt0
returns-then-word-gt0 c = keep_yes _ _ _ _ _ c.requires.0 c.requires.1 _ c.word.ensures _ c.if-word-gt0.true c.put_word.ensures

pub returns : goal.returns
returns c = keep_no _ _ _ _ _ c.requires.0 c.requires.1 _ c.word.ensures c.if-word-gt0.false
