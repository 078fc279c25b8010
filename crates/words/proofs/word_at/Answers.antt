-- `word_at`: each need by its law.
use borrow.Author.Rules.{rules}
use Rattle.model.specs.Image.{word_at}
use Rattle.words.proofs.word_at.Goals as goal

pub returns : goal.returns
unfolding word_at
returns c = search rules
