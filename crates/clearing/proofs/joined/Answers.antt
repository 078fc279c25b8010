-- What the fold came to, by the words' places.
use mathlib.Core.Path.{◌≡◌}
use lib.Bits.{bit_or}
use borrow.Author.Rules.{rules}
use Rattle.std.specs.List.{fold}
use Rattle.clearing.proofs.Blocks.{joined_words}
use Rattle.clearing.proofs.joined.Goals as goal

pub returns-clause-words : goal.returns-clause-words
returns-clause-words c = joined_words _ _ (let e : c.fold.result ≡ fold bit_or 0 c.args.block.now = search rules in e)
