-- `note_use`: each need by its law.
use borrow.Author.Rules.{rules}
use Rattle.uses.proofs.Tallies.{notes}
use Rattle.uses.proofs.count.note_use.Goals as goal

pub returns-then-v-lt2 : goal.returns-then-v-lt2
returns-then-v-lt2 c = search (rules, notes)

pub returns-else-v-lt2 : goal.returns-else-v-lt2
returns-else-v-lt2 c = search (rules, notes)
