-- `holds_both`: each need by its law.
use borrow.Author.Rules.{rules}
use Rattle.count_pair.proofs.Counts.{holds_yes, holdss}
use Rattle.count_pair.proofs.holds_both.Goals as goal

pub returns-then-has_signal : goal.returns-then-has_signal
returns-then-has_signal c = holds_yes _ _ _ _ _ c.has_signal.ensures c.if-has_signal.true _ c.has_signal-then-has_signal.ensures

pub returns-else-has_signal : goal.returns-else-has_signal
returns-else-has_signal c = search (rules, holdss)
