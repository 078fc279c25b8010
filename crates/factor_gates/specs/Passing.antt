-- The answer of one pass.
use Rattle.std.specs.Prelude.{ℕ, ◌≡◌, List, Result}
use Rattle.growth.specs.Growing.{counts_of}
use Rattle.model.specs.Gate.{Net}
use Rattle.model.specs.Sharing.{grown, pass_refusal}
use Rattle.tables.specs.Holding.{Holds}
use Rattle.refusals.specs.Numbers.{numbered, unless}
use Rattle.refusals.specs.declared.Refusal.{Refusal}
use Rattle.tables.specs.declared.counts.Counts.{Counts}
use Rattle.kinds.specs.declared.Family.{Family}

-- 11 and 12 exactly where the unlimited pass meets them, else m holds the grown network
pub record Passed (f : Family) (N : Net) (m : List ℕ) (r : Result Counts Refusal) : Type 0 where
  pub answer : numbered r ≡ unless (pass_refusal f N) (counts_of (grown f N))
  pub holds : pass_refusal f N ≡ 0 → Holds m (counts_of (grown f N)) (grown f N)
