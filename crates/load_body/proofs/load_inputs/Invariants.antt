-- `load_inputs`: what its loop keeps, and each need by its law.
use Prim.Native.Nat.{◌≤◌}
use mathlib.Core.Path.{◌≡◌}
use lib.ListN.{length}
use Rattle.model.specs.Image.{words}
use Rattle.tables.specs.Building.{put_inputs}
use Rattle.load_body.specs.Loading.{word_from}
use Rattle.load_body.proofs.load_inputs.Given as goal

abbrev pub invariant-loop-j : goal.invariant-loop-j
invariant-loop-j l = (l.j ≤ l.n) × (length l.to ≡ length l.initial.to) × (l.to ≡ put_inputs l.initial.to l.first (word_from (words l.body) l.at) l.j)
