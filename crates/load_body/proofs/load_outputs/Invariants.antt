-- `load_outputs`: what its loop keeps, and each need by its law.
use Prim.Native.Nat.{◌≤◌}
use mathlib.Core.Path.{◌≡◌}
use lib.ListN.{length}
use Rattle.model.specs.Image.{words}
use Rattle.tables.specs.Building.{put_outputs}
use Rattle.load_body.specs.Loading.{word_from}
use Rattle.load_body.proofs.load_outputs.Given as goal

abbrev pub invariant-loop-j : goal.invariant-loop-j
invariant-loop-j l = (l.j ≤ l.outs) × (length l.to ≡ length l.initial.to) × (l.to ≡ put_outputs l.initial.to (word_from (words l.body) l.at) l.j)
