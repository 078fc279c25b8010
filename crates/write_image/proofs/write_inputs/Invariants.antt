-- `write_inputs`: what its loop keeps.
use Prim.Native.Nat.{◌≤◌}
use mathlib.Core.Path.{◌≡◌}
use lib.ListN.{length}
use Rattle.image_trailer.specs.Trailers.{put_words}
use Rattle.write_image.specs.Writing.{ins_from}
use Rattle.write_image.proofs.write_inputs.Given as goal

abbrev pub invariant-loop-j : goal.invariant-loop-j
invariant-loop-j l = (l.j ≤ l.n) × (length l.out ≡ length l.initial.out) × (l.out ≡ put_words l.initial.out l.at (ins_from l.from l.first l.j))
