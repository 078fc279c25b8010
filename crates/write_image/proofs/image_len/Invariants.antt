-- `image_len`: what its loop keeps.
use Prim.Native.Nat.{◌≤◌}
use mathlib.Core.Path.{◌≡◌}
use lib.ListN.{length}
use Rattle.model.specs.Image.{gates_words}
use Rattle.tables.specs.Layout.{nodes_of}
use Rattle.write_image.proofs.image_len.Given as goal

abbrev pub invariant-loop-v : goal.invariant-loop-v
invariant-loop-v l = (l.v ≤ l.nodes) × (l.n ≡ length (gates_words (nodes_of l.from l.v)))
