-- What sort and cleanup make of a network, as an image and a mapping.
use Rattle.std.specs.Prelude.{ℕ, ◌≤◌, cond, List, length}
use Rattle.model.specs.Gate.{Net, size}
use Rattle.model.specs.Network.{translation, mapping_of, cleanup_order, cleanup, topo_order, topo_sort, sorts}
use Rattle.model.specs.Image.{image_of}
use Rattle.model.specs.Answers.{Outcome, refused, written, in_room}
use Rattle.tables.specs.Layout.{span}
use Rattle.tables.specs.Holding.{Held}
use Rattle.tables.specs.declared.counts.Counts.{Counts}

-- a network in one area, and the other to work in
pub record Passable (from to : List ℕ) (c : Counts) : Type 0 where
  pub held : Held from c
  pub room : span ≤ length to

-- what a pass makes of a network, by the lengths lent for the image and for the mapping
abbrev pub passed : (Net → Outcome) → Net → ℕ → ℕ → Outcome
passed pass N room mapping = in_room room mapping (pass N)

unfoldable pub cleanup_pass : Net → Outcome
cleanup_pass N = written (image_of (cleanup N)) (mapping_of (size N) (translation (size N) (cleanup_order N)))

unfoldable pub sort_pass : Net → Outcome
sort_pass N = cond (sorts N) (written (image_of (topo_sort N)) (mapping_of (size N) (translation (size N) (topo_order N)))) (refused 8)
