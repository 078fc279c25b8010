-- What loading an image asks and leaves: the number that refuses it, or its network in the area.
use Rattle.std.specs.Prelude.{◌≡◌, ℕ, ◌≤◌, Result, List, length}
use Rattle.model.specs.Image.{inputs_in, nodes_in, outs_in, refusal_of, net_of}
use Rattle.refusals.specs.Numbers.{numbered, unless}
use Rattle.refusals.specs.declared.Refusal.{Refusal}
use Rattle.image.specs.Reader.{frame_of}
use Rattle.image.specs.declared.Frame.{Frame}
use Rattle.tables.specs.Layout.{net_size}
use Rattle.tables.specs.Holding.{Holds}
use Rattle.tables.specs.declared.counts.Counts.{Counts}

-- the trailer's counts
unfoldable pub counts_of : List ℕ → Counts
counts_of img = record { inputs = inputs_in img; nodes = nodes_in img; outs = outs_in img }

pub record AcceptedFrame (img : List ℕ) (f : Frame) (l : List ℕ) : Type 0 where
  pub frame : f ≡ frame_of img
  pub accepted : refusal_of img ≡ 0
  pub long : net_size ≤ length l

pub record Counted (img l' : List ℕ) (r : Counts) : Type 0 where
  pub counts : r ≡ counts_of img
  pub holds : Holds l' r (net_of img)

-- by the number that refuses: without 7 or with it
pub record Read (number : ℕ) (img l' : List ℕ) (r : Result Counts Refusal) : Type 0 where
  pub answer : numbered r ≡ unless number (counts_of img)
  pub holds : number ≡ 0 → Holds l' (counts_of img) (net_of img)
