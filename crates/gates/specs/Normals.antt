-- What the code asks and answers: a gate's inputs listed, a normalization with the list beside it, signals in order.
use Rattle.std.specs.Prelude.{◌≡◌, ℕ, ◌≤◌, true, List, length, take}
use Rattle.kinds.specs.declared.Kind.{Kind}
use Rattle.model.specs.Gate.{fits_kind}
use Rattle.model.specs.Normal.{Norm, copied, made, gate_of}
use Rattle.gates.specs.declared.Normalization.{Normalization}
use Rattle.gates.specs.declared.Normalization.TheVariants.{Copy, Node}

-- the gate's inputs stand at the front of the list; a Lut's table stays with the caller
unfoldable pub normal_of : Normalization → List ℕ → Norm
normal_of (Copy s) l = copied s.a
normal_of (Node k n z) l = made (gate_of k (take n l)) z

-- n words listed, and room for three
pub record Listed (l : List ℕ) (n : ℕ) : Type 0 where
  pub count : n ≤ length l
  pub room : 3 ≤ length l

-- a gate's n inputs listed, as many as its kind has
pub record Shaped (k : Kind) (l : List ℕ) (n : ℕ) : Type 0 where
  pub listed : Listed l n
  pub fits : fits_kind k n ≡ true
