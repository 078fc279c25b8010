-- The turns of the loops that check bytes, with premises as the code meets them.
use mathlib.Core.Path.{◌≡◌, refl, sym, ap, ◌∙◌}
use Prim.Native.Nat.{ℕ, ◌+◌, ◌-◌, ◌≤◌, ◌<◌}
use native.Mathlib.Omega.{arith}
use native.Mathlib.Nat.{le_antisymm}
use native.Mathlib.Numerals.{add-one}
use mathlib.Core.Bool.{Bool, true, false, ◌&&◌, ◌||◌}
use mathlib.Core.List.{List}
use lib.ListN.{length, get_or}
use lib.Dec.{ltb}
use mir.Val.{bool_byte}
use Rattle.laws.specs.Bools.{bit}
use Rattle.laws.specs.Lists.{some_below}
use Rattle.laws.proofs.Lists.{some_none}
use Rattle.model.specs.Evaluate.{truths}
use Rattle.tables.specs.Layout.{store}
use Rattle.tables.proofs.Places.{length_store}
use Rattle.signal_values.proofs.Bits.{byte_bit}
use Rattle.signal_values.specs.Signals.{values_base, values_end, dff_at}
use Rattle.cycle_checks.specs.Checks.{inputs_to, above_one, cell_above}

-- ---- a test of some number

pub record None (g : ℕ → Bool) (k n : ℕ) : Type 0 where
  pub few : k ≤ n
  pub none : some_below g k ≡ false

pub none_yet : (g : ℕ → Bool) (n : ℕ) → None g 0 n
unfolding some_below
none_yet g n = record { few = omega arith; none = refl }

pub none_more : (g : ℕ → Bool) (k n : ℕ) → None g k n → k < n → g k ≡ false → None g (k + 1) n
unfolding some_below
none_more g k n h l e = record { few = omega arith; none = rw (add-one, h.none) e }

pub none_all : (g : ℕ → Bool) (k n : ℕ) → None g k n → n ≤ k → false ≡ some_below g n
none_all g k n h l = let e : k ≡ n = le_antisymm h.few l in sym (rw e at h.none)

pub some_here : (g : ℕ → Bool) (k n : ℕ) → k < n → g k ≡ true → true ≡ some_below g n
some_here g k n h e = go (some_below g n) refl
  where
    go : (b : Bool) → some_below g n ≡ b → true ≡ b
    go true q = refl
    go false q = sym e ∙ some_none g n q k h

pub none_cell : (f st : List ℕ) (k n : ℕ) (b : Bool) → None (cell_above f st) k n → k < n → b ≡ dff_at f k → (b && ltb 1 (get_or st k 0)) ≡ false → None (cell_above f st) (k + 1) n
none_cell f st k n b h r p e = none_more (cell_above f st) k n h r (rw p at e)

pub some_cell : (f st : List ℕ) (k n : ℕ) (b : Bool) → k < n → b ≡ dff_at f k → (b && ltb 1 (get_or st k 0)) ≡ true → true ≡ some_below (cell_above f st) n
some_cell f st k n b r p e = some_here (cell_above f st) k n r (rw p at e)

-- ---- the inputs' values put down, and whether a byte passed is above 1

pub record Taken (ins t₀ t : List ℕ) (a : Bool) (k i : ℕ) : Type 0 where
  pub few : k ≤ i
  pub long : length t ≡ length t₀
  pub is : t ≡ inputs_to ins t₀ k
  pub above : a ≡ some_below (above_one ins) k

module _ (ins t₀ : List ℕ) where
  pub taken_none : (i : ℕ) → Taken ins t₀ t₀ false 0 i
  unfolding inputs_to some_below
  taken_none i = record { few = omega arith; long = refl; is = refl; above = refl }

  module _ (t : List ℕ) (a : Bool) (k i : ℕ) (h : Taken ins t₀ t a k i) where
    pub taken_low : k < i → i ≤ 1024 → k ≤ 2047
    taken_low l m = omega arith

    pub taken_room : k < i → i ≤ 1024 → values_end ≤ length t₀ → 4672 + (2047 - k) < length t
    taken_room l m r = rw h.long (omega arith)

    pub taken_more : (l : List ℕ) (x : ℕ) → k < i → x ≡ bool_byte (truths ins k) → l ≡ store t values_base (2047 - k) x
        → Taken ins t₀ l (a || ltb 1 (get_or ins k 0)) (k + 1) i
    unfolding inputs_to some_below
    taken_more l x m e q = record {
      few = omega arith;
      long = rw (q, length_store) h.long;
      is = rw (add-one, q, e, byte_bit (truths ins k)) (ap (λ (u : List ℕ). store u values_base (2047 - k) (bit (truths ins k))) h.is);
      above = rw add-one (ap (λ (b : Bool). b || ltb 1 (get_or ins k 0)) h.above);
    }

    pub taken_all : i ≤ k → t ≡ inputs_to ins t₀ i
    taken_all m = let e : k ≡ i = le_antisymm h.few m in h.is ∙ ap (inputs_to ins t₀) e

    pub taken_above : i ≤ k → a ≡ some_below (above_one ins) i
    taken_above m = let e : k ≡ i = le_antisymm h.few m in h.above ∙ ap (some_below (above_one ins)) e

pub ruleset turns = (taken_none, taken_low, taken_room, taken_more, taken_all, taken_above, none_yet, none_cell, none_all, some_cell)
