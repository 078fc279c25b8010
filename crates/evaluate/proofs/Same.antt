-- Tables that hold the same values, in the lowest bits of their words: whatever is read of one is read of the other.
use mathlib.Core.Path.{◌≡◌, refl, sym, ap, ◌∙◌}
use mathlib.Core.Logic.{◌≢◌}
use Prim.Native.Nat.{ℕ, zero, suc, ◌+◌, ◌*◌, ◌^◌, ◌≤◌, ◌<◌}
use native.Mathlib.Omega.{arith}
use native.Mathlib.Decide.{ℕ_discrete}
use mathlib.Core.Bool.{cond}
use mathlib.Core.List.{List}
use lib.ListN.{length}
use Rattle.kinds.specs.Kinds.{kind_of}
use Rattle.laws.specs.Bools.{xor, bit}
use Rattle.laws.proofs.Tabs.{tab_ext}
use Rattle.model.specs.Signal.{is_inverted}
use Rattle.model.specs.Evaluate.{value_of, truths}
use Rattle.tables.specs.Layout.{kind_at, first_at, count_at, input_at, low_at, high_at, output_at, cell, store}
use Rattle.tables.proofs.Places.{length_store, cell_store, cell_store_other}
use Rattle.signal_values.specs.Signals.{values_base, values_end, slot, is_odd, value_at, input_value, dff_at}
use Rattle.values.specs.Values.{gate_value_at, shown_at}
use Rattle.signal_values.proofs.Bits.{odd_bit}
use Rattle.flip_flops.specs.Storing.{new_state, new_byte}
use Rattle.evaluate.specs.Passes.{SameValues, forward_to, output_byte}

-- ---- stores

pub value_store : (t : List ℕ) (p x : ℕ) → values_end ≤ length t → p < 2048 → cell (store t values_base p x) values_base p ≡ x
value_store t p x h l = cell_store t values_base p x (omega arith)

pub value_other : (t : List ℕ) (p x q : ℕ) → q ≢ p → cell (store t values_base p x) values_base q ≡ cell t values_base q
value_other t p x q d = cell_store_other t values_base p x values_base q (λ e. d (let z : q ≡ p = omega arith in z))

pub length_values : (t : List ℕ) (p x : ℕ) → values_end ≤ length t → values_end ≤ length (store t values_base p x)
length_values t p x h = rw length_store h

length_forward : (f st t : List ℕ) (v : ℕ) → length (forward_to f st t v) ≡ length t
unfolding forward_to
length_forward f st t zero = refl
length_forward f st t (suc v) = length_store _ _ _ _ ∙ length_forward f st t v

-- ---- what is read

module _ (f t t' : List ℕ) (h : SameValues t t') where
  same_value : (s : ℕ) → value_at t s ≡ value_at t' s
  unfolding value_at
  same_value s = ap (xor (is_inverted s)) (h.same (slot s))

  same_input : (first j : ℕ) → input_value f t first j ≡ input_value f t' first j
  unfolding input_value
  same_input first j = same_value (input_at f (first + j))

  pub same_shown : (st : List ℕ) (v : ℕ) → shown_at f t st v ≡ shown_at f t' st v
  unfolding shown_at gate_value_at
  same_shown st v =
      ap (λ l. cond (dff_at f v) (truths st v) (value_of (kind_of (kind_at f v)) l (low_at f v + 2 ^ 32 * high_at f v)))
      (tab_ext _ _ (count_at f v) (λ j l. same_input (first_at f v) j))

  pub same_output : (j : ℕ) → output_byte f t j ≡ output_byte f t' j
  unfolding output_byte
  same_output j = ap bit (same_value (output_at f j))

  pub same_byte : (st : List ℕ) (v : ℕ) → new_byte f t st v ≡ new_byte f t' st v
  unfolding new_byte new_state
  same_byte st v =
      rw (same_input (first_at f v) 0, same_input (first_at f v) 1, same_input (first_at f v) 2)

-- ---- one node more

pub same_more : (f st t₀ t l : List ℕ) (v x : ℕ) → SameValues t (forward_to f st t₀ v) → values_end ≤ length t₀ → length t ≡ length t₀ → v < 512 → is_odd x ≡ shown_at f t st v
    → l ≡ store t values_base (v + 1) x → SameValues l (forward_to f st t₀ (suc v))
unfolding forward_to
same_more f st t₀ t l v x h room long few s q = record {
  same = λ k. elim (ℕ_discrete k (v + 1)) [
    | yes e ↦
        let a : is_odd (cell l values_base k) ≡ is_odd x = rw (q, e) (ap is_odd (value_store t (v + 1) x (rw long room) (omega arith))) in
        let b : is_odd (cell (forward_to f st t₀ (suc v)) values_base k) ≡ shown_at f (forward_to f st t₀ v) st v =
        rw e (ap is_odd (value_store (forward_to f st t₀ v) (v + 1) _ (rw length_forward room) (omega arith)) ∙ odd_bit _) in
        a ∙ s ∙ same_shown f t (forward_to f st t₀ v) h st v ∙ sym b
    | no d ↦ rw q (ap is_odd (value_other t (v + 1) x k d)) ∙ h.same k ∙ sym (ap is_odd (value_other (forward_to f st t₀ v) (v + 1) _ k d))
  ];
}
