-- Valuations: a remapped signal's value, and that a network without a combinational loop has one valuation only.
use mathlib.Core.Path.{◌≡◌, refl, sym, ◌∙◌}
use Prim.Native.Nat.{ℕ, zero, suc, ◌<◌}
use native.Mathlib.Nat.{not-suc-le-zero, le_refl}
use native.Mathlib.Omega.{arith}
use mathlib.Core.Bool.{Bool, true}
use mathlib.Core.List.{List, map, map-map}
use Rattle.laws.specs.Bools.{xor}
use Rattle.laws.proofs.Choices.{by_bool}
use Rattle.laws.proofs.Lists.{map_cong}
use Rattle.model.specs.Signal.{Ref, rzero, rnode, rinput, is_inverted, ref, from_var, remap_order, remap_ref}
use Rattle.model.specs.Gate.{Net, is_dff, gate_at, size, is_topo_sorted}
use Rattle.model.specs.Evaluate.{ref_value, signal_value, shows, Consistent, evaluate}
use Rattle.model.proofs.Words.{node_ref, node_inv}
use Rattle.model.proofs.Names.{sorted}
use Rattle.model.proofs.Forward.{shows_dff, shows_comb, gate_cong, evaluate_sorted}
use Rattle.shape.specs.Forms.{Ranked}
use Rattle.shape.proofs.Sort.{sorted_ranked}
use Rattle.meaning.proofs.Values.{value_flip}

pub value_node : (i v : ℕ → Bool) (n : ℕ) → n < 1073741823 → signal_value i v (from_var n) ≡ v n
unfolding signal_value
value_node i v n h = rw (node_ref n h, node_inv n)

-- THE LAW OF REMAPPING: a remapped signal has the value of the signal under the valuation pulled back through the translation
abbrev pub pull : (ℕ → Bool) → (ℕ → Bool) → (ℕ → ℕ) → ℕ → Bool
pull i v τ w = signal_value i v (τ w)

pub value_remap : (i v : ℕ → Bool) (τ : ℕ → ℕ) (s : ℕ) → signal_value i v (remap_order τ s) ≡ signal_value i (pull i v τ) s
unfolding remap_order signal_value
value_remap i v τ s = go (ref s) refl
  where
    go : (r : Ref) → ref s ≡ r → signal_value i v (remap_ref τ r s) ≡ xor (is_inverted s) (ref_value i (pull i v τ) r)
    go rzero e = rw e
    go (rnode w) e = value_flip i v (τ w) (is_inverted s)
    go (rinput k) e = rw e

pub values_remap : (i v : ℕ → Bool) (τ : ℕ → ℕ) (l : List ℕ) → map (signal_value i v) (map (remap_order τ) l) ≡ map (signal_value i (pull i v τ)) l
values_remap i v τ l = map-map (signal_value i v) (remap_order τ) l ∙ map_cong _ _ l (value_remap i v τ)

-- ---- without a combinational loop

-- every gate of K agrees
abbrev pub ConsistentOn : (ℕ → Type 0) → Net → (ℕ → Bool) → (ℕ → Bool) → (ℕ → Bool) → Type 0
ConsistentOn K N i st v = (n : ℕ) → K n → v n ≡ shows i v (gate_at N n) (st n)

-- the values are the only ones that all gates agree with
pub agree : (N : Net) (K : ℕ → Type 0) (R : Ranked N K) (i st v w : ℕ → Bool)
    → ConsistentOn K N i st v → ConsistentOn K N i st w → (n : ℕ) → K n → v n ≡ w n
agree N K R i st v w cv cw n k = go (suc (R.rank n)) n (le_refl _) k
  where
    go : (f m : ℕ) → R.rank m < f → K m → v m ≡ w m
    go zero m h k' = absurd (not-suc-le-zero h)
    go (suc f) m h k' =
        by_bool (is_dff (gate_at N m))
        (λ e. cv m k' ∙ shows_dff i v (gate_at N m) (st m) e ∙ sym (cw m k' ∙ shows_dff i w (gate_at N m) (st m) e))
        (λ e.
        cv m k'
        ∙ shows_comb i v (gate_at N m) (st m) e
        ∙ gate_cong i v w (gate_at N m) (λ x. K x × (R.rank x < R.rank m)) (R.below m k' e) (λ x p. go f x (omega arith) p.0)
        ∙ sym (cw m k' ∙ shows_comb i w (gate_at N m) (st m) e))

-- ON A SORTED NETWORK the forward pass gives the only values that every gate agrees with
pub forward_agrees : (N : Net) → is_topo_sorted N ≡ true → (i st : ℕ → Bool) → Consistent N i st (evaluate N i st)
forward_agrees N e = evaluate_sorted N e

pub forward_only : (N : Net) → is_topo_sorted N ≡ true → (i st v : ℕ → Bool) → Consistent N i st v → (n : ℕ) → n < size N → v n ≡ evaluate N i st n
forward_only N e i st v c n h = agree N (λ m. m < size N) (sorted_ranked N (sorted N e)) i st v (evaluate N i st) c (evaluate_sorted N e i st) n h
