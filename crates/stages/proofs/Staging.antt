-- The stages of sharing, one after the other: what each leaves is what the next asks.
use mathlib.Core.Path.{◌≡◌, refl, sym, ap, ap₂, ◌∙◌}
use Prim.Native.Nat.{ℕ, ◌≤◌}
use native.Mathlib.Omega.{arith}
use mathlib.Core.Bool.{false}
use mathlib.Core.List.{List}
use lib.ListN.{length}
use lib.Dec.{eqb}
use borrow.Author.Tests.{ne_eqb}
use Rattle.model.specs.Gate.{Net}
use Rattle.tables.specs.Layout.{net_of, outputs_of}
use Rattle.tables.specs.Holding.{network_of}
use Rattle.tables.specs.declared.counts.Counts.{Counts}
use Rattle.tables.proofs.Holding.{size_network, length_outputs_of}
use Rattle.growth.specs.Growing.{counts_of}
use Rattle.std.specs.Prelude.{Result, Ok, Err}
use Rattle.refusals.specs.Numbers.{number}
use Rattle.refusals.specs.declared.Refusal.{Refusal}
use Rattle.refusals.proofs.Numbers.{number_above, unless_number, unless_ok_number, unless_ok_value, unless_err}
use Rattle.stages.specs.Stages.{Workable, Left, Staged, first_met}

-- ---- the counts of a network that is held are its own

counts_network : (l : List ℕ) (r : Counts) → r ≡ counts_of (network_of l r)
unfolding network_of net_of outputs_of
counts_network l r = ap₂ (λ n o. record { inputs = r.inputs; nodes = n; outs = o }) (sym (size_network l r)) (sym (length_outputs_of l r.outs))

counts_held : (l : List ℕ) (r : Counts) (N : Net) → network_of l r ≡ N → r ≡ counts_of N
counts_held l r N e = counts_network l r ∙ ap counts_of e

left_counts : (N : Net) (l : List ℕ) (r : Counts) → Left N l r → r ≡ counts_of N
left_counts N l r L = counts_held l r N L.holds.net

-- ---- a stage that is not refused, and one that is

module _ (k : ℕ) (N : Net) (l : List ℕ) where
  pub staged_passes : (d : Counts) → Staged k N l (Ok d) → (k ≡ 0) × (d ≡ counts_of N)
  staged_passes d S = (unless_ok_number (Ok d) k (counts_of N) d S.answer refl, unless_ok_value (Ok d) k (counts_of N) d S.answer refl)

  pub staged_number : (e : Refusal) → Staged k N l (Err e) → k ≡ number e
  staged_number e S = sym (unless_err (Err e) k (counts_of N) e S.answer refl)

pub staged_left : (N : Net) (l : List ℕ) (r : Counts) → Left N l r → Staged 0 N l (Ok r)
staged_left N l r L = record { answer = ap Ok (left_counts N l r L); left = λ e. rw (← left_counts N l r L) L }

-- refused with its own number
pub staged_refused : (k : ℕ) (N : Net) (l : List ℕ) (e : Refusal) → k ≡ number e → Staged k N l (Err e)
staged_refused k N l e q = record {
  answer = rw q (sym (unless_number e (counts_of N)));
  left = λ z. let h = number_above e in absurd (omega arith);
}

-- and passed up
pub staged_up : (k : ℕ) (N : Net) (l : List ℕ) (r : Result Counts Refusal) (x e : Refusal) → r ≡ Err x → x ≡ e → k ≡ number e → Staged k N l r
staged_up k N l r x e p q h = rw (p, q) (staged_refused k N l e h)

-- a stage's network, asked by the next
module _ (k : ℕ) (N : Net) (m : List ℕ) where
  module _ (d : Counts) (S : Staged k N m (Ok d)) where
    passed : (k ≡ 0) × (d ≡ counts_of N)
    passed = staged_passes k N m d S

    left_is : Left N m d
    left_is = rw passed.1 (S.left passed.0)

    pub next_asks : (from : List ℕ) → 16384 ≤ length m → 16384 ≤ length from → Workable m from d
    next_asks from h g = record { held = left_is.holds.held; sorted = rw left_is.holds.net left_is.sorted; long_from = h; long_to = g }

    -- what the next stage leaves, by its number K and its network F of the network that it found
    pub next_leaves : (K : Net → ℕ) (F : Net → Net) (l : List ℕ) (s : Result Counts Refusal) → Staged (K (network_of m d)) (F (network_of m d)) l s
        → Staged (first_met k (K N)) (F N) l s
    next_leaves K F l s T = rw passed.0 (rw left_is.holds.net at T)

  pub next_refused : (e : Refusal) → Staged k N m (Err e) → (j : ℕ) (M : Net) (l : List ℕ) (r : Result Counts Refusal) (x : Refusal) → r ≡ Err x → x ≡ e
      → Staged (first_met k j) M l r
  next_refused e S j M l r x p q =
      let z : k ≡ number e = staged_number k N m e S in
      let h = number_above e in
      let y : eqb k 0 ≡ false = ne_eqb k 0 (λ w. omega arith) in
      staged_up (first_met k j) M l r x e p q (rw y z)

-- the area that the first stage left its network in, and the other, for the next stage
pub next_workable : (from to from' m : List ℕ) (c d : Counts) → Workable from to c → (k : ℕ) (N : Net) → Staged k N m (Ok d)
    → length from' ≡ length from → length m ≡ length to → Workable m from' d
next_workable from to from' m c d W k N S h g = next_asks k N m d S from' (rw g W.long_to) (rw h W.long_from)
