-- A buffer filled from the front.
use mathlib.Core.Path.{◌≡◌, refl, ap, ◌∙◌}
use Prim.Native.Nat.{ℕ, ◌+◌, ◌≤◌, ◌<◌}
use native.Mathlib.Omega.{arith}
use native.Mathlib.Nat.{le_antisymm}
use mathlib.Core.List.{List, ◌++◌}
use lib.ListN.{length, get_or, set, drop, length-set}
use Rattle.laws.specs.Lists.{tab}
use Rattle.laws.proofs.Tabs.{length_tab, fill_put, fill_read, fill_skip}
use Rattle.model.specs.Answers.{laid_over}

pub record Filled (g : ℕ → ℕ) (l₀ l : List ℕ) (k n : ℕ) : Type 0 where
  pub few : k ≤ n
  pub room : n ≤ length l₀
  pub long : length l ≡ length l₀
  pub is : l ≡ tab g k ++ drop k l₀

module _ (g : ℕ → ℕ) (l₀ : List ℕ) where
  pub filled_none : (n : ℕ) → n ≤ length l₀ → Filled g l₀ l₀ 0 n
  unfolding tab
  filled_none n h = record { few = omega arith; room = h; long = refl; is = refl }

  pub filled_put : (l : List ℕ) (k n x : ℕ) → Filled g l₀ l k n → k < n → x ≡ g k → Filled g l₀ (set l k x) (k + 1) n
  filled_put l k n x h r e =
      record { few = omega arith; room = h.room; long = simp length-set h.long; is = rw (h.is, e) (fill_put g l₀ k (let b = h.room in omega arith)) }

  pub filled_skip : (l : List ℕ) (k n : ℕ) → Filled g l₀ l k n → k < n → g k ≡ get_or l₀ k 0 → Filled g l₀ l (k + 1) n
  filled_skip l k n h r e =
      record { few = omega arith; room = h.room; long = h.long; is = h.is ∙ fill_skip g l₀ k (let b = h.room in omega arith) e }

  pub filled_reads : (l : List ℕ) (k n : ℕ) → Filled g l₀ l k n → k < n → get_or l k 0 ≡ get_or l₀ k 0
  filled_reads l k n h r = ap (λ (m : List ℕ). get_or m k 0) h.is ∙ fill_read g l₀ k (let b = h.room in omega arith)

  pub filled_all : (l : List ℕ) (k n : ℕ) → Filled g l₀ l k n → n ≤ k → l ≡ laid_over (tab g n) l₀
  unfolding laid_over
  filled_all l k n h r = let e : k ≡ n = le_antisymm h.few r in h.is ∙ rw (e, length_tab g n)
