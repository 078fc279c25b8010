-- Counting down a gate's inputs, in the tables: what each function asks and leaves.
use Rattle.std.specs.Prelude.{◌≡◌, Bool, true, false, ℕ, zero, suc, ◌+◌, ◌-◌, ◌/◌, ◌<◌, ◌≤◌, List, length, ltb}
use Rattle.model.specs.Signal.{is_var}
use Rattle.shape.specs.Forms.{Below}
use Rattle.tables.specs.Layout.{net_size, span, input_at, cell, store, count_base, stack_base}

-- words, and where the stack ends
pub record Heap : Type 0 where
  pub words : List ℕ
  pub sp : ℕ

-- signal s counted down: by whether it is a node's, and whether its count is above 1
abbrev pub down_at : Bool → Bool → List ℕ → ℕ → ℕ → Heap
down_at false b l d sp = record { words = l; sp = sp }
down_at true true l d sp = record { words = store l count_base d (cell l count_base d - 1); sp = sp }
down_at true false l d sp = record { words = store (store l count_base d 0) stack_base sp d; sp = sp + 1 }

unfoldable pub down_one : List ℕ → ℕ → ℕ → Heap
down_one l s sp = down_at (is_var s) (ltb 1 (cell l count_base (s / 2 - 1))) l (s / 2 - 1) sp

unfoldable pub down_ins : List ℕ → ℕ → List ℕ → ℕ → ℕ → Heap
down_ins from f l sp zero = record { words = l; sp = sp }
down_ins from f l sp (suc j) = down_one (down_ins from f l sp j).words (input_at from (f + j)) (down_ins from f l sp j).sp

pub record Lowered (h : Heap) (l : List ℕ) (r : ℕ) : Type 0 where
  pub words : l ≡ h.words
  pub sp : r ≡ h.sp

pub record CanDown (l : List ℕ) (s sp : ℕ) : Type 0 where
  pub room : span ≤ length l
  pub named : Below 512 s
  pub deep : sp < 4608

pub record Downs (from l : List ℕ) (f n sp : ℕ) : Type 0 where
  pub long : net_size ≤ length from
  pub room : span ≤ length l
  pub fits : f + n ≤ 2048
  pub named : (j : ℕ) → j < n → Below 512 (input_at from (f + j))
  pub deep : sp + n ≤ 4608
