-- The gate under work, whose inputs stand in a list in the area that is searched.
use Rattle.std.specs.Prelude.{ℕ, ◌+◌, ◌*◌, ◌^◌, ◌≤◌, ◌<◌, Bool, List, length}
use Rattle.laws.specs.Lists.{tab}
use Rattle.model.specs.Gate.{Gate}
use Rattle.model.specs.Network.{same_list}
use Rattle.tables.specs.Layout.{first_at, count_at, input_at, cell}
use Rattle.same_gate.specs.declared.Sought.{Sought}

-- where the list begins
abbrev pub list_base : ℕ
list_base = 11328

-- the gate that is sought, its inputs in the list of l
unfoldable pub listed : List ℕ → Sought → Gate
listed l g = record { kind = g.kind; ins = tab (cell l list_base) g.n; table = g.low + 2 ^ 32 * g.high }

-- whether the n inputs from f on are those in the list
unfoldable pub same_ins : List ℕ → ℕ → ℕ → Bool
same_ins l f n = same_list (tab (cell l list_base) n) (tab (λ j. input_at l (f + j)) n)

-- asked of the area that is searched: the inputs of n nodes stand in the input table
pub record Searched (l : List ℕ) (n : ℕ) : Type 0 where
  pub long : 16384 ≤ length l
  pub few : n ≤ 512
  pub ends : (w : ℕ) → w < n → first_at l w + count_at l w ≤ 2048
