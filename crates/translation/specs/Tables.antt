-- The translation that a table of words holds, and a table cleared.
use Rattle.std.specs.Prelude.{ℕ, zero, suc, List, get_or, take, drop}
use Rattle.model.specs.Signal.{remap_order}
use Rattle.tables.specs.Layout.{output_at, store, tr_base}

-- l with the first k words of the table at b zero
unfoldable pub cleared_table : List ℕ → ℕ → ℕ → List ℕ
cleared_table l b zero = l
cleared_table l b (suc k) = store (cleared_table l b k) b k 0

-- the translation that the table of words holds: a signal for each of 512 nodes
unfoldable pub tr_of : List ℕ → ℕ → ℕ
tr_of l v = get_or (take 512 (drop tr_base l)) v 0

-- the outputs of `from`, put through the translation t
unfoldable pub outputs_by : List ℕ → (ℕ → ℕ) → ℕ → ℕ
outputs_by from t j = remap_order t (output_at from j)
