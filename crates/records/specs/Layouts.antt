-- The layout of the records, beside the model.
use Rattle.std.specs.Prelude.{ℕ, ◌+◌, ◌/◌, ◌%◌, cond, ◌&&◌, Option, Some, None, List, leb, eqb}
use Rattle.model.specs.Gate.{fanin}
use Rattle.model.specs.Image.{extra, size_at, sound_at, gates_from, sound_from, end_from}

-- the words of a record with the header h
unfoldable pub size_of : ℕ → ℕ
size_of h = 1 + h / 256 + extra (h % 256)

-- the size of the record at a position if it is sound and ends at the limit or before
unfoldable pub fit_at : List ℕ → ℕ → ℕ → Option ℕ
fit_at ws at lim = cond (sound_at ws at && leb (at + size_at ws at) lim) (Some (size_at ws at)) None

-- k records from a position on, with t gate inputs before them: sound and ending at the limit, with the gate inputs in all
unfoldable pub laid_from : ℕ → List ℕ → ℕ → ℕ → ℕ → Option ℕ
laid_from k ws at t lim = cond (sound_from k ws at && eqb (end_from k ws at) lim) (Some (t + fanin (gates_from k ws at))) None
