-- Where record k lies, beside the model.
use Rattle.std.specs.Prelude.{ℕ, ◌+◌, cond, Option, Some, None, List, length}
use Rattle.std.specs.declared.ops.Range.{Range}
use Rattle.model.specs.Image.{has_record, record_of, record_at_of}

-- its bytes, if there is one
unfoldable pub place_of : List ℕ → ℕ → Option (Range ℕ)
place_of img k = cond (has_record img k) (Some (record { start = record_at_of img k; end = record_at_of img k + length (record_of img k) })) None
