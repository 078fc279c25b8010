-- What the reader's functions answer, beside the model.
use Rattle.std.specs.Prelude.{ℕ, ◌-◌, Bool, true, false, cond, List, length}
use Rattle.model.specs.Image.{inputs_in, nodes_in, outs_in, span_in, words_of, framed, within, refusal_of, sorted_refusal_of}
use Rattle.image_body.specs.Numbers.{body_number}
use Rattle.image.specs.declared.Frame.{Frame}

unfoldable pub frame_of : List ℕ → Frame
frame_of img = record { start = length img - span_in img; inputs = inputs_in img; nodes = nodes_in img; outs = outs_in img }

-- ---- the numbers

-- 2 and 3
unfoldable pub frame_number : List ℕ → ℕ
frame_number img = cond (framed img) (cond (within img) 0 3) 2

-- 2 to 6, and with 7
abbrev pub number_of : Bool → List ℕ → ℕ
number_of false img = refusal_of img
number_of true img = sorted_refusal_of img

-- the same, as the code meets them; `strict` asks for 7
unfoldable pub image_number : Bool → List ℕ → ℕ
image_number strict img =
    cond (framed img)
    (cond (within img)
    (body_number strict (inputs_in img) (nodes_in img) (outs_in img) (words_of img)) 3) 2
