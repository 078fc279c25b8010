-- The outcome of read behind 1, from the image and the length lent.
use Rattle.std.specs.Prelude.{ℕ, List, []}
use Rattle.model.specs.Image.{refusal_of, net_of, image_of}
use Rattle.model.specs.Answers.{Outcome, written, in_room, unless}

unfoldable pub read_work : List ℕ → ℕ → Outcome
read_work img room = in_room room 0 (unless (refusal_of img) (written (image_of (net_of img)) []))
