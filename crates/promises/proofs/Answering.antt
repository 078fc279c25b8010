-- What flatten, factor or share answers, case by case: the lines of `Answers` in Promises.
use mathlib.Core.Path.{◌≡◌, ◌∙◌}
use mathlib.Core.Logic.{◌≢◌}
use Prim.Native.Nat.{ℕ, ◌≤◌, ◌<◌}
use mathlib.Core.Bool.{true, false}
use mathlib.Core.List.{List, []}
use lib.ListN.{length}
use borrow.Author.Tests.{le-leb, lt-leb, ne_eqb}
use Rattle.model.specs.Answers.{Answer}
use Rattle.std.specs.Prelude.{Ok, Err}
use Rattle.model.specs.Image.{sorted_refusal_of}
use Rattle.model.specs.Answers.{answer_of, areas_short, in_areas, in_room, unless, written}

module _ (img out a b : List ℕ) (k : ℕ) (image : List ℕ) (r : Answer) where
  pub told : r ≡ answer_of (in_areas a b (in_room (length out) 0 (unless (sorted_refusal_of img) (unless k (written image [])))))
      → (areas_short a b ≡ true → r ≡ Err 1)
      × (areas_short a b ≡ false → sorted_refusal_of img ≢ 0 → r ≡ Err (sorted_refusal_of img))
      × (areas_short a b ≡ false → sorted_refusal_of img ≡ 0 → k ≢ 0 → r ≡ Err k)
      × (areas_short a b ≡ false → sorted_refusal_of img ≡ 0 → k ≡ 0 → length out < length image → r ≡ Err 13)
      × (areas_short a b ≡ false → sorted_refusal_of img ≡ 0 → k ≡ 0 → length image ≤ length out → r ≡ Ok (length image))
  unfolding in_areas unless
  told e = (
    λ short. e ∙ rw short,
    λ long bad. e ∙ rw (long, ne_eqb (sorted_refusal_of img) 0 bad),
    λ long sound met. e ∙ rw (long, sound, ne_eqb k 0 met),
    λ long sound none less. e ∙ rw (long, sound, none, lt-leb (length image) (length out) less),
    λ long sound none room. e ∙ rw (long, sound, none, le-leb (length image) (length out) room),
  )
