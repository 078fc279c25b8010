-- Laws of the trailer's four words.
use mathlib.Core.Path.{◌≡◌}
use mathlib.Core.List.{List}
use Prim.Native.Nat.{ℕ, ◌+◌}
use native.Mathlib.Omega.{arith}
use Rattle.words.specs.Stores.{put_word}
use Rattle.tables.specs.declared.counts.Counts.{Counts}
use Rattle.image_trailer.specs.Trailers.{put_words, trailer_words}

pub trailer_put : (c : Counts) (b : List ℕ) (at : ℕ) (b1 b2 b3 b4 : List ℕ) → b1 ≡ put_word b at c.inputs → b2 ≡ put_word b1 (at + 4) c.nodes
    → b3 ≡ put_word b2 (at + 8) c.outs → b4 ≡ put_word b3 (at + 12) (at + 16) → b4 ≡ put_words b at (trailer_words c at)
unfolding put_words
trailer_put c b at b1 b2 b3 b4 e1 e2 e3 e4 =
    let p : at + 4 + 4 ≡ at + 8 = omega arith in
    let q : at + 8 + 4 ≡ at + 12 = omega arith in
    rw (p, q, ← e1, ← e2, ← e3) e4
