-- Words stored in bytes, and the trailer's.
use Rattle.std.specs.Prelude.{ℕ, ◌+◌, ◌≤◌, List, [], ◌∷◌, length}
use Rattle.words.specs.Stores.{put_word}
use Rattle.tables.specs.declared.counts.Counts.{Counts}

-- bytes with words stored from `at` on
unfoldable pub put_words : List ℕ → ℕ → List ℕ → List ℕ
put_words b at [] = b
put_words b at (w ∷ ws) = put_words (put_word b at w) (at + 4) ws

-- a trailer at the byte `at` of an image without prefix
abbrev pub trailer_words : Counts → ℕ → List ℕ
trailer_words c at = c.inputs ∷ c.nodes ∷ c.outs ∷ (at + 16) ∷ []

pub record Trailer (c : Counts) (out : List ℕ) (at : ℕ) : Type 0 where
  pub inputs_few : c.inputs ≤ 1024
  pub nodes_few : c.nodes ≤ 512
  pub outs_few : c.outs ≤ 64
  pub few : at ≤ 14592
  pub room : at + 16 ≤ length out
