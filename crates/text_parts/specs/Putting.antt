-- A text put into a buffer at a place.
use Rattle.std.specs.Prelude.{◌≡◌, ℕ, suc, ◌+◌, min, List, [], ◌∷◌, length, set}
use Rattle.text_parts.specs.declared.Text.{Text}

-- a place in a buffer: a usize, and the greatest one stands for all beyond
abbrev pub place : ℕ → ℕ
place n = min n 18446744073709551615

-- the bytes of a text from `at` on; what lies past the buffer's end is left out
unfoldable pub put_text : List ℕ → ℕ → List ℕ → List ℕ
put_text b at [] = b
put_text b at (x ∷ text) = put_text (set b at x) (suc at) text

-- a text was put from `at` on, and r is the place behind it
pub record Put (b : List ℕ) (at : ℕ) (text b' : List ℕ) (r : ℕ) : Type 0 where
  pub bytes : b' ≡ put_text b at text
  pub behind : r ≡ place (at + length text)

-- a text was put behind what stood there, in the same lent buffer
pub record Wrote (t : Text) (text : List ℕ) (t' : Text) : Type 0 where
  pub put : Put t.out.now t.at text t'.out.now t'.at
  pub same : t'.out.ghost_name ≡ t.out.ghost_name
