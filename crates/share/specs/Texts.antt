-- What the program prints (document 01, "Checked by hand"), from its input and what it lends.
use Rattle.std.specs.Prelude.{◌≡◌, ℕ, ◌≤◌, cond, ◌||◌, List, [], ◌∷◌, length, drop, ltb}
use Rattle.model.specs.Answers.{Outcome, refused, written, evaluated, laid_over, in_room, unless}
use Rattle.model.specs.Entries.{share_outcome}
use Rattle.model.specs.Image.{word_at, refusal_of, net_of}
use Rattle.model.specs.Listing.{ascii, decimal, line, listing_of}
use Rattle.tables.specs.Layout.{net_size}

-- "prints `refused 2`; other refusals print their number so"
unfoldable pub refused_text : ℕ → List ℕ
refused_text n = line (ascii "refused") (decimal n ∷ [])

-- the listing of an image's network: 2 to 6, or the text; 13 where it has no room
unfoldable pub list_outcome : List ℕ → ℕ → Outcome
list_outcome img room = in_room room 0 (unless (refusal_of img) (written (listing_of (net_of img)) []))

-- its number, or its result
abbrev pub text_for : Outcome → List ℕ
text_for (refused n) = refused_text n
text_for (written text mapping) = text
text_for (evaluated outputs state) = outputs

-- an entry's number, or the listing of the image that it wrote; `room` is the length lent for the text
abbrev pub printed_for : Outcome → ℕ → List ℕ
printed_for (refused n) room = refused_text n
printed_for (written img mapping) room = text_for (list_outcome img room)
printed_for (evaluated outputs state) room = outputs

-- "Input under 4 or over 16,384 bytes prints `refused 2`"; a word with the limit, then the image
unfoldable pub printed_of : List ℕ → List ℕ → List ℕ → List ℕ → ℕ → List ℕ
printed_of input out a b room =
    cond (ltb (length input) 4 || ltb 16384 (length input)) (refused_text 2) (printed_for (share_outcome (drop 4 input) out a b (word_at input 0)) room)

-- a text stands at the front of a lent buffer, r bytes long, and nothing past it was written
pub record Shown (text b b' : List ℕ) (r : ℕ) : Type 0 where
  pub bytes : b' ≡ laid_over text b
  pub end : r ≡ length text
  pub room : length text ≤ length b

-- an area for the network, and a buffer for the text
pub record Lent (area text : List ℕ) : Type 0 where
  pub long : net_size ≤ length area
  pub room : 32768 ≤ length text
