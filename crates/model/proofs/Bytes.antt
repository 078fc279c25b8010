-- Laws of words and bytes. Whoever uses words cites these and not the definitions.
use mathlib.Core.Path.{◌≡◌, refl, sym, ap, ap₂, ◌∙◌}
use mathlib.Core.List.{List, [], ◌∷◌, ◌++◌}
use Prim.Native.Nat.{ℕ, zero, suc, ◌+◌, ◌*◌, ◌/◌, ◌%◌, ◌<◌}
use native.Mathlib.Omega.{arith}
use native.Mathlib.Nat.{suc-add, add_assoc}
use lib.ListN.{length, take, drop, get_or}
use lib.Seq.{get_or-drop, get_or-append-add, take-nil, drop-nil}
use Rattle.model.specs.Image.{Bytes, Words32, le4, word_at, le_word, words, bytes}

pub le4_le_word : (w : ℕ) → le4 (w % 256) (w / 256 % 256) (w / 65536 % 256) (w / 16777216) ≡ w
le4_le_word w = omega arith

pub words_bytes : (ws : List ℕ) → words (bytes ws) ≡ ws
unfolding words bytes
words_bytes [] = refl
words_bytes (w ∷ ws) = ap₂ {C = List ℕ} (λ x r. x ∷ r) (le4_le_word w) (words_bytes ws)

pub length_words : (b : List ℕ) → length (words b) ≡ length b / 4
unfolding words
length_words [] = refl
length_words (a ∷ []) = refl
length_words (a ∷ b ∷ []) = refl
length_words (a ∷ b ∷ c ∷ []) = refl
length_words (a ∷ b ∷ c ∷ d ∷ r) = omega (arith, length_words r)

pub length_bytes : (ws : List ℕ) → length (bytes ws) ≡ 4 * length ws
unfolding bytes
length_bytes [] = refl
length_bytes (w ∷ ws) = omega (arith, length_bytes ws)

four_suc : (i : ℕ) → 4 * suc i ≡ suc (suc (suc (suc (4 * i))))
four_suc i = omega arith

pub get_or_words : (b : List ℕ) (i : ℕ) → i < length b / 4 → get_or (words b) i 0 ≡ word_at b (4 * i)
unfolding words word_at
get_or_words [] i h = absurd (omega arith)
get_or_words (a ∷ []) i h = absurd (omega arith)
get_or_words (a ∷ b ∷ []) i h = absurd (omega arith)
get_or_words (a ∷ b ∷ c ∷ []) i h = absurd (omega arith)
get_or_words (a ∷ b ∷ c ∷ d ∷ r) zero h = refl
get_or_words (a ∷ b ∷ c ∷ d ∷ r) (suc i) h = get_or_words r i (omega arith) ∙ simp (four_suc, suc-add)

low : (a q : ℕ) → a < 256 → (a + q * 256) % 256 ≡ a
low a q h = omega arith

pub bytes_words : (b : List ℕ) → Bytes b → length b % 4 ≡ 0 → bytes (words b) ≡ b
unfolding words bytes
bytes_words [] h e = refl
bytes_words (a ∷ []) h e = absurd (omega arith)
bytes_words (a ∷ b ∷ []) h e = absurd (omega arith)
bytes_words (a ∷ b ∷ c ∷ []) h e = absurd (omega arith)
bytes_words (a ∷ b ∷ c ∷ d ∷ r) h e =
    let ha : a < 256 = h 0 in
    let hb : b < 256 = h 1 in
    let hc : c < 256 = h 2 in
    let hd : d < 256 = h 3 in
    let e0 : le4 a b c d % 256 ≡ a = omega arith in
    let q1 : le4 a b c d / 256 ≡ b + (c + d * 256) * 256 = omega arith in
    let e1 : le4 a b c d / 256 % 256 ≡ b = ap (λ (x : ℕ). x % 256) q1 ∙ low b (c + d * 256) hb in
    let q2 : le4 a b c d / 65536 ≡ c + d * 256 = omega arith in
    let e2 : le4 a b c d / 65536 % 256 ≡ c = ap (λ (x : ℕ). x % 256) q2 ∙ low c d hc in
    let e3 : le4 a b c d / 16777216 ≡ d = omega arith in
    let q : bytes (words r) ≡ r = bytes_words r (λ i. h (suc (suc (suc (suc i))))) (omega arith) in
    cc

-- a word of a part is a word of the whole
pub word_at_drop : (n : ℕ) (b : List ℕ) (at : ℕ) → word_at (drop n b) at ≡ word_at b (n + at)
unfolding word_at
word_at_drop n b at = simp (get_or-drop, add_assoc)

pub word_at_append : (p r : List ℕ) (at : ℕ) → word_at (p ++ r) (length p + at) ≡ word_at r at
unfolding word_at
word_at_append p r at = simp (add_assoc, get_or-append-add)

-- a word of bytes fits 32 bits
pub words_small : (b : List ℕ) → Bytes b → Words32 (words b)
unfolding words
words_small [] h i = omega arith
words_small (a ∷ []) h i = omega arith
words_small (a ∷ b ∷ []) h i = omega arith
words_small (a ∷ b ∷ c ∷ []) h i = omega arith
words_small (a ∷ b ∷ c ∷ d ∷ r) h zero =
    let ha : a < 256 = h 0 in
    let hb : b < 256 = h 1 in
    let hc : c < 256 = h 2 in
    let hd : d < 256 = h 3 in
    omega arith
words_small (a ∷ b ∷ c ∷ d ∷ r) h (suc i) = words_small r (λ j. h (suc (suc (suc (suc j))))) i

-- the bytes of a part
pub bytes_drop : (n : ℕ) (b : List ℕ) → Bytes b → Bytes (drop n b)
bytes_drop n b h i = rw get_or-drop (h (n + i))

-- ---- lists of words

pub bytes_take : (k : ℕ) (ws : List ℕ) → bytes (take k ws) ≡ take (4 * k) (bytes ws)
unfolding bytes
bytes_take zero ws = refl
bytes_take (suc k) [] = sym (take-nil (4 * suc k))
bytes_take (suc k) (w ∷ ws) = let e = bytes_take k ws in simp four_suc (ap (λ (r : List ℕ). le_word w ++ r) e)

pub bytes_after : (k : ℕ) (ws : List ℕ) → bytes (drop k ws) ≡ drop (4 * k) (bytes ws)
unfolding bytes
bytes_after zero ws = refl
bytes_after (suc k) [] = sym (drop-nil (4 * suc k))
bytes_after (suc k) (w ∷ ws) = simp four_suc (bytes_after k ws)

pub words_append : (xs ys : List ℕ) → Words32 xs → Words32 ys → Words32 (xs ++ ys)
words_append [] ys p q i = q i
words_append (x ∷ xs) ys p q zero = p 0
words_append (x ∷ xs) ys p q (suc i) = words_append xs ys (λ j. p (suc j)) q i

pub words_cons : (x : ℕ) (xs : List ℕ) → x < 4294967296 → Words32 xs → Words32 (x ∷ xs)
words_cons x xs p q zero = p
words_cons x xs p q (suc i) = q i

pub words_nil : Words32 []
words_nil i = omega arith

-- a list of words is written in bytes
pub bytes_small : (ws : List ℕ) → Words32 ws → Bytes (bytes ws)
unfolding bytes
bytes_small [] h i = omega arith
bytes_small (w ∷ ws) h zero = omega arith
bytes_small (w ∷ ws) h (suc zero) = omega arith
bytes_small (w ∷ ws) h (suc (suc zero)) = omega arith
bytes_small (w ∷ ws) h (suc (suc (suc zero))) = let p : w < 4294967296 = h 0 in omega arith
bytes_small (w ∷ ws) h (suc (suc (suc (suc i)))) = bytes_small ws (λ j. h (suc j)) i
