-- Words stored one after the other in bytes.
use mathlib.Core.Path.{◌≡◌, refl, sym, ap, ap₂, ◌∙◌}
use mathlib.Core.List.{List, [], ◌∷◌, ◌++◌, append_assoc}
use Prim.Native.Nat.{ℕ, suc, ◌+◌, ◌*◌, ◌≤◌, ◌<◌}
use native.Mathlib.Numerals.{add-one}
use native.Mathlib.Omega.{arith}
use lib.ListN.{length, get_or, set, take, drop, length-append, take-append-drop}
use lib.Seq.{length-take-le, take_at, drop-append-add, drop-drop, drop-cons, set_at, append_snoc}
use Rattle.laws.specs.Lists.{tab}
use Rattle.laws.proofs.Tabs.{length_tab}
use Rattle.model.specs.Image.{le_word, bytes}
use Rattle.model.specs.Answers.{laid_over}
use Rattle.model.proofs.Bytes.{length_bytes}
use Rattle.words.specs.Stores.{put_word}
use Rattle.words.proofs.Laws.{put_word_list, length_put_word}
use Rattle.image_trailer.specs.Trailers.{put_words}
use Rattle.write_image.specs.Writing.{Put}

pub length_put_words : (b : List ℕ) (at : ℕ) (ws : List ℕ) → length (put_words b at ws) ≡ length b
unfolding put_words
length_put_words b at [] = refl
length_put_words b at (w ∷ ws) = length_put_words (put_word b at w) (at + 4) ws ∙ length_put_word b at w

pub put_words_append : (b : List ℕ) (at : ℕ) (xs ys : List ℕ) → put_words b at (xs ++ ys) ≡ put_words (put_words b at xs) (at + 4 * length xs) ys
unfolding put_words
put_words_append b at [] ys = ap (λ (n : ℕ). put_words b n ys) (omega arith)
put_words_append b at (x ∷ xs) ys =
    put_words_append (put_word b at x) (at + 4) xs ys ∙ ap (λ (n : ℕ). put_words (put_words (put_word b at x) (at + 4) xs) n ys) (omega arith)

pub put_words_one : (b : List ℕ) (at w : ℕ) → put_words b at (w ∷ []) ≡ put_word b at w
unfolding put_words
put_words_one b at w = refl

-- behind what was stored
pub put_none : (b : List ℕ) (at : ℕ) → Put b at [] b at
unfolding put_words
put_none b at = record { bytes = refl; end = omega arith }

pub put_more : (b : List ℕ) (at : ℕ) (xs b' : List ℕ) (r : ℕ) → Put b at xs b' r → (ys b'' : List ℕ) → b'' ≡ put_words b' r ys → Put b at (xs ++ ys) b'' (r + 4 * length ys)
put_more b at xs b' r P ys b'' e = record {
  bytes = e ∙ rw (P.bytes, P.end) (sym (put_words_append b at xs ys));
  end = rw length-append (omega (arith, P.end));
}

-- the values of a function, one by one
pub put_next : (b : List ℕ) (at : ℕ) (f : ℕ → ℕ) (j : ℕ) (b' : List ℕ) → b' ≡ put_words b at (tab f j) → (s : ℕ) → s ≡ f j
    → put_word b' (at + 4 * j) s ≡ put_words b at (tab f (suc j))
unfolding tab
put_next b at f j b' e s k =
    rw (e, k)
    (sym (put_words_append b at (tab f j) (f j ∷ []) ∙ put_words_one (put_words b at (tab f j)) (at + 4 * length (tab f j)) (f j)
    ∙ ap (λ (n : ℕ). put_word (put_words b at (tab f j)) (at + 4 * n) (f j)) (length_tab f j)))

pub put_words_list : (b : List ℕ) (at : ℕ) (ws : List ℕ) → at + 4 * length ws ≤ length b
    → put_words b at ws ≡ take at b ++ (bytes ws ++ drop (at + 4 * length ws) b)
unfolding put_words bytes
put_words_list b at [] h = let z : at + 4 * 0 ≡ at = omega arith in rw z (sym (take-append-drop at b))
put_words_list b at (w ∷ ws) h =
    let p = take at b ++ le_word w in
    let q = drop (at + 4) b in
    let m = 4 * length ws in
    let c = put_word b at w in
    let e : c ≡ p ++ q = put_word_list b at w (omega arith) ∙ sym (append_assoc (take at b) (le_word w) q) in
    let s : length p ≡ at + 4 = length-append (take at b) (le_word w) ∙ ap (λ (n : ℕ). n + 4) (length-take-le at b (omega arith)) in
    let t : take (at + 4) c ≡ p = ap (take (at + 4)) e ∙ take_at p q (at + 4) s in
    let z : at + 4 + m ≡ at + 4 * suc (length ws) = omega arith in
    let d : drop (at + 4 + m) c ≡ drop (at + 4 * suc (length ws)) b =
    ap (drop (at + 4 + m)) e ∙ ap (λ (n : ℕ). drop (n + m) (p ++ q)) (sym s) ∙ drop-append-add p q m ∙ drop-drop m (at + 4) b ∙ ap (λ (n : ℕ). drop n b) z in
    put_words_list c (at + 4) ws (rw length_put_word (omega arith))
    ∙ ap₂ {C = List ℕ} (λ x y. x ++ (bytes ws ++ y)) t d
    ∙ append_assoc (take at b) (le_word w) (bytes ws ++ drop (at + 4 * suc (length ws)) b)
    ∙ ap (λ (x : List ℕ). take at b ++ x) (sym (append_assoc (le_word w) (bytes ws) (drop (at + 4 * suc (length ws)) b)))

-- from the front on, that is the words' bytes laid over the buffer
pub put_words_laid : (b ws : List ℕ) → 4 * length ws ≤ length b → put_words b 0 ws ≡ laid_over (bytes ws) b
unfolding laid_over
put_words_laid b ws h =
    let z : 0 + 4 * length ws ≡ length (bytes ws) = omega (arith, length_bytes ws) in
    put_words_list b 0 ws (omega arith) ∙ ap (λ (n : ℕ). bytes ws ++ drop n b) z

-- one more element laid over a buffer
pub laid_none : (b : List ℕ) → b ≡ laid_over [] b
unfolding laid_over
laid_none b = refl

pub laid_next : (xs b : List ℕ) (n x : ℕ) → length xs ≡ n → n < length b → set (laid_over xs b) n x ≡ laid_over (xs ++ (x ∷ [])) b
unfolding laid_over
laid_next xs b n x e h =
    rw (e, length-append, e, drop-cons b n 0 h) (set_at xs (get_or b n 0) (drop (suc n) b) x n e ∙ sym (append_snoc xs x (drop (suc n) b)) ∙ rw add-one)
