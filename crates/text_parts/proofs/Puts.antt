-- Texts put one after the other.
use mathlib.Core.Path.{◌≡◌, refl, sym, ap, ◌∙◌, subst}
use Prim.Native.Nat.{ℕ, suc, ◌+◌, ◌≤◌, ◌<◌, ◌^◌}
use native.Mathlib.Nat.{le_of_suc-le-suc, not-suc-le-zero}
use native.Mathlib.Omega.{arith}
use native.Mathlib.Decide.{dec_lt}
use native.Mathlib.Numerals.{add-one}
use mathlib.Core.Bool.{Bool, false}
use mathlib.Core.List.{List, [], ◌∷◌, ◌++◌}
use lib.ListN.{length, set, drop, get_or, take, length-append, length-set}
use lib.Seq.{set_out, set-append_seam, append_snoc, take-suc}
use Rattle.model.specs.Answers.{laid_over}
use Rattle.model.specs.Listing.{mark_text}
use Rattle.text_parts.specs.declared.Text.{Text}
use Rattle.text_parts.specs.Putting.{place, put_text, Put, Wrote}

pub put_text_append : (b : List ℕ) (at : ℕ) (xs ys : List ℕ) → put_text b at (xs ++ ys) ≡ put_text (put_text b at xs) (at + length xs) ys
unfolding put_text
put_text_append b at [] ys = ap (λ (n : ℕ). put_text b n ys) (omega arith)
put_text_append b at (x ∷ xs) ys =
    put_text_append (set b at x) (suc at) xs ys ∙ ap (λ (n : ℕ). put_text (put_text (set b at x) (suc at) xs) n ys) (omega arith)

pub length_put_text : (b : List ℕ) (at : ℕ) (xs : List ℕ) → length (put_text b at xs) ≡ length b
unfolding put_text
length_put_text b at [] = refl
length_put_text b at (x ∷ xs) = length_put_text (set b at x) (suc at) xs ∙ length-set b at x

-- past the buffer's end nothing is put
put_text_out : (b : List ℕ) (at : ℕ) (xs : List ℕ) → length b ≤ at → put_text b at xs ≡ b
unfolding put_text
put_text_out b at [] h = refl
put_text_out b at (x ∷ xs) h =
    ap (λ (c : List ℕ). put_text c (suc at) xs) (set_out b at x h) ∙ put_text_out b (suc at) xs (omega arith)

put_text_place : (b : List ℕ) (p : ℕ) (xs : List ℕ) → length b < 2 ^ 64 → put_text b (place p) xs ≡ put_text b p xs
put_text_place b p xs h = elim (dec_lt p 18446744073709551616) [
  | yes l ↦ ap (λ (n : ℕ). put_text b n xs) (omega arith)
  | no l ↦ put_text_out b (place p) xs (omega arith) ∙ sym (put_text_out b p xs (omega arith))
]

-- from the front on, that is the text laid over the buffer
put_text_front : (p b xs : List ℕ) → length xs ≤ length b → put_text (p ++ b) (length p) xs ≡ p ++ (xs ++ drop (length xs) b)
unfolding put_text
put_text_front p b [] h = refl
put_text_front p [] (x ∷ xs) h = absurd (not-suc-le-zero h)
put_text_front p (y ∷ b) (x ∷ xs) h =
    let q = p ++ (x ∷ []) in
    let e : set (p ++ (y ∷ b)) (length p) x ≡ q ++ b = set-append_seam p y b x ∙ sym (append_snoc p x b) in
    let l : suc (length p) ≡ length q = rw (length-append p (x ∷ [])) (omega arith) in
    rw (e, l) (put_text_front q b xs (le_of_suc-le-suc h) ∙ append_snoc p x (xs ++ drop (length xs) b))

pub put_text_laid : (b xs : List ℕ) → length xs ≤ length b → put_text b 0 xs ≡ laid_over xs b
unfolding laid_over
put_text_laid b xs h = put_text_front [] b xs h

-- ---- what was put

put_none : (b : List ℕ) (at : ℕ) → at < 2 ^ 64 → Put b at [] b at
unfolding put_text
put_none b at h = record { bytes = refl; behind = omega arith }

put_then : {b : List ℕ} {at : ℕ} {xs b' : List ℕ} {r : ℕ} {ys b'' : List ℕ} {s : ℕ} → length b < 2 ^ 64 → Put b at xs b' r → Put b' r ys b'' s
    → Put b at (xs ++ ys) b'' s
put_then {b} {at} {xs} {b'} {r} {ys} {b''} {s} h P Q = record {
  bytes =
      Q.bytes
      ∙ rw (P.behind, P.bytes) (put_text_place (put_text b at xs) (at + length xs) ys (rw length_put_text h) ∙ sym (put_text_append b at xs ys));
  behind = rw length-append (omega (arith, Q.behind, P.behind));
}

-- ---- what was written

pub wrote_none : (t : Text) → Wrote t [] t
wrote_none t = record { put = put_none t.out.now t.at t.fits.0; same = refl }

pub wrote_then : {t t' t'' : Text} {xs ys : List ℕ} → Wrote t xs t' → Wrote t' ys t'' → Wrote t (xs ++ ys) t''
wrote_then {t} P Q = record { put = put_then t.fits.1 P.put Q.put; same = Q.same ∙ P.same }

-- the same text, said otherwise
pub wrote_as : {t t' : Text} {xs ys : List ℕ} → xs ≡ ys → Wrote t xs t' → Wrote t ys t'
wrote_as e P = rw (← e) P

-- what the buffer holds when it comes back
pub put_back : {t t' : Text} {xs b' : List ℕ} → Wrote t xs t' → (t.out.ghost_name ≡ t'.out.ghost_name → b' ≡ t'.out.now)
    → Put t.out.now t.at xs b' t'.at
put_back {t} {t'} {xs} P back = subst (λ (b : List ℕ). Put t.out.now t.at xs b t'.at) (sym (back (sym P.same))) P.put

-- ---- put

module _ (t : Text) (x : ℕ) (t' : Text) (behind : t'.at ≡ place (t.at + 1)) (same : t'.out.ghost_name ≡ t.out.ghost_name) where
  pub byte_put : t'.out.now ≡ set t.out.now t.at x → Wrote t (x ∷ []) t'
  unfolding put_text
  byte_put e = record { put = record { bytes = e; behind = behind }; same = same }

  pub byte_past : length t.out.now ≤ t.at → t'.out.now ≡ t.out.now → Wrote t (x ∷ []) t'
  byte_past h e = byte_put (e ∙ sym (set_out t.out.now t.at x h))

-- ---- put_mark

pub mark_none : (t : Text) (b : Bool) → b ≡ false → Wrote t (mark_text b) t
mark_none t b e = rw e (wrote_none t)

-- ---- a text byte by byte

module _ (t : Text) (text : List ℕ) where
  pub all_none : Wrote t (take 0 text) t
  all_none = wrote_none t

  pub all_next : (i : ℕ) (t' : Text) → Wrote t (take i text) t' → i < length text → (t'' : Text) → Wrote t' (get_or text i 0 ∷ []) t''
      → Wrote t (take (i + 1) text) t''
  all_next i t' P h t'' Q = rw (add-one i, take-suc text i 0 h) (wrote_then P Q)

pub ruleset bytes = (all_none, all_next)
