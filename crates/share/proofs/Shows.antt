-- Texts at the front of a lent buffer: what each function met, and what it shows.
use mathlib.Core.Path.{◌≡◌, sym, ap, ◌∙◌}
use Prim.Native.Nat.{ℕ, ◌≤◌, ◌<◌}
use native.Mathlib.Omega.{arith}
use mathlib.Core.Bool.{◌&&◌}
use mathlib.Core.List.{List, [], ◌∷◌, ◌++◌, append_assoc}
use lib.ListN.{length, take, drop, length-append}
use lib.Seq.{take_at}
use lib.Dec.{eqb, leb}
use borrow.Author.Tests.{lt-ltb, le-ltb}
use Rattle.std.specs.Prelude.{Result, Ok, Err}
use Rattle.refusals.specs.Numbers.{number, numbered}
use Rattle.refusals.specs.declared.Refusal.{Refusal}
use Rattle.laws.proofs.Choices.{by_bool}
use Rattle.model.specs.Answers.{Outcome, refused, written, evaluated, answer_of, result_after, laid_over, areas_short, in_areas, in_room, unless, Kept}
use Rattle.model.specs.Image.{refusal_of, net_of}
use Rattle.model.specs.Listing.{ascii, decimal, line, spaced, listing_of}
use Rattle.tables.specs.Working.{Answered}
use Rattle.text_parts.specs.Putting.{Put, Wrote}
use Rattle.text_parts.specs.declared.Text.{Text}
use Rattle.listing.proofs.Decimals.{decimal_short}
use Rattle.text_parts.proofs.Puts.{wrote_then, wrote_as, put_text_laid}
use Rattle.share.specs.Texts.{refused_text, list_outcome, text_for, printed_for, printed_of, Shown}

-- ---- refuse

refused_text_lem : (n : ℕ) → refused_text n ≡ ascii "refused " ++ (decimal n ++ (10 ∷ []))
unfolding refused_text line spaced
refused_text_lem n = simp append_assoc

refused_short : (n : ℕ) → n < 4294967296 → length (refused_text n) ≤ 19
refused_short n h =
    let d : length (decimal n) ≤ 10 = decimal_short 9 n (omega arith) in
    rw (refused_text_lem n, length-append (decimal n) (10 ∷ [])) (omega arith)

pub refused_wrote : (n : ℕ) {t t1 t2 t3 : Text} → Wrote t (ascii "refused ") t1 → Wrote t1 (decimal n) t2 → Wrote t2 (10 ∷ []) t3 → Wrote t (refused_text n) t3
refused_wrote n P1 P2 P3 = wrote_as (append_assoc (ascii "refused ") (decimal n) (10 ∷ []) ∙ sym (refused_text_lem n)) (wrote_then (wrote_then P1 P2) P3)

pub refused_shown : (n : ℕ) {b b' : List ℕ} {r : ℕ} → n < 4294967296 → 32768 ≤ length b → Put b 0 (refused_text n) b' r → Shown (refused_text n) b b' r
refused_shown n {b} {b'} {r} h l P =
    let s = refused_short n h in
    record {
      bytes = P.bytes ∙ put_text_laid b (refused_text n) (omega arith);
      end = omega (arith, P.behind);
      room = omega arith;
    }

-- ---- an outcome that is no cycle's

unfoldable pub Plain : Outcome → Type 0
Plain (refused n) = Unit
Plain (written image mapping) = Unit
Plain (evaluated outputs state) = ⊥

pub plain_written : (image mapping : List ℕ) → Plain (written image mapping)
unfolding Plain
plain_written image mapping = tt

pub plain_unless : (n : ℕ) (o : Outcome) → Plain o → Plain (unless n o)
unfolding Plain unless
plain_unless n o h = by_bool (eqb n 0) (λ e. rw e h) (λ e. rw e tt)

pub plain_room : (room mapping : ℕ) (o : Outcome) → Plain o → Plain (in_room room mapping o)
unfolding Plain
plain_room room mapping (refused n) h = tt
plain_room room mapping (written w m) h = by_bool (leb (length w) room && leb (length m) mapping) (λ e. rw e tt) (λ e. rw e tt)
plain_room room mapping (evaluated _ _) h = elim h [ ]

pub plain_areas : (a b : List ℕ) (o : Outcome) → Plain o → Plain (in_areas a b o)
unfolding Plain in_areas
plain_areas a b o h = by_bool (areas_short a b) (λ e. rw e tt) (λ e. rw e h)

plain_list : (img : List ℕ) (room : ℕ) → Plain (list_outcome img room)
unfolding list_outcome
plain_list img room =
    let o = written (listing_of (net_of img)) [] in
    plain_room room 0 (unless (refusal_of img) o) (plain_unless (refusal_of img) o (plain_written (listing_of (net_of img)) []))

-- a result that was laid over a buffer had room
laid_room : (x b : List ℕ) → length (laid_over x b) ≡ length b → length x ≤ length b
unfolding laid_over
laid_room x b e = omega (arith, e, length-append x (drop (length x) b))

-- ---- show

outcome_refused : (o : Outcome) (b : List ℕ) (n : ℕ) (b1 : List ℕ) → Err n ≡ answer_of o → b1 ≡ result_after o b → (b2 : List ℕ) (p : ℕ)
    → Shown (refused_text n) b1 b2 p → Shown (text_for o) b b2 p
outcome_refused (refused m) b n b1 e f b2 p S = let z : n ≡ m = cc in rw (← z, ← f) S
outcome_refused (written w m) b n b1 e f b2 p S = let z : ◌≡◌ {A = ℕ} 0 1 = cc in absurd (omega arith)
outcome_refused (evaluated w m) b n b1 e f b2 p S = let z : ◌≡◌ {A = ℕ} 0 1 = cc in absurd (omega arith)

outcome_written : (o : Outcome) → Plain o → (b : List ℕ) (n : ℕ) (b1 : List ℕ) → Ok n ≡ answer_of o → b1 ≡ result_after o b → length b1 ≡ length b
    → Shown (text_for o) b b1 n
unfolding Plain
outcome_written (refused m) h b n b1 e f l = let z : ◌≡◌ {A = ℕ} 0 1 = cc in absurd (omega arith)
outcome_written (written w m) h b n b1 e f l = record { bytes = f; end = cc; room = laid_room w b (ap length (sym f) ∙ l) }
outcome_written (evaluated _ _) h b n b1 e f l = elim h [ ]

module _ (img b : List ℕ) (x : Result ℕ Refusal) (b1 : List ℕ) (D : Answered (list_outcome img (length b)) b (numbered x) b1) where
  pub show_refused : (e : Refusal) → x ≡ Err e → (b2 : List ℕ) (p : ℕ) → Shown (refused_text (number e)) b1 b2 p → Shown (text_for (list_outcome img (length b))) b b2 p
  show_refused e q b2 p S = outcome_refused (list_outcome img (length b)) b (number e) b1 (sym (ap numbered q) ∙ D.answer) D.result b2 p S

  pub show_listed : (n : ℕ) → x ≡ Ok n → length b1 ≡ length b → Shown (text_for (list_outcome img (length b))) b b1 n
  show_listed n q l = outcome_written (list_outcome img (length b)) (plain_list img (length b)) b n b1 (sym (ap numbered q) ∙ D.answer) D.result l

pub ruleset shows = (show_refused, show_listed)

-- ---- answer

module _ (text t' : List ℕ) (r : ℕ) where
  printed_refused : (o : Outcome) (n : ℕ) → Err n ≡ answer_of o → Shown (refused_text n) text t' r → Shown (printed_for o (length text)) text t' r
  printed_refused (refused m) n e S = let z : n ≡ m = cc in rw (← z) S
  printed_refused (written w m) n e S = let z : ◌≡◌ {A = ℕ} 0 1 = cc in absurd (omega arith)
  printed_refused (evaluated w m) n e S = let z : ◌≡◌ {A = ℕ} 0 1 = cc in absurd (omega arith)

  printed_listed : (o : Outcome) → Plain o → (out : List ℕ) (n : ℕ) (out1 : List ℕ) → Ok n ≡ answer_of o → out1 ≡ result_after o out
      → Shown (text_for (list_outcome (take n out1) (length text))) text t' r → Shown (printed_for o (length text)) text t' r
  unfolding Plain laid_over
  printed_listed (refused m) h out n out1 e f S = let z : ◌≡◌ {A = ℕ} 0 1 = cc in absurd (omega arith)
  printed_listed (written w m) h out n out1 e f S =
      let z : n ≡ length w = cc in
      let i : take n out1 ≡ w = ap (take n) f ∙ take_at w (drop (length w) out) n (sym z) in
      rw i at S
  printed_listed (evaluated _ _) h out n out1 e f S = elim h [ ]

module _ (input out a b text t' : List ℕ) (r : ℕ) where
  pub answer_short : length input < 4 → Shown (refused_text 2) text t' r → Shown (printed_of input out a b (length text)) text t' r
  unfolding printed_of
  answer_short h S = rw (lt-ltb (length input) 4 h) S

  pub answer_long : 4 ≤ length input → 16384 < length input → Shown (refused_text 2) text t' r → Shown (printed_of input out a b (length text)) text t' r
  unfolding printed_of
  answer_long h k S = rw (le-ltb (length input) 4 h, lt-ltb 16384 (length input) k) S

  -- o is the outcome of the entry that was called
  module _ (o : Outcome) (x : Result ℕ Refusal) (out1 a1 b1 : List ℕ) (K : Kept o out a b (numbered x) out1 a1 b1)
      (e : printed_of input out a b (length text) ≡ printed_for o (length text)) where
    pub answer_refused : (d : Refusal) → x ≡ Err d → Shown (refused_text (number d)) text t' r → Shown (printed_of input out a b (length text)) text t' r
    answer_refused d q S = rw e (printed_refused text t' r o (number d) (sym (ap numbered q) ∙ K.answer) S)

    pub answer_listed : (n : ℕ) → Plain o → x ≡ Ok n → Shown (text_for (list_outcome (take n out1) (length text))) text t' r
        → Shown (printed_of input out a b (length text)) text t' r
    answer_listed n h q S = rw e (printed_listed text t' r o h out n out1 (sym (ap numbered q) ∙ K.answer) K.result S)

-- the image that an entry wrote is within its buffer
pub image_room : (o : Outcome) → Plain o → (out a b : List ℕ) (x : Result ℕ Refusal) (out1 a1 b1 : List ℕ) → Kept o out a b (numbered x) out1 a1 b1 → (n : ℕ) → x ≡ Ok n
    → length out1 ≡ length out → n ≤ length out1
image_room o h out a b x out1 a1 b1 K n q l =
    let S = outcome_written o h out n out1 (sym (ap numbered q) ∙ K.answer) K.result l in
    omega (arith, S.end, S.room)

pub ruleset answers = (answer_refused, answer_listed, image_room)
