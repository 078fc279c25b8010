-- Laws of the whole check: what a frame says of the image, and the numbers with and without 7.
use mathlib.Core.Path.{◌≡◌, refl, sym, ap, ◌∙◌}
use mathlib.Core.List.{List}
use mathlib.Core.Bool.{Bool, true, false, not, cond}
use Prim.Native.Nat.{ℕ, ◌-◌, ◌≤◌}
use native.Mathlib.Omega.{arith}
use lib.ListN.{length, take, drop, length-drop}
use lib.Seq.{take_all}
use lib.Dec.{leb, eqb}
use Rattle.model.specs.Gate.{fanin, wired, is_topo_sorted}
use Rattle.model.specs.Image.{words, inputs_in, nodes_in, outs_in, body_of, words_of, net_in, net_of, framed, within, laid, body_refusal, refusal_of, sorted_refusal_of}
use Rattle.shape.proofs.Accepted.{within_is}
use Rattle.image_body.specs.Numbers.{body_number}
use Rattle.std.specs.Prelude.{Result, Ok, Err}
use Rattle.refusals.specs.Numbers.{number, numbered, unless}
use Rattle.refusals.specs.declared.Refusal.{Refusal}
use Rattle.refusals.proofs.Numbers.{unless_ok_number, unless_err, unless_number}
use Rattle.image.specs.Reader.{frame_number, image_number, number_of, frame_of}
use Rattle.image.specs.declared.Frame.{Frame}

-- ---- what a frame that was answered says

record Passed (a b : Bool) (g f : Frame) : Type 0 where
  one : a ≡ true
  two : b ≡ true
  same : f ≡ g

passed_inv : (a b : Bool) (g f : Frame) → Ok f ≡ unless (cond a (cond b 0 3) 2) g → Passed a b g f
passed_inv true true g f e = record { one = refl; two = refl; same = cc }
passed_inv true false g f e = absurd cc
passed_inv false b g f e = absurd cc

refused_inv : (a b : Bool) (g : Frame) (x n : ℕ) → Err n ≡ unless (cond a (cond b 0 3) 2) g → Err n ≡ unless (cond a (cond b x 3) 2) g
refused_inv true true g x n e = absurd cc
refused_inv true false g x n e = e
refused_inv false b g x n e = e

-- ---- `check`: without 7 and with it

number_is : (s : Bool) (img : List ℕ) → image_number s img ≡ number_of s img
unfolding image_number body_number sorted_refusal_of refusal_of body_refusal net_of
number_is false img = refl
number_is true img =
    go (framed img) (within img) (laid (nodes_in img) (outs_in img) (words_of img))
    (leb (fanin (net_in (inputs_in img) (nodes_in img) (outs_in img) (words_of img)).nodes) 2048)
    (wired (net_in (inputs_in img) (nodes_in img) (outs_in img) (words_of img)))
    (is_topo_sorted (net_in (inputs_in img) (nodes_in img) (outs_in img) (words_of img)))
  where
    go : (a b c d e f : Bool)
        → cond {A = ℕ} a (cond b (cond c (cond d (cond e (cond (not f) 7 0) 6) 5) 4) 3) 2
        ≡ cond (eqb (cond a (cond b (cond c (cond d (cond e 0 6) 5) 4) 3) 2) 0) (cond f 0 7) (cond a (cond b (cond c (cond d (cond e 0 6) 5) 4) 3) 2)
    go false b c d e f = refl
    go true false c d e f = refl
    go true true false d e f = refl
    go true true true false e f = refl
    go true true true true false f = refl
    go true true true true true false = refl
    go true true true true true true = refl

-- refused by the frame: the same refusal
pub check_refused : (img : List ℕ) (s : Bool) (r : Result Frame Refusal) (d x : Refusal) → Err (number d) ≡ unless (frame_number img) (frame_of img)
    → r ≡ Err x → x ≡ d → numbered r ≡ unless (number_of s img) (frame_of img)
unfolding frame_number image_number
check_refused img s r d x e p q =
    let f : Err (number d) ≡ unless (image_number s img) (frame_of img) =
    refused_inv (framed img) (within img) (frame_of img)
    (body_number s (inputs_in img) (nodes_in img) (outs_in img) (words_of img)) (number d) e in
    rw (p, q, ← number_is s img) f

module _ (img : List ℕ) (f : Frame) (e : Ok f ≡ unless (frame_number img) (frame_of img)) where
  passed : Passed (framed img) (within img) (frame_of img) f
  unfolding frame_number
  passed = passed_inv (framed img) (within img) (frame_of img) f e

  pub check_start : f.start ≤ length img
  unfolding frame_of
  check_start = rw passed.same (omega arith)

  pub check_nodes : f.nodes ≤ 512
  unfolding frame_of
  check_nodes = rw passed.same (within_is img passed.two).nodes_few

  pub check_outs : f.outs ≤ 64
  unfolding frame_of
  check_outs = rw passed.same (within_is img passed.two).outs_few

  -- the part from the start on is the body
  check_body_is : take (length img - f.start) (drop f.start img) ≡ body_of img
  unfolding frame_of body_of
  check_body_is =
      take_all (length img - f.start) (drop f.start img) (rw length-drop (omega arith))
      ∙ ap (λ (g : Frame). drop g.start img) passed.same

  module _ (s : Bool) where
    -- the body's number, as the code asks for it
    abbrev asked : ℕ
    asked = body_number s f.inputs f.nodes f.outs (words (take (length img - f.start) (drop f.start img)))

    asked_is : asked ≡ image_number s img
    unfolding image_number words_of frame_of
    asked_is =
        ap (λ (l : List ℕ). body_number s f.inputs f.nodes f.outs (words l)) check_body_is
        ∙ ap (λ (g : Frame). body_number s g.inputs g.nodes g.outs (words (body_of img))) passed.same
        ∙ simp (passed.one, passed.two)

    check_number : asked ≡ number_of s img
    check_number = asked_is ∙ number_is s img

    pub check_yes : Ok tt ≡ unless {A = Unit {0}} (body_number s f.inputs f.nodes f.outs (words (take (length img - f.start) (drop f.start img)))) tt
        → Ok f ≡ unless (number_of s img) (frame_of img)
    check_yes z = let n : asked ≡ 0 = unless_ok_number (Ok tt) asked tt tt z refl in rw (← check_number, n, ← passed.same) refl

    pub check_no : (r : Result Frame Refusal) (d x : Refusal)
        → Err (number d) ≡ unless {A = Unit {0}} (body_number s f.inputs f.nodes f.outs (words (take (length img - f.start) (drop f.start img)))) tt
        → r ≡ Err x → x ≡ d → numbered r ≡ unless (number_of s img) (frame_of img)
    check_no r d x z p q =
        let n : number d ≡ asked = unless_err (Err d) asked tt d z refl in
        rw (p, q, ← check_number, ← n) (sym (unless_number d (frame_of img)))

pub ruleset checks = (check_refused, check_start, check_nodes, check_outs, check_yes, check_no)
