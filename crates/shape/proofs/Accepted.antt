-- What acceptance says, each fact by its name; and that these facts are acceptance.
use mathlib.Core.Path.{◌≡◌, refl}
use mathlib.Core.List.{List}
use mathlib.Core.Bool.{Bool, true, false, cond, ◌&&◌}
use Prim.Native.Nat.{ℕ, ◌+◌, ◌%◌, ◌≤◌}
use native.Mathlib.Omega.{arith}
use native.Mathlib.Decide.{ℕ_discrete}
use lib.ListN.{length}
use lib.Dec.{leb, eqb}
use borrow.Author.Tests.{leb-true, le-leb, eqb-true, eq-eqb, ne_eqb}
use Rattle.laws.proofs.Bools.{and_left, and_right}
use Rattle.model.specs.Gate.{fanin, wired, is_topo_sorted}
use Rattle.model.specs.Image.{inputs_in, nodes_in, outs_in, span_in, words_of, sound_from, end_from, net_in, net_of, framed, within, laid, body_refusal, refusal_of, sorted_refusal_of}

-- not 2
pub record Framed (img : List ℕ) : Type 0 where
  pub long : 16 ≤ length img
  pub least : 16 ≤ span_in img
  pub whole : span_in img % 4 ≡ 0
  pub inside : span_in img ≤ length img

pub framed_is : (img : List ℕ) → framed img ≡ true → Framed img
unfolding framed
framed_is img e =
    let a = leb 16 (length img) in
    let b = leb 16 (span_in img) in
    let c = eqb (span_in img % 4) 0 in
    let d = leb (span_in img) (length img) in
    let r = and_right a (b && (c && d)) e in
    let q = and_right b (c && d) r in
    record {
      long = leb-true 16 (length img) (and_left a (b && (c && d)) e);
      least = leb-true 16 (span_in img) (and_left b (c && d) r);
      whole = eqb-true (span_in img % 4) 0 (and_left c d q);
      inside = leb-true (span_in img) (length img) (and_right c d q);
    }

pub framed_of_lem : (img : List ℕ) → Framed img → framed img ≡ true
unfolding framed
framed_of_lem img f =
    simp (le-leb 16 (length img) f.long, le-leb 16 (span_in img) f.least, eq-eqb (span_in img % 4) 0 f.whole, le-leb (span_in img) (length img) f.inside)

-- not 3
pub record Within (img : List ℕ) : Type 0 where
  pub inputs_few : inputs_in img ≤ 1024
  pub nodes_few : nodes_in img ≤ 512
  pub outs_few : outs_in img ≤ 64

pub within_is : (img : List ℕ) → within img ≡ true → Within img
unfolding within
within_is img e =
    let a = leb (inputs_in img) 1024 in
    let b = leb (nodes_in img) 512 in
    let c = leb (outs_in img) 64 in
    let r = and_right a (b && c) e in
    record {
      inputs_few = leb-true (inputs_in img) 1024 (and_left a (b && c) e);
      nodes_few = leb-true (nodes_in img) 512 (and_left b c r);
      outs_few = leb-true (outs_in img) 64 (and_right b c r);
    }

pub within_of : (img : List ℕ) → Within img → within img ≡ true
unfolding within
within_of img w = simp (le-leb (inputs_in img) 1024 w.inputs_few, le-leb (nodes_in img) 512 w.nodes_few, le-leb (outs_in img) 64 w.outs_few)

-- not 4, in the words of a body of n nodes and o outputs
pub record LaidOut (n o : ℕ) (ws : List ℕ) : Type 0 where
  pub sound : sound_from n ws 0 ≡ true
  pub ends : end_from n ws 0 + (o + 4) ≡ length ws

pub laid_is : (n o : ℕ) (ws : List ℕ) → laid n o ws ≡ true → LaidOut n o ws
unfolding laid
laid_is n o ws e =
    let t = eqb (end_from n ws 0 + (o + 4)) (length ws) in
    record {
      sound = and_left (sound_from n ws 0) t e;
      ends = eqb-true (end_from n ws 0 + (o + 4)) (length ws) (and_right (sound_from n ws 0) t e);
    }

pub laid_of : (n o : ℕ) (ws : List ℕ) → LaidOut n o ws → laid n o ws ≡ true
unfolding laid
laid_of n o ws l = simp (l.sound, eq-eqb (end_from n ws 0 + (o + 4)) (length ws) l.ends)

-- none of 2 to 6
pub record Accepted (img : List ℕ) : Type 0 where
  pub frame : Framed img
  pub limits : Within img
  pub layout : LaidOut (nodes_in img) (outs_in img) (words_of img)
  pub few : fanin (net_of img).nodes ≤ 2048
  pub wires : wired (net_of img) ≡ true

three_inv : (a b c : Bool) → ◌≡◌ {A = ℕ} (cond a (cond b (cond c 0 6) 5) 4) 0 → (a ≡ true) × (b ≡ true) × (c ≡ true)
three_inv true true true e = (refl, refl, refl)
three_inv true true false e = absurd (omega arith)
three_inv true false c e = absurd (omega arith)
three_inv false b c e = absurd (omega arith)

two_inv : (a b : Bool) (x : ℕ) → cond a (cond b x 3) 2 ≡ 0 → (a ≡ true) × (b ≡ true) × (x ≡ 0)
two_inv true true x e = (refl, refl, e)
two_inv true false x e = absurd (omega arith)
two_inv false b x e = absurd (omega arith)

pub accepted : (img : List ℕ) → refusal_of img ≡ 0 → Accepted img
unfolding refusal_of body_refusal net_of
accepted img e =
    let t = two_inv (framed img) (within img) (body_refusal (inputs_in img) (nodes_in img) (outs_in img) (words_of img)) e in
    let n = net_in (inputs_in img) (nodes_in img) (outs_in img) (words_of img) in
    let h = three_inv (laid (nodes_in img) (outs_in img) (words_of img)) (leb (fanin n.nodes) 2048) (wired n) t.2 in
    record {
      frame = framed_is img t.0;
      limits = within_is img t.1;
      layout = laid_is (nodes_in img) (outs_in img) (words_of img) h.0;
      few = leb-true (fanin n.nodes) 2048 h.1;
      wires = h.2;
    }

pub accepts : (img : List ℕ) → Accepted img → refusal_of img ≡ 0
unfolding refusal_of body_refusal net_of
accepts img a =
    simp (
      framed_of_lem img a.frame,
      within_of img a.limits,
      laid_of (nodes_in img) (outs_in img) (words_of img) a.layout,
      le-leb (fanin (net_of img).nodes) 2048 a.few,
      a.wires,
    )

-- nor 7
pub accepts_sorted : (img : List ℕ) → refusal_of img ≡ 0 → is_topo_sorted (net_of img) ≡ true → sorted_refusal_of img ≡ 0
unfolding sorted_refusal_of
accepts_sorted img e s = simp (eq-eqb (refusal_of img) 0 e, s)

pub accepted_sorted : (img : List ℕ) → sorted_refusal_of img ≡ 0 → is_topo_sorted (net_of img) ≡ true
unfolding sorted_refusal_of
accepted_sorted img e = go (refusal_of img) (is_topo_sorted (net_of img)) e
  where
    go : (k : ℕ) (b : Bool) → cond (eqb k 0) (cond b 0 7) k ≡ 0 → b ≡ true
    go k true q = refl
    go k false q = elim (ℕ_discrete k 0) [
      | yes z ↦ let w : ◌≡◌ {A = ℕ} 7 0 = rw z at q in absurd (omega arith)
      | no z ↦ let w : k ≡ 0 = rw (ne_eqb k 0 z) at q in absurd (z w)
    ]
