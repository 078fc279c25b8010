-- The image of a valid network is accepted.
use mathlib.Core.Path.{◌≡◌, refl, sym, ap, ◌∙◌}
use mathlib.Core.List.{List, [], ◌∷◌, ◌++◌, append_assoc}
use mathlib.Core.Bool.{true, ◌&&◌}
use Prim.Native.Nat.{ℕ, suc, ◌+◌, ◌*◌, ◌≤◌, ◌<◌}
use native.Mathlib.Omega.{arith}
use native.Mathlib.Nat.{add-zero, zero-add}
use lib.ListN.{length, length-append}
use lib.Seq.{drop-append_seam}
use borrow.Author.Tests.{lt-ltb}
use Rattle.model.specs.Gate.{Gate, Net, Valid, size, shaped, all_shaped, fanin, is_topo_sorted}
use Rattle.model.specs.Image.{header_ok, code_at, count_at, size_at, sound_at, sound_from, net_of, refusal_of, sorted_refusal_of, gate_words, gates_words, image_of}
use Rattle.shape.proofs.Walks.{sounds_drop}
use Rattle.shape.proofs.Shaped.{kind_small, shaped_code, shaped_table, first_shaped, rest_shaped}
use Rattle.shape.proofs.Written.{words_cons, header_back, size_back, table_back, end_back, trailer, length_image, inputs_written, nodes_written, outs_written, span_written, words_written, net_of_image}
use Rattle.shape.proofs.Accepted.{LaidOut, Accepted, accepts, accepts_sorted}

-- ---- the records of gates are sound

sound_back : (g : Gate) (r : List ℕ) → shaped g ≡ true → length g.ins ≤ 2048 → sound_at (gate_words g ++ r) 0 ≡ true
unfolding sound_at code_at count_at header_ok gate_words
sound_back g r s l =
    let k : g.kind < 15 = kind_small g s in
    let h : g.kind + 256 * length g.ins < 16777216 = omega arith in
    simp (lt-ltb (g.kind + 256 * length g.ins) 16777216 h, (header_back g r s).0, (header_back g r s).1, table_back g r s, shaped_code g s, shaped_table g s)

sound_none : (ws : List ℕ) (at : ℕ) → sound_from 0 ws at ≡ true
unfolding sound_from
sound_none ws at = refl

sound_suc : (k : ℕ) (ws : List ℕ) (at : ℕ) → sound_from (suc k) ws at ≡ (sound_at ws at && sound_from k ws (at + size_at ws at))
unfolding sound_from
sound_suc k ws at = refl

fanin_cons : (g : Gate) (gs : List Gate) → fanin (g ∷ gs) ≡ length g.ins + fanin gs
unfolding fanin
fanin_cons g gs = refl

sounds_back : (gs : List Gate) (r : List ℕ) → all_shaped gs ≡ true → fanin gs ≤ 2048 → sound_from (length gs) (gates_words gs ++ r) 0 ≡ true
sounds_back [] r s l = sound_none (gates_words [] ++ r) 0
sounds_back (g ∷ gs) r s l =
    let a = first_shaped g gs s in
    let f = fanin_cons g gs in
    let ws = gate_words g ++ (gates_words gs ++ r) in
    simp (words_cons g gs, append_assoc, sound_suc, size_back g (gates_words gs ++ r) a, sound_back g (gates_words gs ++ r) a (omega arith))
    (ap (λ (n : ℕ). sound_from (length gs) ws n) (zero-add (length (gate_words g)) ∙ sym (add-zero (length (gate_words g))))
    ∙ sym (sounds_drop (length gs) (length (gate_words g)) ws 0)
    ∙ ap (λ (l : List ℕ). sound_from (length gs) l 0) (drop-append_seam (gate_words g) (gates_words gs ++ r))
    ∙ sounds_back gs r (rest_shaped g gs s) (omega arith))

-- ---- so the image is accepted

module _ (n : Net) (v : Valid n) where
  laid_back : LaidOut (size n) (length n.outs) (gates_words n.nodes ++ (n.outs ++ trailer n))
  laid_back =
      record {
        sound = sounds_back n.nodes (n.outs ++ trailer n) v.gates_shaped v.ins_few;
        ends =
            omega (
              arith,
              end_back n.nodes (n.outs ++ trailer n) v.gates_shaped,
              length-append (gates_words n.nodes) (n.outs ++ trailer n),
              length-append n.outs (trailer n),
            );
      }

  pub accepted_image : Accepted (image_of n)
  accepted_image =
      let r : net_of (image_of n) ≡ n = net_of_image n v.gates_shaped in
      let i = inputs_written n in
      let k = nodes_written n in
      let o = outs_written n in
      let s = span_written n in
      let l = length_image n in
      record {
        frame = record { long = omega arith; least = omega arith; whole = omega arith; inside = omega arith };
        limits = record { inputs_few = omega (arith, v.inputs_few); nodes_few = omega (arith, v.nodes_few); outs_few = omega (arith, v.outs_few) };
        layout = rw (k, o, words_written n) laid_back;
        few = rw r v.ins_few;
        wires = rw r v.signals;
      }

  pub refusal_of_image : refusal_of (image_of n) ≡ 0
  refusal_of_image = accepts (image_of n) accepted_image

  pub sorted_refusal_of_image : is_topo_sorted n ≡ true → sorted_refusal_of (image_of n) ≡ 0
  sorted_refusal_of_image t = accepts_sorted (image_of n) refusal_of_image (rw (net_of_image n v.gates_shaped) t)
