-- The network of an accepted image is valid.
use mathlib.Core.Path.{◌≡◌, refl}
use mathlib.Core.List.{List}
use mathlib.Core.Bool.{true, ◌&&◌}
use Prim.Native.Nat.{ℕ, zero, suc, ◌+◌, ◌/◌, ◌%◌, ◌≤◌}
use native.Mathlib.Omega.{arith}
use lib.ListN.{length, get_or, drop, length-drop}
use lib.Seq.{length-take-le}
use lib.Dec.{ltb}
use Rattle.laws.proofs.Bools.{and_left, and_right, and_both}
use Rattle.model.specs.Gate.{Valid, fits_code, fits_table, shaped, all_shaped}
use Rattle.model.specs.Image.{header_ok, code_at, count_at, size_at, table_at, record_gate, sound_at, gates_from, sound_from, end_from, nodes_in, outs_in, words_of, net_in, net_of, refusal_of}
use Rattle.shape.proofs.Walks.{ins_length, end_le, length_gates}
use Rattle.shape.proofs.Accepted.{Accepted, accepted}

shaped_read : (ws : List ℕ) (at : ℕ) → sound_at ws at ≡ true → at + size_at ws at ≤ length ws → shaped (record_gate ws at) ≡ true
unfolding shaped sound_at header_ok record_gate code_at count_at
shaped_read ws at s l =
    let h = get_or ws at 0 in
    let t = fits_table (h % 256) (h / 256) (table_at ws at) in
    let c = fits_code (h % 256) (h / 256) in
    rw (ins_length ws at l)
    (and_both c t (and_right (ltb h 16777216) c (and_left (ltb h 16777216 && c) t s)) (and_right (ltb h 16777216 && c) t s))

gates_shaped : (k : ℕ) (ws : List ℕ) (at : ℕ) → sound_from k ws at ≡ true → end_from k ws at ≤ length ws → all_shaped (gates_from k ws at) ≡ true
unfolding all_shaped gates_from sound_from end_from
gates_shaped zero ws at s l = refl
gates_shaped (suc k) ws at s l =
    let b = sound_from k ws (at + size_at ws at) in
    let m = end_le k ws (at + size_at ws at) in
    and_both (shaped (record_gate ws at)) (all_shaped (gates_from k ws (at + size_at ws at)))
    (shaped_read ws at (and_left (sound_at ws at) b s) (omega arith))
    (gates_shaped k ws (at + size_at ws at) (and_right (sound_at ws at) b s) l)

module _ (img : List ℕ) (a : Accepted img) where
  pub length_outs : length (net_of img).outs ≡ outs_in img
  unfolding net_of net_in
  length_outs =
      let e = a.layout.ends in
      length-take-le (outs_in img) (drop (end_from (nodes_in img) (words_of img) 0) (words_of img)) (rw length-drop (omega arith))

  pub length_nodes : length (net_of img).nodes ≡ nodes_in img
  unfolding net_of net_in
  length_nodes = length_gates (nodes_in img) (words_of img) 0

  pub valid_accepted : Valid (net_of img)
  unfolding net_of net_in
  valid_accepted =
      let e = a.layout.ends in
      record {
        inputs_few = a.limits.inputs_few;
        nodes_few = omega (arith, a.limits.nodes_few, length_nodes);
        outs_few = omega (arith, a.limits.outs_few, length_outs);
        gates_shaped = gates_shaped (nodes_in img) (words_of img) 0 a.layout.sound (omega arith);
        ins_few = a.few;
        signals = a.wires;
      }

pub valid_net : (img : List ℕ) → refusal_of img ≡ 0 → Valid (net_of img)
valid_net img e = valid_accepted img (accepted img e)
