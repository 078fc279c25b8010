-- The translation in an area: its words, what stores do to it, and the outputs put through it.
use Prim.Native.Nat.{ℕ, ◌+◌, ◌≤◌, ◌<◌}
use mathlib.Core.Path.{◌≡◌, refl, sym, ap, ap₂, ◌∙◌, fun_ext}
use mathlib.Core.List.{List}
use native.Mathlib.Omega.{arith}
use native.Mathlib.Nat.{le_antisymm}
use native.Mathlib.Numerals.{add-one}
use native.Mathlib.Decide.{ℕ_discrete, dec_lt}
use lib.ListN.{length, take, drop, length-drop, get_or-eq_default}
use lib.Seq.{get_or-take, get_or-drop, length-take-le}
use borrow.Author.Tests.{eq-eqb, ne_eqb}
use Rattle.model.specs.Signal.{remap_order}
use Rattle.model.specs.Network.{upd}
use Rattle.tables.specs.Layout.{net_size, span, tr_base, output_at, put_output, cell, store}
use Rattle.tables.proofs.Places.{length_store, cell_store, cell_store_other}
use Rattle.tables.specs.Building.{put_node, put_outputs}
use Rattle.tables.proofs.Building.{length_put_node, cell_put_node, length_put_outputs, cell_put_outputs, put_outputs_next}
use Rattle.translation.specs.Tables.{tr_of, outputs_by}

-- ---- word by word

module _ (l : List ℕ) (z : span ≤ length l) where
  pub tr_of_cell : (v : ℕ) → v < 512 → tr_of l v ≡ cell l tr_base v
  unfolding tr_of cell
  tr_of_cell v h = get_or-take 512 (drop tr_base l) v 0 h ∙ get_or-drop tr_base l v 0

  tr_of_past : (v : ℕ) → 512 ≤ v → tr_of l v ≡ 0
  unfolding tr_of
  tr_of_past v h =
      let e : length (take 512 (drop tr_base l)) ≡ 512 = length-take-le 512 (drop tr_base l) (rw length-drop (omega arith)) in
      get_or-eq_default (take 512 (drop tr_base l)) 0 (omega arith)

-- areas with the same words in the table hold the same translation
pub tr_of_same : (l m : List ℕ) → span ≤ length l → span ≤ length m → ((v : ℕ) → v < 512 → cell l tr_base v ≡ cell m tr_base v) → tr_of l ≡ tr_of m
tr_of_same l m y z h = fun_ext (λ v. elim (dec_lt v 512) [
  | yes q ↦ tr_of_cell l y v q ∙ h v q ∙ sym (tr_of_cell m z v q)
  | no q ↦ tr_of_past l y v (omega arith) ∙ sym (tr_of_past m z v (omega arith))
])

pub tr_of_store : (l : List ℕ) (k x : ℕ) → span ≤ length l → k < 512 → tr_of (store l tr_base k x) ≡ upd (tr_of l) k x
tr_of_store l k x z h = fun_ext go
  where
    z' : span ≤ length (store l tr_base k x)
    z' = rw length_store z

    go : (v : ℕ) → tr_of (store l tr_base k x) v ≡ upd (tr_of l) k x v
    go v = elim (ℕ_discrete v k) [
      | yes e ↦ rw (eq-eqb v k e) (ap (tr_of (store l tr_base k x)) e ∙ tr_of_cell (store l tr_base k x) z' k h ∙ cell_store l tr_base k x (omega arith))
      | no e ↦ rw (ne_eqb v k e) (elim (dec_lt v 512) [
        | yes q ↦ tr_of_cell (store l tr_base k x) z' v q ∙ cell_store_other l tr_base k x tr_base v (omega arith) ∙ sym (tr_of_cell l z v q)
        | no q ↦ tr_of_past (store l tr_base k x) z' v (omega arith) ∙ sym (tr_of_past l z v (omega arith))
      ])
    ]

-- words of the network are none of the table's
pub tr_of_outputs : (l : List ℕ) → span ≤ length l → (f : ℕ → ℕ) (m : ℕ) → m ≤ 64 → tr_of (put_outputs l f m) ≡ tr_of l
tr_of_outputs l z f m h = tr_of_same (put_outputs l f m) l (rw length_put_outputs z) z (λ v q. cell_put_outputs l f m tr_base v h (omega arith))

pub tr_of_put_node : (l : List ℕ) → span ≤ length l → (v k at : ℕ) (f : ℕ → ℕ) (n lo hi : ℕ) → v < 512 → at + n ≤ 2048 → tr_of (put_node l v k at f n lo hi) ≡ tr_of l
tr_of_put_node l z v k at f n lo hi h r =
    tr_of_same (put_node l v k at f n lo hi) l (rw length_put_node z) z (λ w q. cell_put_node l v k at f n lo hi h r tr_base w (omega arith))

-- ---- the outputs

module _ (src l : List ℕ) where
  pub outs_none : l ≡ put_outputs l (outputs_by src (tr_of l)) 0
  unfolding put_outputs
  outs_none = refl

  module _ (n : ℕ) (P : (net_size ≤ length src) × (span ≤ length l) × (n ≤ 64)) (m : List ℕ) (o : ℕ) (I : (o ≤ n) × (length m ≡ length l) × (m ≡ put_outputs l (outputs_by src (tr_of l)) o)) where
    pub outs_long : span ≤ length m
    outs_long = rw I.1 P.1

    module _ (h : o < n) where
      pub outs_source : (o < 64) × (net_size ≤ length src)
      outs_source = (omega (arith, P.2), P.0)

      pub outs_room : (o < 64) × (net_size ≤ length m)
      outs_room = (omega (arith, P.2), omega (arith, outs_long))

      pub outs_next : (x s : ℕ) (r : List ℕ) → x ≡ output_at src o → s ≡ remap_order (tr_of m) x → length r ≡ length m → r ≡ put_output m o s
          → (o + 1 ≤ n) × (length r ≡ length l) × (r ≡ put_outputs l (outputs_by src (tr_of l)) (o + 1))
      unfolding outputs_by
      outs_next x s r ex es q er =
          let same : tr_of m ≡ tr_of l = ap tr_of I.2 ∙ tr_of_outputs l P.1 (outputs_by src (tr_of l)) o (omega (arith, P.2)) in
          let s_is : s ≡ remap_order (tr_of l) (output_at src o) = es ∙ ap₂ remap_order same ex in (
            omega arith,
            q ∙ I.1,
            rw add-one (er ∙ ap (λ (y : List ℕ). put_output y o s) I.2 ∙ put_outputs_next l (outputs_by src (tr_of l)) o s s_is),
          )

    pub outs_end : n ≤ o → m ≡ put_outputs l (outputs_by src (tr_of l)) n
    outs_end h = I.2 ∙ ap (put_outputs l (outputs_by src (tr_of l))) (le_antisymm I.0 h)
