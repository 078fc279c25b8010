-- A gate of right shape is given by a kind, as many inputs as it has, and a table where it is a Lut.
use mathlib.Core.Path.{◌≡◌, subst}
use Prim.Native.Nat.{ℕ}
use mathlib.Core.Bool.{true, ◌&&◌}
use mathlib.Core.List.{List}
use lib.ListN.{length}
use lib.Dec.{ltb}
use borrow.Author.Tests.{ltb-true}
use Rattle.kinds.specs.Kinds.{kind_of, code_of}
use Rattle.kinds.proofs.Codes.{code_kind}
use Rattle.kinds.specs.declared.Kind.{Kind}
use Rattle.laws.proofs.Bools.{and_left, and_right}
use Rattle.model.specs.Gate.{Gate, fits_kind, fits_code, fits_table, shaped}

abbrev pub gate_with : Kind → List ℕ → ℕ → Gate
gate_with k l t = record { kind = code_of k; ins = l; table = t }

-- its kind has a code of the table, and as many inputs
coded : (g : Gate) → shaped g ≡ true → (ltb g.kind 15 && fits_kind (kind_of g.kind) (length g.ins)) ≡ true
unfolding shaped fits_code
coded g e = and_left _ (fits_table g.kind (length g.ins) g.table) e

pub fits_kind_lem : (g : Gate) → shaped g ≡ true → fits_kind (kind_of g.kind) (length g.ins) ≡ true
fits_kind_lem g e = and_right (ltb g.kind 15) _ (coded g e)

pub by_shape {ℓ} : (P : Gate → Type ℓ) (g : Gate) → shaped g ≡ true
    → ((k : Kind) (l : List ℕ) (t : ℕ) → fits_kind k (length l) ≡ true → fits_table (code_of k) (length l) t ≡ true → P (gate_with k l t)) → P g
unfolding shaped
by_shape P g e h =
    let l = g.ins in
    let k = kind_of g.kind in
    let code : code_of k ≡ g.kind = code_kind g.kind (ltb-true g.kind 15 (and_left _ (fits_kind k (length l)) (coded g e))) in
    subst (λ (c : ℕ). P (record { kind = c; ins = g.ins; table = g.table })) code
    (h k l g.table (fits_kind_lem g e) (rw code (and_right (fits_code g.kind (length l)) _ e)))
