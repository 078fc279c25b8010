-- Each test of the model tells its line: 2 to 5.
use mathlib.Core.Path.{◌≡◌, refl}
use mathlib.Core.Logic.{⊎_elim}
use mathlib.Core.Bool.{Bool, true, false, ◌&&◌}
use mathlib.Core.List.{List}
use Prim.Native.Nat.{ℕ, zero, suc, ◌+◌, ◌/◌, ◌%◌, ◌^◌, ◌≤◌, ◌<◌}
use native.Mathlib.Omega.{arith}
use lib.ListN.{length, get_or}
use lib.Dec.{eqb, leb, ltb}
use borrow.Author.Tests.{ltb-true, ltb-false, leb-true, leb-false, eqb-true, eqb-false, lt-ltb, le-leb, eq-eqb}
use Rattle.laws.proofs.Bools.{and_left, and_right, and_both, and_split}
use Rattle.laws.proofs.Choices.{by_bool, clash}
use Rattle.kinds.specs.Kinds.{code_of, kind_of}
use Rattle.kinds.proofs.Codes.{code_kind}
use Rattle.kinds.specs.declared.Kind.{Kind}
use Rattle.kinds.specs.declared.Kind.TheVariants.{And2, Xor2, And3, Xor3, Maj, Mux, AndN, OrN, NandN, NorN, XorN, XnorN, Buf, Dff, Lut}
use Rattle.model.specs.Gate.{fits_kind, fits_code, fits_table, is_lut, fanin}
use Rattle.model.specs.Image.{header_ok, code_at, count_at, size_at, table_at, sound_at, sound_from, end_from, inputs_in, nodes_in, outs_in, span_in, words_of, net_of, framed, within, laid}
use Rattle.shape.specs.Lines.{Line2, below_16, span_below_16, span_not_by_4, span_past, Line3, many_inputs, many_nodes, many_outputs, Arity, Breaks, top_bits, no_kind, high_bits, Line4, record_breaks, ends_elsewhere, Line5}
use Rattle.shape.proofs.Shaped.{code_small, lut_small}
use Rattle.shape.proofs.Accepted.{Framed, framed_is, Within, within_is, LaidOut, laid_is}

-- a test that holds exactly where a line does not
pub record Tells (b : Bool) (L : Type 0) : Type 0 where
  pub clear : b ≡ true → ¬ L
  pub met : b ≡ false → L

-- ---- 2 and 3

pub tells_2 : (img : List ℕ) → Tells (framed img) (Line2 img)
unfolding framed
tells_2 img =
    record {
      clear = λ e. not2 (framed_is img e);
      met =
          λ e. ⊎_elim
          (λ a. below_16 (leb-false 16 (length img) a))
          (λ r. ⊎_elim
          (λ a. span_below_16 (leb-false 16 (span_in img) a))
          (λ q. ⊎_elim (λ a. span_not_by_4 (eqb-false (span_in img % 4) 0 a)) (λ a. span_past (leb-false (span_in img) (length img) a))
          (and_split (eqb (span_in img % 4) 0) (leb (span_in img) (length img)) q))
          (and_split (leb 16 (span_in img)) (eqb (span_in img % 4) 0 && leb (span_in img) (length img)) r))
          (and_split (leb 16 (length img)) (leb 16 (span_in img) && (eqb (span_in img % 4) 0 && leb (span_in img) (length img))) e);
    }
  where
    not2 : Framed img → ¬ Line2 img
    not2 f (below_16 l) = omega (arith, f.long)
    not2 f (span_below_16 l) = omega (arith, f.least)
    not2 f (span_not_by_4 l) = l f.whole
    not2 f (span_past l) = omega (arith, f.inside)

pub tells_3 : (img : List ℕ) → Tells (within img) (Line3 img)
unfolding within
tells_3 img =
    record {
      clear = λ e. not3 (within_is img e);
      met =
          λ e. ⊎_elim
          (λ a. many_inputs (leb-false (inputs_in img) 1024 a))
          (λ r. ⊎_elim (λ a. many_nodes (leb-false (nodes_in img) 512 a)) (λ a. many_outputs (leb-false (outs_in img) 64 a))
          (and_split (leb (nodes_in img) 512) (leb (outs_in img) 64) r))
          (and_split (leb (inputs_in img) 1024) (leb (nodes_in img) 512 && leb (outs_in img) 64) e);
    }
  where
    not3 : Within img → ¬ Line3 img
    not3 w (many_inputs l) = omega (arith, w.inputs_few)
    not3 w (many_nodes l) = omega (arith, w.nodes_few)
    not3 w (many_outputs l) = omega (arith, w.outs_few)

-- ---- 4: the table of kinds

kind_fits : (k : Kind) (n : ℕ) → Arity (code_of k) n → fits_kind k n ≡ true
kind_fits And2 n a = eq-eqb n 2 (a.and2_xor2 (omega arith))
kind_fits Xor2 n a = eq-eqb n 2 (a.and2_xor2 (omega arith))
kind_fits And3 n a = eq-eqb n 3 (a.and3_to_mux (omega arith) (omega arith))
kind_fits Xor3 n a = eq-eqb n 3 (a.and3_to_mux (omega arith) (omega arith))
kind_fits Maj n a = eq-eqb n 3 (a.and3_to_mux (omega arith) (omega arith))
kind_fits Mux n a = eq-eqb n 3 (a.and3_to_mux (omega arith) (omega arith))
kind_fits AndN n a = refl
kind_fits OrN n a = refl
kind_fits NandN n a = refl
kind_fits NorN n a = refl
kind_fits XorN n a = refl
kind_fits XnorN n a = refl
kind_fits Buf n a = eq-eqb n 1 (a.buf refl)
kind_fits Dff n a = eq-eqb n 3 (a.dff refl)
kind_fits Lut n a = le-leb n 6 (a.lut refl)

code_fits : (code n : ℕ) → Arity code n → fits_code code n ≡ true
unfolding fits_code
code_fits code n a =
    let l : code < 15 = omega (arith, a.is_code) in
    and_both (ltb code 15) (fits_kind (kind_of code) n) (lt-ltb code 15 l)
    (kind_fits (kind_of code) n (rw (code_kind code l) a))

-- the fields of the table, read off the test
two_inputs : (code n : ℕ) → fits_code code n ≡ true → code ≤ 1 → n ≡ 2
unfolding fits_code kind_of
two_inputs zero n e l = eqb-true n 2 e
two_inputs (suc zero) n e l = eqb-true n 2 e
two_inputs (suc (suc c)) n e l = absurd (omega arith)

three_inputs : (code n : ℕ) → fits_code code n ≡ true → 2 ≤ code → code ≤ 5 → n ≡ 3
unfolding fits_code kind_of
three_inputs zero n e l m = absurd (omega arith)
three_inputs (suc zero) n e l m = absurd (omega arith)
three_inputs (suc (suc zero)) n e l m = eqb-true n 3 e
three_inputs (suc (suc (suc zero))) n e l m = eqb-true n 3 e
three_inputs (suc (suc (suc (suc zero)))) n e l m = eqb-true n 3 e
three_inputs (suc (suc (suc (suc (suc zero))))) n e l m = eqb-true n 3 e
three_inputs (suc (suc (suc (suc (suc (suc c)))))) n e l m = absurd (omega arith)

at_code : (code c n : ℕ) → fits_code code n ≡ true → code ≡ c → fits_code c n ≡ true
at_code code c n e q = rw q at e

buf_inputs_lem : (n : ℕ) → fits_code 12 n ≡ true → n ≡ 1
unfolding fits_code kind_of
buf_inputs_lem n e = eqb-true n 1 e

dff_inputs : (n : ℕ) → fits_code 13 n ≡ true → n ≡ 3
unfolding fits_code kind_of
dff_inputs n e = eqb-true n 3 e

arity : (code n : ℕ) → fits_code code n ≡ true → Arity code n
arity code n e =
    record {
      is_code = let l : code < 15 = code_small code n e in omega arith;
      and2_xor2 = two_inputs code n e;
      and3_to_mux = three_inputs code n e;
      buf = λ q. buf_inputs_lem n (at_code code 12 n e q);
      dff = λ q. dff_inputs n (at_code code 13 n e q);
      lut = λ q. lut_small code n e q;
    }

-- ---- 4: a record

table_below : (code n t : ℕ) → fits_table code n t ≡ true → code ≡ 14 → t < 2 ^ (2 ^ n)
unfolding fits_table
table_below code n t e q = ltb-true t (2 ^ (2 ^ n)) (simp (eq-eqb code 14 q) at e)

table_above : (code n t : ℕ) → fits_table code n t ≡ false → is_lut code ≡ true → 2 ^ (2 ^ n) ≤ t
unfolding fits_table
table_above code n t e q = ltb-false t (2 ^ (2 ^ n)) (simp q at e)

-- what is no Lut has the table 0, which fits
table_fits : (ws : List ℕ) (at n : ℕ) → is_lut (code_at ws at) ≡ false → fits_table (code_at ws at) n (table_at ws at) ≡ true
unfolding fits_table table_at
table_fits ws at n q = simp q

module _ (ws : List ℕ) (at : ℕ) where
  whole : sound_at ws at ≡ true → ¬ Breaks ws at
  unfolding sound_at header_ok code_at count_at
  whole s =
      let h = get_or ws at 0 in
      let c = fits_code (h % 256) (h / 256) in
      let t = fits_table (h % 256) (h / 256) (table_at ws at) in
      let head = and_left (ltb h 16777216 && c) t s in
      go (ltb-true h 16777216 (and_left (ltb h 16777216) c head)) (arity (h % 256) (h / 256) (and_right (ltb h 16777216) c head))
      (and_right (ltb h 16777216 && c) t s)
    where
      go : get_or ws at 0 < 16777216 → Arity (code_at ws at) (count_at ws at) → fits_table (code_at ws at) (count_at ws at) (table_at ws at) ≡ true
          → ¬ Breaks ws at
      go h c t (top_bits l) = omega arith
      go h c t (no_kind l) = l c
      go h c t (high_bits q l) = let m = table_below (code_at ws at) (count_at ws at) (table_at ws at) t q in omega arith

  broken : sound_at ws at ≡ false → Breaks ws at
  unfolding sound_at header_ok code_at count_at
  broken s =
      let h = get_or ws at 0 in
      let c = fits_code (h % 256) (h / 256) in
      let t = fits_table (h % 256) (h / 256) (table_at ws at) in
      ⊎_elim
      (λ (p : (ltb h 16777216 && c) ≡ false). ⊎_elim
      (λ (a : ltb h 16777216 ≡ false). top_bits (ltb-false h 16777216 a))
      (λ (a : c ≡ false). no_kind (λ (k : Arity (h % 256) (h / 256)). clash (code_fits (h % 256) (h / 256) k) a))
      (and_split (ltb h 16777216) c p))
      (λ (p : t ≡ false). by_bool (is_lut (h % 256))
      (λ q. high_bits (eqb-true (h % 256) 14 q) (table_above (h % 256) (h / 256) (table_at ws at) p q))
      (λ q. clash (table_fits ws at (h / 256) q) p))
      (and_split (ltb h 16777216 && c) t s)

-- ---- 4: the records

sound_each : (k n : ℕ) (ws : List ℕ) (at : ℕ) → k < n → sound_from n ws at ≡ true → sound_at ws (end_from k ws at) ≡ true
unfolding sound_from end_from
sound_each k zero ws at l s = absurd (omega arith)
sound_each zero (suc n) ws at l s = and_left (sound_at ws at) (sound_from n ws (at + size_at ws at)) s
sound_each (suc k) (suc n) ws at l s =
    sound_each k n ws (at + size_at ws at) (omega arith) (and_right (sound_at ws at) (sound_from n ws (at + size_at ws at)) s)

record Unsound (n : ℕ) (ws : List ℕ) (at : ℕ) : Type 0 where
  number : ℕ
  inside : number < n
  unsound : sound_at ws (end_from number ws at) ≡ false

unsound_one : (n : ℕ) (ws : List ℕ) (at : ℕ) → sound_from n ws at ≡ false → Unsound n ws at
unfolding sound_from end_from
unsound_one zero ws at s = clash refl s
unsound_one (suc n) ws at s =
    ⊎_elim
    (λ (a : sound_at ws at ≡ false). record { number = 0; inside = omega arith; unsound = a })
    (λ (a : sound_from n ws (at + size_at ws at) ≡ false).
    let u = unsound_one n ws (at + size_at ws at) a in
    record { number = suc u.number; inside = let l = u.inside in omega arith; unsound = u.unsound })
    (and_split (sound_at ws at) (sound_from n ws (at + size_at ws at)) s)

pub tells_4 : (img : List ℕ) → Tells (laid (nodes_in img) (outs_in img) (words_of img)) (Line4 img)
unfolding laid
tells_4 img =
    let n = nodes_in img in
    let ws = words_of img in
    record {
      clear = λ e. not4 (laid_is n (outs_in img) ws e);
      met =
          λ e. ⊎_elim
          (λ (a : sound_from n ws 0 ≡ false).
          let u = unsound_one n ws 0 a in
          record_breaks u.number u.inside (broken ws (end_from u.number ws 0) u.unsound))
          (λ (a : eqb (end_from n ws 0 + (outs_in img + 4)) (length ws) ≡ false).
          ends_elsewhere (eqb-false (end_from n ws 0 + (outs_in img + 4)) (length ws) a))
          (and_split (sound_from n ws 0) (eqb (end_from n ws 0 + (outs_in img + 4)) (length ws)) e);
    }
  where
    not4 : LaidOut (nodes_in img) (outs_in img) (words_of img) → ¬ Line4 img
    not4 l (record_breaks k m b) =
        whole (words_of img) (end_from k (words_of img) 0) (sound_each k (nodes_in img) (words_of img) 0 m l.sound) b
    not4 l (ends_elsewhere d) = d l.ends

-- ---- 5

pub tells_5 : (img : List ℕ) → Tells (leb (fanin (net_of img).nodes) 2048) (Line5 img)
tells_5 img =
    record {
      clear = λ e m. let l = leb-true (fanin (net_of img).nodes) 2048 e in omega arith;
      met = λ e. leb-false (fanin (net_of img).nodes) 2048 e;
    }
