-- How long the listing of a valid network can be.
use mathlib.Core.Path.{◌≡◌}
use Prim.Native.Nat.{ℕ, suc, ◌+◌, ◌*◌, ◌≤◌, ◌<◌}
use native.Mathlib.Omega.{arith}
use mathlib.Core.Bool.{Bool, true, false}
use mathlib.Core.List.{List, [], ◌∷◌, ◌++◌, map}
use lib.ListN.{length, length-append}
use borrow.Author.Tests.{ltb-true}
use Rattle.laws.specs.Bools.{bit}
use Rattle.laws.proofs.Bools.{and_left, and_right}
use Rattle.laws.proofs.Choices.{by_bool}
use Rattle.kinds.specs.Kinds.{kind_of}
use Rattle.kinds.specs.declared.Kind.{Kind}
use Rattle.kinds.specs.declared.Kind.TheVariants.{And2, Xor2, And3, Xor3, Maj, Mux, AndN, OrN, NandN, NorN, XorN, XnorN, Buf, Dff, Lut}
use Rattle.model.specs.Signal.{Ref, rzero, rnode, rinput, ref, is_inverted}
use Rattle.model.specs.Gate.{Gate, Net, Valid, size, is_lut, shaped, all_shaped, fanin, named, named_ref, all_named, gates_named, wired}
use Rattle.model.specs.Listing.{decimal, mark_text, ref_text, signal_text, kind_text, spaced, line, numbered, counts_line, table_fields, node_line, output_line, listing_of}
use Rattle.model.proofs.Named.{named_ref_lem}
use Rattle.shape.proofs.Shaped.{table_two, first_shaped, rest_shaped}
use Rattle.listing.proofs.Decimals.{decimal_short}
use Rattle.listing.proofs.Lines.{spaced_append}

length_line : (x : List ℕ) (fs : List (List ℕ)) → length (line x fs) ≡ length x + length (spaced fs) + 1
unfolding line
length_line x fs = rw (length-append x (spaced fs ++ (10 ∷ [])), length-append (spaced fs) (10 ∷ [])) (omega arith)

length_field : (x : List ℕ) (fs : List (List ℕ)) → length (spaced (x ∷ fs)) ≡ length x + length (spaced fs) + 1
unfolding spaced
length_field x fs = rw (length-append (32 ∷ x) (spaced fs)) (omega arith)

mark_short : (t : Bool) → length (mark_text t) ≤ 1
mark_short true = omega arith
mark_short false = omega arith

kind_short : (k : Kind) → length (kind_text k) ≤ 5
kind_short And2 = omega arith
kind_short Xor2 = omega arith
kind_short And3 = omega arith
kind_short Xor3 = omega arith
kind_short Maj = omega arith
kind_short Mux = omega arith
kind_short AndN = omega arith
kind_short OrN = omega arith
kind_short NandN = omega arith
kind_short NorN = omega arith
kind_short XorN = omega arith
kind_short XnorN = omega arith
kind_short Buf = omega arith
kind_short Dff = omega arith
kind_short Lut = omega arith

bit_low : (t : Bool) → bit t < 10
bit_low true = omega arith
bit_low false = omega arith

-- at most 6 bytes a signal: !i1023
module _ (i n : ℕ) (hi : i ≤ 1024) (hn : n ≤ 512) where
  ref_short : (r : Ref) (t : Bool) → named_ref i n r ≡ true → length (ref_text r t) ≤ 6
  ref_short rzero t e = let d = decimal_short 0 (bit t) (bit_low t) in omega arith
  ref_short (rnode v) t e =
      let k : v < n = ltb-true v n e in
      let d : length (decimal v) ≤ 3 = decimal_short 2 v (omega arith) in
      rw (length-append (mark_text t) (120 ∷ decimal v)) (omega (arith, mark_short t))
  ref_short (rinput v) t e =
      let k : v < i = ltb-true v i e in
      let d : length (decimal v) ≤ 4 = decimal_short 3 v (omega arith) in
      rw (length-append (mark_text t) (105 ∷ decimal v)) (omega (arith, mark_short t))

  signal_short : (s : ℕ) → named i n s ≡ true → length (signal_text s) ≤ 6
  unfolding signal_text
  signal_short s e = ref_short (ref s) (is_inverted s) (named_ref_lem i n s e)

  fields_short : (l : List ℕ) → all_named i n l ≡ true → length (spaced (map signal_text l)) ≤ 7 * length l
  unfolding spaced all_named
  fields_short [] e = omega arith
  fields_short (s ∷ l) e =
      rw (length-append (32 ∷ signal_text s) (spaced (map signal_text l)))
      (omega (arith, signal_short s (and_left (named i n s) (all_named i n l) e), fields_short l (and_right (named i n s) (all_named i n l) e)))

  table_short : (g : Gate) → shaped g ≡ true → length (spaced (table_fields g)) ≤ 21
  unfolding table_fields spaced
  table_short g s =
      by_bool (is_lut g.kind)
      (λ e. let t : g.table < 18446744073709551616 = table_two g s e in
      let d : length (decimal g.table) ≤ 20 = decimal_short 19 g.table (omega arith) in
      rw e (rw (length-append (32 ∷ decimal g.table) []) (omega arith)))
      (λ e. rw e (omega arith))

  node_short : (v : ℕ) (g : Gate) → v < 512 → shaped g ≡ true → all_named i n g.ins ≡ true → length (node_line v g) ≤ 32 + 7 * length g.ins
  unfolding node_line
  node_short v g h s e =
      let d : length (decimal v) ≤ 3 = decimal_short 2 v (omega arith) in
      rw (length_line, length_field, spaced_append, length-append)
      (omega (arith, kind_short (kind_of g.kind), fields_short g.ins e, table_short g s))

  nodes_short : (v : ℕ) (gs : List Gate) → v + length gs ≤ 512 → all_shaped gs ≡ true → gates_named i n gs ≡ true
      → length (numbered node_line v gs) ≤ 32 * length gs + 7 * fanin gs
  unfolding numbered fanin gates_named
  nodes_short v [] h s e = omega arith
  nodes_short v (g ∷ gs) h s e =
      simp length-append
      (omega (
        arith,
        node_short v g (omega arith) (first_shaped g gs s) (and_left (all_named i n g.ins) (gates_named i n gs) e),
        nodes_short (suc v) gs (omega arith) (rest_shaped g gs s) (and_right (all_named i n g.ins) (gates_named i n gs) e),
      ))

  outputs_short : (o : ℕ) (l : List ℕ) → o + length l ≤ 64 → all_named i n l ≡ true → length (numbered output_line o l) ≤ 11 * length l
  unfolding numbered output_line line spaced all_named
  outputs_short o [] h e = omega arith
  outputs_short o (s ∷ l) h e =
      let d : length (decimal o) ≤ 2 = decimal_short 1 o (omega arith) in
      simp length-append
      (omega (arith, signal_short s (and_left (named i n s) (all_named i n l) e), outputs_short (suc o) l (omega arith) (and_right (named i n s) (all_named i n l) e)))

counts_short : (i n o : ℕ) → i ≤ 1024 → n ≤ 512 → o ≤ 64 → length (counts_line i n o) ≤ 33
unfolding counts_line line spaced
counts_short i n o hi hn ho =
    let a : length (decimal i) ≤ 4 = decimal_short 3 i (omega arith) in
    let b : length (decimal n) ≤ 3 = decimal_short 2 n (omega arith) in
    let c : length (decimal o) ≤ 2 = decimal_short 1 o (omega arith) in
    simp length-append (omega arith)

-- so a buffer of 32,768 bytes has room for each
pub listing_short : (N : Net) → Valid N → length (listing_of N) ≤ 32768
unfolding listing_of wired
listing_short N ok =
    let a = ok.inputs_few in
    let b = ok.nodes_few in
    let c = ok.outs_few in
    let d = ok.ins_few in
    let ns = and_left (gates_named N.inputs (size N) N.nodes) (all_named N.inputs (size N) N.outs) ok.signals in
    let os = and_right (gates_named N.inputs (size N) N.nodes) (all_named N.inputs (size N) N.outs) ok.signals in
    simp length-append
    (omega (
      arith,
      counts_short N.inputs (size N) (length N.outs) a b c,
      nodes_short N.inputs (size N) a b 0 N.nodes (omega arith) ok.gates_shaped ns,
      outputs_short N.inputs (size N) a b 0 N.outs (omega arith) os,
    ))
