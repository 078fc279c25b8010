-- The laws of fields and lines as the code meets them.
use mathlib.Core.Path.{◌≡◌, refl, sym, ap, ◌∙◌}
use mathlib.Core.Logic.{◌≢◌}
use Prim.Native.Nat.{ℕ, suc, ◌+◌, ◌*◌, ◌<◌}
use native.Mathlib.Omega.{arith}
use native.Mathlib.Numerals.{add-one}
use mathlib.Core.List.{List, [], ◌∷◌, ◌++◌, map, map-append, append_assoc, append-nil}
use lib.ListN.{length}
use borrow.Author.Tests.{eq-eqb, ne_eqb}
use Rattle.laws.specs.Lists.{tab}
use Rattle.laws.proofs.Tabs.{length_tab}
use Rattle.kinds.specs.Kinds.{kind_of}
use Rattle.kinds.specs.declared.Kind.{Kind}
use Rattle.model.specs.Listing.{ascii, decimal, signal_text, kind_text, spaced, line, numbered, counts_line, table_fields, node_line, output_line, listing_of}
use Rattle.tables.specs.Layout.{kind_at, first_at, count_at, input_at, low_at, high_at, output_at, ins_at, gate_at, nodes_of, outputs_of, net_of}
use Rattle.tables.specs.Holding.{network_of, Held}
use Rattle.tables.specs.declared.counts.Counts.{Counts}
use Rattle.tables.proofs.Holding.{length_nodes_of, length_outputs_of, nodes_few, outs_few}
use Rattle.listing.specs.Fields.{Node, Outputs, head_text, inputs_text}
use Rattle.text_parts.specs.Putting.{Wrote}
use Rattle.text_parts.specs.declared.Text.{Text}
use Rattle.text_parts.proofs.Puts.{wrote_none, wrote_then, wrote_as}

pub spaced_append : (xs ys : List (List ℕ)) → spaced (xs ++ ys) ≡ spaced xs ++ spaced ys
unfolding spaced
spaced_append [] ys = refl
spaced_append (x ∷ xs) ys = rw (spaced_append xs ys) (sym (append_assoc (32 ∷ x) (spaced xs) (spaced ys)))

numbered_next : {A : Type 0} (f : ℕ → A → List ℕ) (k : ℕ) (xs : List A) (y : A) → numbered f k (xs ++ (y ∷ [])) ≡ numbered f k xs ++ f (k + length xs) y
unfolding numbered
numbered_next f k [] y = append-nil (f k y) ∙ ap (λ (n : ℕ). f n y) (omega arith)
numbered_next f k (x ∷ xs) y =
    let e : suc k + length xs ≡ k + suc (length xs) = omega arith in
    rw (numbered_next f (suc k) xs y, e) (sym (append_assoc (f k x) (numbered f (suc k) xs) (f (k + suc (length xs)) y)))

-- the lines of a list by a function
numbered_tab : {A : Type 0} (f : ℕ → A → List ℕ) (g : ℕ → A) (n : ℕ) → numbered f 0 (tab g (suc n)) ≡ numbered f 0 (tab g n) ++ f n (g n)
unfolding tab
numbered_tab f g n =
    numbered_next f 0 (tab g n) (g n)
    ∙ ap (λ (m : ℕ). numbered f 0 (tab g n) ++ f m (g n)) (ap (λ (m : ℕ). 0 + m) (length_tab g n) ∙ omega arith)

-- ---- put_counts

to_right : (a b c d : List ℕ) → ((a ++ b) ++ c) ++ d ≡ a ++ (b ++ (c ++ d))
to_right a b c d = append_assoc (a ++ b) c d ∙ append_assoc a b (c ++ d)

pub counts_put : (i n o : ℕ) {t t1 t2 t3 t4 : Text} → Wrote t (ascii "inputs " ++ decimal i) t1 → Wrote t1 (ascii " nodes " ++ decimal n) t2
    → Wrote t2 (ascii " outputs " ++ decimal o) t3 → Wrote t3 (ascii "\n") t4 → Wrote t (counts_line i n o) t4
unfolding counts_line line spaced
counts_put i n o P1 P2 P3 P4 =
    let e = to_right (ascii "inputs " ++ decimal i) (ascii " nodes " ++ decimal n) (ascii " outputs " ++ decimal o) (ascii "\n") in
    wrote_as (e ∙ simp append_assoc) (wrote_then (wrote_then (wrote_then P1 P2) P3) P4)

-- ---- put_inputs

module _ (l : List ℕ) (first : ℕ) (t : Text) where
  pub inputs_none : Wrote t (inputs_text l first 0) t
  unfolding inputs_text tab spaced
  inputs_none = wrote_none t

  pub inputs_next : (j s : ℕ) {t1 t2 t3 : Text} → s ≡ input_at l (first + j) → Wrote t (inputs_text l first j) t1 → Wrote t1 (32 ∷ []) t2
      → Wrote t2 (signal_text s) t3 → Wrote t (inputs_text l first (j + 1)) t3
  unfolding inputs_text tab spaced
  inputs_next j s e P S Q =
      let f : ℕ → ℕ = λ i. input_at l (first + i) in
      let z : spaced (signal_text (f j) ∷ []) ≡ 32 ∷ signal_text s = rw (← e) (append-nil (32 ∷ signal_text s)) in
      let w : spaced (map signal_text (tab f (suc j))) ≡ spaced (map signal_text (tab f j)) ++ (32 ∷ signal_text s) =
      ap spaced (map-append signal_text (tab f j) (f j ∷ [])) ∙ spaced_append (map signal_text (tab f j)) (signal_text (f j) ∷ [])
      ∙ ap (λ (x : List ℕ). spaced (map signal_text (tab f j)) ++ x) z in
      wrote_as (append_assoc (spaced (map signal_text (tab f j))) (32 ∷ []) (signal_text s) ∙ sym w ∙ ap (λ (m : ℕ). spaced (map signal_text (tab f m))) (sym (add-one j))) (wrote_then (wrote_then P S) Q)

-- ---- put_table and put_node

module _ (l : List ℕ) (v : ℕ) (t : Text) (k : ℕ) (q : k ≡ kind_at l v) where
  pub table_none : k ≢ 14 → Wrote t (spaced (table_fields (gate_at l v))) t
  unfolding table_fields gate_at spaced
  table_none d = rw (ne_eqb (kind_at l v) 14 (λ e. d (q ∙ e))) (wrote_none t)

  pub table_put : k ≡ 14 → (low high n : ℕ) → low ≡ low_at l v → high ≡ high_at l v → n ≡ low + 4294967296 * high
      → (t1 t2 : Text) → Wrote t1 (decimal n) t2 → Wrote t (32 ∷ []) t1 → Wrote t (spaced (table_fields (gate_at l v))) t2
  unfolding table_fields gate_at spaced
  table_put e low high n f g w t1 t2 Q P =
      let z : low_at l v + 4294967296 * high_at l v ≡ n = sym (w ∙ rw (f, g)) in
      rw (eq-eqb (kind_at l v) 14 (sym q ∙ e), z) (wrote_as (sym (append-nil (32 ∷ decimal n))) (wrote_then P Q))

pub ruleset tables = (table_none, table_put)

pub head_put : (v k : ℕ) (K : Kind) {t t1 t2 t3 : Text} → K ≡ kind_of k → Wrote t (120 ∷ decimal v) t1 → Wrote t1 (32 ∷ []) t2
    → Wrote t2 (kind_text K) t3 → Wrote t (head_text v k) t3
unfolding head_text
head_put v k K f P1 P2 P3 = rw (← f) (wrote_as (append_assoc (120 ∷ decimal v) (32 ∷ []) (kind_text K)) (wrote_then (wrote_then P1 P2) P3))

node_fields : (l : List ℕ) (v k first n : ℕ) (ts : List (List ℕ)) → k ≡ kind_at l v → first ≡ first_at l v
    → n ≡ count_at l v → spaced (kind_text (kind_of (gate_at l v).kind) ∷ (map signal_text (gate_at l v).ins ++ ts))
    ≡ (32 ∷ kind_text (kind_of k)) ++ (inputs_text l first n ++ spaced ts)
unfolding spaced inputs_text gate_at ins_at
node_fields l v k first n ts e g m =
    rw (← e, ← g, ← m)
    (ap (λ (x : List ℕ). (32 ∷ kind_text (kind_of k)) ++ x) (spaced_append (map signal_text (tab (λ j. input_at l (first + j)) n)) ts))

pub node_put : (l : List ℕ) (v k first n : ℕ) {t t1 t2 t3 t4 : Text} → k ≡ kind_at l v → first ≡ first_at l v → n ≡ count_at l v
    → Wrote t (head_text v k) t1 → Wrote t1 (inputs_text l first n) t2 → Wrote t2 (spaced (table_fields (gate_at l v))) t3 → Wrote t3 (10 ∷ []) t4
    → Wrote t (node_line v (gate_at l v)) t4
unfolding node_line line head_text
node_put l v k first n e g m P1 P2 P3 P4 =
    wrote_as same (wrote_then (wrote_then (wrote_then P1 P2) P3) P4)
  where
    fields : spaced (kind_text (kind_of (gate_at l v).kind) ∷ (map signal_text (gate_at l v).ins ++ table_fields (gate_at l v)))
        ≡ (32 ∷ kind_text (kind_of k)) ++ (inputs_text l first n ++ spaced (table_fields (gate_at l v)))
    fields = node_fields l v k first n (table_fields (gate_at l v)) e g m

    same : ((((120 ∷ decimal v) ++ (32 ∷ kind_text (kind_of k))) ++ inputs_text l first n) ++ spaced (table_fields (gate_at l v))) ++ (10 ∷ [])
        ≡ (120 ∷ decimal v) ++ (spaced (kind_text (kind_of (gate_at l v).kind) ∷ (map signal_text (gate_at l v).ins ++ table_fields (gate_at l v))) ++ (10 ∷ []))
    same = rw fields (simp append_assoc)

-- ---- put_nodes, put_output and put_outputs

module _ (l : List ℕ) (t : Text) where
  pub nodes_none : Wrote t (numbered node_line 0 (nodes_of l 0)) t
  unfolding nodes_of tab numbered
  nodes_none = wrote_none t

  pub nodes_next : (v : ℕ) (t1 t2 : Text) → Wrote t1 (node_line v (gate_at l v)) t2 → Wrote t (numbered node_line 0 (nodes_of l v)) t1
      → Wrote t (numbered node_line 0 (nodes_of l (v + 1))) t2
  unfolding nodes_of
  nodes_next v t1 t2 Q P = rw (add-one v) (wrote_as (sym (numbered_tab node_line (gate_at l) v)) (wrote_then P Q))

  pub outputs_none : Wrote t (numbered output_line 0 (outputs_of l 0)) t
  unfolding outputs_of tab numbered
  outputs_none = wrote_none t

  pub outputs_next : (o s : ℕ) (t1 t2 : Text) → s ≡ output_at l o → Wrote t1 (output_line o s) t2 → Wrote t (numbered output_line 0 (outputs_of l o)) t1
      → Wrote t (numbered output_line 0 (outputs_of l (o + 1))) t2
  unfolding outputs_of
  outputs_next o s t1 t2 e Q P = rw (add-one o) (wrote_as (sym (numbered_tab output_line (output_at l) o)) (rw (← e) (wrote_then P Q)))

pub node_held : (l : List ℕ) (c : Counts) (v : ℕ) → Held l c → v < c.nodes → Node l v
node_held l c v H h = record { long = H.long; few = omega (arith, nodes_few l c H); ends = H.ends v h }

pub output_put : (o s : ℕ) {t t1 t2 t3 t4 : Text} → Wrote t (111 ∷ decimal o) t1 → Wrote t1 (32 ∷ []) t2 → Wrote t2 (signal_text s) t3
    → Wrote t3 (10 ∷ []) t4 → Wrote t (output_line o s) t4
unfolding output_line line spaced
output_put o s P1 P2 P3 P4 =
    wrote_as (simp append_assoc) (wrote_then (wrote_then (wrote_then P1 P2) P3) P4)

pub ruleset outputs = (outputs_none, outputs_next)

-- ---- put_listing

pub outputs_held : (l : List ℕ) (c : Counts) → Held l c → Outputs l c.outs
outputs_held l c H = record { long = H.long; few = outs_few l c H }

pub listing_put : (l : List ℕ) (c : Counts) {t t1 t2 t3 : Text} → Wrote t (counts_line c.inputs c.nodes c.outs) t1
    → Wrote t1 (numbered node_line 0 (nodes_of l c.nodes)) t2 → Wrote t2 (numbered output_line 0 (outputs_of l c.outs)) t3
    → Wrote t (listing_of (network_of l c)) t3
unfolding listing_of network_of net_of
listing_put l c P1 P2 P3 =
    let cs = counts_line c.inputs c.nodes c.outs in
    let ns = numbered node_line 0 (nodes_of l c.nodes) in
    let os = numbered output_line 0 (outputs_of l c.outs) in
    rw (length_nodes_of l c.nodes, length_outputs_of l c.outs) (wrote_as (append_assoc cs ns os) (wrote_then (wrote_then P1 P2) P3))
