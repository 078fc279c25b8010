-- What a gate and the outputs put into an area leave there. Knows no place of a word.
use Prim.Native.Nat.{ℕ, zero, suc, ◌+◌, ◌-◌, ◌*◌, ◌^◌, ◌≤◌, ◌<◌}
use mathlib.Core.Path.{◌≡◌, refl, ap, ◌∙◌}
use mathlib.Core.Logic.{◌≢◌}
use mathlib.Core.List.{List, [], ◌∷◌, ◌++◌}
use native.Mathlib.Numerals.{add-one}
use native.Mathlib.Omega.{arith}
use native.Mathlib.Decide.{ℕ_discrete}
use lib.ListN.{length}
use Rattle.shape.proofs.Written.{gate_eq}
use Rattle.laws.specs.Lists.{tab}
use Rattle.laws.proofs.Tabs.{tab_ext}
use Rattle.tables.specs.Layout.{net_size, kind_at, first_at, count_at, input_at, low_at, high_at, output_at, ins_at, gate_at, nodes_of, outputs_of, put_gate, put_input, put_table, put_output, cell}
use Rattle.tables.specs.Building.{inputs_from, put_inputs, put_node, put_outputs, Packed}
use Rattle.tables.proofs.Places.{length_put_gate, kind_at_put_gate, first_at_put_gate, count_at_put_gate, kind_at_put_gate_other, first_at_put_gate_other, count_at_put_gate_other, input_at_put_gate, low_at_put_gate, high_at_put_gate, cell_put_gate}
use Rattle.tables.proofs.Places.{length_put_input, put_input_comm, input_at_put_input, input_at_put_input_other, kind_at_put_input, first_at_put_input, count_at_put_input, low_at_put_input, high_at_put_input, cell_put_input}
use Rattle.tables.proofs.Places.{length_put_table, low_at_put_table, high_at_put_table, low_at_put_table_other, high_at_put_table_other, kind_at_put_table, first_at_put_table, count_at_put_table, input_at_put_table, cell_put_table}
use Rattle.tables.proofs.Places.{length_put_output, output_at_put_output, output_at_put_output_other, kind_at_put_output, first_at_put_output, count_at_put_output, low_at_put_output, high_at_put_output, input_at_put_output, cell_put_output}
use Rattle.tables.proofs.Gates.{gate_at_same}

-- ---- inputs

module _ (l : List ℕ) (at : ℕ) (f : ℕ → ℕ) where
  pub length_put_inputs : (n : ℕ) → length (put_inputs l at f n) ≡ length l
  unfolding put_inputs
  length_put_inputs zero = refl
  length_put_inputs (suc n) = length_put_input _ _ _ ∙ length_put_inputs n

  -- one more
  pub put_inputs_next : (n s : ℕ) → s ≡ f n → put_input (put_inputs l at f n) (at + n) s ≡ put_inputs l at f (suc n)
  unfolding put_inputs
  put_inputs_next n s e = ap (put_input (put_inputs l at f n) (at + n)) e

  pub input_at_put_inputs : (n : ℕ) → at + n ≤ 2048 → net_size ≤ length l → (j : ℕ) → j < n → input_at (put_inputs l at f n) (at + j) ≡ f j
  unfolding put_inputs
  input_at_put_inputs zero r z j h = absurd (omega arith)
  input_at_put_inputs (suc n) r z j h = elim (ℕ_discrete j n) [
    | yes e ↦ rw e (input_at_put_input (put_inputs l at f n) (at + n) (f n) (omega arith) (rw length_put_inputs z))
    | no e ↦ input_at_put_input_other (put_inputs l at f n) (at + n) (f n) (at + j) (omega arith) ∙ input_at_put_inputs n (omega arith) z j (omega arith)
  ]

  pub input_at_put_inputs_below : (n k : ℕ) → k < at → input_at (put_inputs l at f n) k ≡ input_at l k
  unfolding put_inputs
  input_at_put_inputs_below zero k h = refl
  input_at_put_inputs_below (suc n) k h = input_at_put_input_other _ _ _ k (omega arith) ∙ input_at_put_inputs_below n k h

  pub input_at_put_inputs_above : (n k : ℕ) → at + n ≤ k → input_at (put_inputs l at f n) k ≡ input_at l k
  unfolding put_inputs
  input_at_put_inputs_above zero k h = refl
  input_at_put_inputs_above (suc n) k h = input_at_put_input_other _ _ _ k (omega arith) ∙ input_at_put_inputs_above n k (omega arith)

  module _ (w : ℕ) (h : w < 512) where
    pub kind_at_put_inputs : (n : ℕ) → kind_at (put_inputs l at f n) w ≡ kind_at l w
    unfolding put_inputs
    kind_at_put_inputs zero = refl
    kind_at_put_inputs (suc n) = kind_at_put_input _ _ _ w h ∙ kind_at_put_inputs n

    pub first_at_put_inputs : (n : ℕ) → first_at (put_inputs l at f n) w ≡ first_at l w
    unfolding put_inputs
    first_at_put_inputs zero = refl
    first_at_put_inputs (suc n) = first_at_put_input _ _ _ w h ∙ first_at_put_inputs n

    pub count_at_put_inputs : (n : ℕ) → count_at (put_inputs l at f n) w ≡ count_at l w
    unfolding put_inputs
    count_at_put_inputs zero = refl
    count_at_put_inputs (suc n) = count_at_put_input _ _ _ w h ∙ count_at_put_inputs n

  module _ (w : ℕ) where
    pub low_at_put_inputs : (n : ℕ) → at + n ≤ 2048 → low_at (put_inputs l at f n) w ≡ low_at l w
    unfolding put_inputs
    low_at_put_inputs zero r = refl
    low_at_put_inputs (suc n) r = low_at_put_input _ _ _ w (omega arith) ∙ low_at_put_inputs n (omega arith)

    pub high_at_put_inputs : (n : ℕ) → at + n ≤ 2048 → high_at (put_inputs l at f n) w ≡ high_at l w
    unfolding put_inputs
    high_at_put_inputs zero r = refl
    high_at_put_inputs (suc n) r = high_at_put_input _ _ _ w (omega arith) ∙ high_at_put_inputs n (omega arith)

  pub cell_put_inputs : (n c j : ℕ) → at + n ≤ 2048 → net_size ≤ c → cell (put_inputs l at f n) c j ≡ cell l c j
  unfolding put_inputs
  cell_put_inputs zero c j r far = refl
  cell_put_inputs (suc n) c j r far = cell_put_input _ c j far _ _ (omega arith) ∙ cell_put_inputs n c j (omega arith) far

-- the word before them
put_inputs_before : (l : List ℕ) (at : ℕ) (f g : ℕ → ℕ) → ((i : ℕ) → g i ≡ f (suc i)) → (n : ℕ) → put_input (put_inputs l (suc at) g n) at (f 0) ≡ put_inputs l at f (suc n)
unfolding put_inputs
put_inputs_before l at f g h zero = ap (λ (k : ℕ). put_input l k (f 0)) (omega arith)
put_inputs_before l at f g h (suc n) =
    let p = put_inputs l (suc at) g n in
    let a : suc at + n ≡ at + suc n = omega arith in
    put_input_comm p (suc at + n) at (g n) (f 0) (omega arith)
    ∙ ap (λ (m : List ℕ). put_input m (suc at + n) (g n)) (put_inputs_before l at f g h n)
    ∙ rw (a, h n) refl

-- ---- inputs moved within a network

module _ (l₀ l : List ℕ) (f at : ℕ) where
  -- from the first up: j of them stand at their new place
  pub forward_next : (j : ℕ) → l ≡ put_inputs l₀ at (inputs_from l₀ f) j → at ≤ f → (s : ℕ) → s ≡ input_at l (f + j)
      → put_input l (at + j) s ≡ put_inputs l₀ at (inputs_from l₀ f) (j + 1)
  unfolding inputs_from
  forward_next j e b s es =
      let k : s ≡ inputs_from l₀ f j = es ∙ ap (λ (m : List ℕ). input_at m (f + j)) e ∙ input_at_put_inputs_above l₀ at (inputs_from l₀ f) j (f + j) (omega arith) in
      rw (e, add-one j) (put_inputs_next l₀ at (inputs_from l₀ f) j s k)

  -- from the last down: all but k of them
  pub back_next : (n k j : ℕ) → l ≡ put_inputs l₀ (at + k) (inputs_from l₀ (f + k)) (n - k) → k ≡ j + 1 → j < n → f ≤ at → (s : ℕ) → s ≡ input_at l (f + j)
      → put_input l (at + j) s ≡ put_inputs l₀ (at + j) (inputs_from l₀ (f + j)) (n - j)
  unfolding inputs_from
  back_next n k j e d h b s es =
      let g = inputs_from l₀ (f + k) in
      let p : at + k ≡ suc (at + j) = omega arith in
      let q : n - j ≡ suc (n - k) = omega arith in
      let x : f + j ≡ f + j + 0 = omega arith in
      let r : s ≡ inputs_from l₀ (f + j) 0 = es ∙ ap (λ (m : List ℕ). input_at m (f + j)) e ∙ input_at_put_inputs_below l₀ (at + k) g (n - k) (f + j) (omega arith) ∙ ap (input_at l₀) x in
      rw (q, e, p, r)
      (put_inputs_before l₀ (at + j) (inputs_from l₀ (f + j)) g (λ i. let y : f + k + i ≡ f + j + suc i = omega arith in ap (input_at l₀) y) (n - k))

pub back_start : (l : List ℕ) (f at n : ℕ) → l ≡ put_inputs l (at + n) (inputs_from l (f + n)) (n - n)
unfolding put_inputs
back_start l f at n = let e : n - n ≡ 0 = omega arith in rw e refl

pub back_end : (l₀ l : List ℕ) (f at n k : ℕ) → l ≡ put_inputs l₀ (at + k) (inputs_from l₀ (f + k)) (n - k) → k ≡ 0 → l ≡ put_inputs l₀ at (inputs_from l₀ f) n
back_end l₀ l f at n k e z =
    let a : at + k ≡ at = omega arith in
    let b : f + k ≡ f = omega arith in
    let d : n - k ≡ n = omega arith in
    e ∙ rw (a, b, d) refl

-- ---- a gate behind those that stand there

module _ (l : List ℕ) (v k at : ℕ) (f : ℕ → ℕ) (n lo hi : ℕ) where
  pub length_put_node : length (put_node l v k at f n lo hi) ≡ length l
  unfolding put_node
  length_put_node = length_put_table _ _ _ _ ∙ length_put_gate _ _ _ _ _ ∙ length_put_inputs l at f n

  module _ (h : v < 512) (r : at + n ≤ 2048) where
    pub cell_put_node : (c j : ℕ) → net_size ≤ c → cell (put_node l v k at f n lo hi) c j ≡ cell l c j
    unfolding put_node
    cell_put_node c j far = cell_put_table _ c j far v lo hi h ∙ cell_put_gate _ c j far v k at n h ∙ cell_put_inputs l at f n c j r far

    module _ (z : net_size ≤ length l) where
      pub gate_at_put_node : gate_at (put_node l v k at f n lo hi) v ≡ record { kind = k; ins = tab f n; table = lo + 2 ^ 32 * hi }
      unfolding gate_at ins_at put_node
      gate_at_put_node =
          let p = put_inputs l at f n in
          let g = put_gate p v k at n in
          let y : net_size ≤ length p = rw length_put_inputs z in
          let x : net_size ≤ length g = rw length_put_gate y in
          let ek = kind_at_put_table g v lo hi v h ∙ kind_at_put_gate p v k at n h y in
          let ef = first_at_put_table g v lo hi v h ∙ first_at_put_gate p v k at n h y in
          let ec = count_at_put_table g v lo hi v h ∙ count_at_put_gate p v k at n h y in
          gate_eq ek
          (ap (λ (m : ℕ). tab (λ j. input_at (put_table g v lo hi) (first_at (put_table g v lo hi) v + j)) m) ec
          ∙ ap (λ (m : ℕ). tab (λ j. input_at (put_table g v lo hi) (m + j)) n) ef
          ∙ tab_ext _ f n
          (λ j q. input_at_put_table g v lo hi (at + j) (omega arith) ∙ input_at_put_gate p v k at n (at + j) h ∙ input_at_put_inputs l at f n r z j q))
          (rw (low_at_put_table g v lo hi h x, high_at_put_table g v lo hi h x))

      module _ (w : ℕ) (q : w < 512) (d : w ≢ v) where
        pub first_at_put_node : first_at (put_node l v k at f n lo hi) w ≡ first_at l w
        unfolding put_node
        first_at_put_node = first_at_put_table _ v lo hi w q ∙ first_at_put_gate_other _ v k at n w d h q ∙ first_at_put_inputs l at f w q n

        pub count_at_put_node : count_at (put_node l v k at f n lo hi) w ≡ count_at l w
        unfolding put_node
        count_at_put_node = count_at_put_table _ v lo hi w q ∙ count_at_put_gate_other _ v k at n w d h q ∙ count_at_put_inputs l at f w q n

        pub gate_at_put_node_other : first_at l w + count_at l w ≤ at → gate_at (put_node l v k at f n lo hi) w ≡ gate_at l w
        unfolding put_node
        gate_at_put_node_other e =
            gate_at_same (put_node l v k at f n lo hi) l w w
            (kind_at_put_table _ v lo hi w q ∙ kind_at_put_gate_other _ v k at n w d h q ∙ kind_at_put_inputs l at f w q n)
            count_at_put_node
            (λ j p.
            ap (λ (m : ℕ). input_at (put_node l v k at f n lo hi) (m + j)) first_at_put_node
            ∙ input_at_put_table _ v lo hi (first_at l w + j) (omega arith)
            ∙ input_at_put_gate _ v k at n (first_at l w + j) h
            ∙ input_at_put_inputs_below l at f n (first_at l w + j) (omega arith))
            (low_at_put_table_other _ v lo hi w d h q ∙ low_at_put_gate _ v k at n w h ∙ low_at_put_inputs l at f w n r)
            (high_at_put_table_other _ v lo hi w d h q ∙ high_at_put_gate _ v k at n w h ∙ high_at_put_inputs l at f w n r)

-- the nodes one by one
pub nodes_of_next : (l : List ℕ) (v : ℕ) → nodes_of l (suc v) ≡ nodes_of l v ++ (gate_at l v ∷ [])
unfolding nodes_of tab
nodes_of_next l v = refl

pub nodes_of_none : (l : List ℕ) → nodes_of l 0 ≡ []
unfolding nodes_of tab
nodes_of_none l = refl

pub nodes_of_same : (l m : List ℕ) (v : ℕ) → ((w : ℕ) → w < v → gate_at l w ≡ gate_at m w) → nodes_of l v ≡ nodes_of m v
unfolding nodes_of
nodes_of_same l m v h = tab_ext (gate_at l) (gate_at m) v h

-- an area in which nothing stands
pub packed_none : (l : List ℕ) → net_size ≤ length l → Packed l 0 0
packed_none l z = record { long = z; few = omega arith; ends = λ w h. absurd (omega arith); room = omega arith }

module _ (l : List ℕ) (v at : ℕ) (P : Packed l v at) (k : ℕ) (f : ℕ → ℕ) (n lo hi : ℕ) (h : v < 512) (r : at + n ≤ 2048) where
  pub nodes_of_put_node : nodes_of (put_node l v k at f n lo hi) (suc v) ≡ nodes_of l v ++ (record { kind = k; ins = tab f n; table = lo + 2 ^ 32 * hi } ∷ [])
  nodes_of_put_node =
      let a : nodes_of (put_node l v k at f n lo hi) v ≡ nodes_of l v = nodes_of_same _ _ v (λ w q. gate_at_put_node_other l v k at f n lo hi h r P.long w (omega arith) (omega arith) (P.ends w q)) in
      let b = gate_at_put_node l v k at f n lo hi h r P.long in
      nodes_of_next _ v ∙ rw (a, b)

  pub packed_put_node : Packed (put_node l v k at f n lo hi) (suc v) (at + n)
  unfolding put_node
  packed_put_node = record {
    long = rw length_put_node P.long;
    few = h;
    ends = λ w q. elim (ℕ_discrete w v) [
      | yes e ↦
          let p = put_inputs l at f n in
          let g = put_gate p v k at n in
          let y : net_size ≤ length p = rw length_put_inputs P.long in
          let a = first_at_put_table g v lo hi v h ∙ first_at_put_gate p v k at n h y in
          let b = count_at_put_table g v lo hi v h ∙ count_at_put_gate p v k at n h y in
          rw (e, a, b) (omega arith)
      | no e ↦
          let z = P.long in
          let p : w < 512 = omega arith in
          rw (first_at_put_node l v k at f n lo hi h r z w p e, count_at_put_node l v k at f n lo hi h r z w p e) (omega (arith, P.ends w (omega arith)))
    ];
    room = r;
  }

-- ---- outputs

module _ (l : List ℕ) (f : ℕ → ℕ) where
  pub length_put_outputs : (m : ℕ) → length (put_outputs l f m) ≡ length l
  unfolding put_outputs
  length_put_outputs zero = refl
  length_put_outputs (suc m) = length_put_output _ _ _ ∙ length_put_outputs m

  -- one more
  pub put_outputs_next : (m s : ℕ) → s ≡ f m → put_output (put_outputs l f m) m s ≡ put_outputs l f (suc m)
  unfolding put_outputs
  put_outputs_next m s e = ap (put_output (put_outputs l f m) m) e

  pub output_at_put_outputs : (m : ℕ) → m ≤ 64 → net_size ≤ length l → (j : ℕ) → j < m → output_at (put_outputs l f m) j ≡ f j
  unfolding put_outputs
  output_at_put_outputs zero r z j h = absurd (omega arith)
  output_at_put_outputs (suc m) r z j h = elim (ℕ_discrete j m) [
    | yes e ↦ rw e (output_at_put_output (put_outputs l f m) m (f m) (omega arith) (rw length_put_outputs z))
    | no e ↦ output_at_put_output_other (put_outputs l f m) m (f m) j (omega arith) ∙ output_at_put_outputs m (omega arith) z j (omega arith)
  ]

  pub outputs_of_put_outputs : (m : ℕ) → m ≤ 64 → net_size ≤ length l → outputs_of (put_outputs l f m) m ≡ tab f m
  unfolding outputs_of
  outputs_of_put_outputs m r z = tab_ext (output_at (put_outputs l f m)) f m (output_at_put_outputs m r z)

  pub cell_put_outputs : (m c j : ℕ) → m ≤ 64 → net_size ≤ c → cell (put_outputs l f m) c j ≡ cell l c j
  unfolding put_outputs
  cell_put_outputs zero c j r far = refl
  cell_put_outputs (suc m) c j r far = cell_put_output _ c j far _ _ (omega arith) ∙ cell_put_outputs m c j (omega arith) far

  module _ (w : ℕ) (h : w < 512) where
    pub first_at_put_outputs : (m : ℕ) → first_at (put_outputs l f m) w ≡ first_at l w
    unfolding put_outputs
    first_at_put_outputs zero = refl
    first_at_put_outputs (suc m) = first_at_put_output _ _ _ w h ∙ first_at_put_outputs m

    pub count_at_put_outputs : (m : ℕ) → count_at (put_outputs l f m) w ≡ count_at l w
    unfolding put_outputs
    count_at_put_outputs zero = refl
    count_at_put_outputs (suc m) = count_at_put_output _ _ _ w h ∙ count_at_put_outputs m

    pub gate_at_put_outputs : first_at l w + count_at l w ≤ 2048 → (m : ℕ) → gate_at (put_outputs l f m) w ≡ gate_at l w
    unfolding put_outputs
    gate_at_put_outputs e zero = refl
    gate_at_put_outputs e (suc m) =
        let o = put_outputs l f m in
        let a = first_at_put_outputs m in
        let b = count_at_put_outputs m in
        gate_at_same _ o w w (kind_at_put_output o m (f m) w h) (count_at_put_output o m (f m) w h)
        (λ j p. ap (λ (x : ℕ). input_at (put_output o m (f m)) (x + j)) (first_at_put_output o m (f m) w h) ∙ input_at_put_output o m (f m) (first_at o w + j) (omega arith))
        (low_at_put_output o m (f m) w h)
        (high_at_put_output o m (f m) w h)
        ∙ gate_at_put_outputs e m

  module _ (v at : ℕ) (P : Packed l v at) where
    pub nodes_of_put_outputs : (m : ℕ) → nodes_of (put_outputs l f m) v ≡ nodes_of l v
    nodes_of_put_outputs m = nodes_of_same _ _ v (λ w q. let h = P.few in let r = P.room in gate_at_put_outputs w (omega arith) (omega (arith, P.ends w q)) m)

    pub packed_put_outputs : (m : ℕ) → Packed (put_outputs l f m) v at
    packed_put_outputs m = record {
      long = rw length_put_outputs P.long;
      few = P.few;
      ends = λ w q. let h = P.few in let p : w < 512 = omega arith in rw (first_at_put_outputs w p m, count_at_put_outputs w p m) (P.ends w q);
      room = P.room;
    }
