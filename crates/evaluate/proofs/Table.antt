-- What the table of values holds: the inputs' and, after the forward pass, the nodes' values of the model's cycle. So the bytes
-- that are written are the model's.
use mathlib.Core.Path.{◌≡◌, sym, ap, subst, ◌∙◌}
use Prim.Native.Nat.{ℕ, zero, suc, ◌+◌, ◌-◌, ◌*◌, ◌/◌, ◌%◌, ◌^◌, ◌≤◌, ◌<◌}
use native.Mathlib.Nat.{not-suc-le-zero}
use native.Mathlib.Omega.{arith}
use native.Mathlib.Decide.{ℕ_discrete, dec_lt}
use mathlib.Core.Bool.{Bool, true, false}
use mathlib.Core.List.{List, map}
use lib.ListN.{length}
use lib.Dec.{ltb}
use borrow.Author.Tests.{ltb-true}
use Rattle.kinds.specs.Kinds.{kind_of}
use Rattle.laws.specs.Bools.{xor, bit}
use Rattle.laws.specs.Lists.{All, tab}
use Rattle.laws.proofs.Bools.{and_right}
use Rattle.laws.proofs.Choices.{by_bool}
use Rattle.laws.proofs.Lists.{all_at}
use Rattle.laws.proofs.Tabs.{tab_ext, map_tab}
use Rattle.model.specs.Signal.{is_inverted, rnode, rinput, ref}
use Rattle.model.specs.Gate.{Gate, Net, is_dff, size, named}
use Rattle.model.specs.Gate as model
use Rattle.model.specs.Evaluate.{value_of, ref_value, signal_value, gate_value, shows, evaluate, outputs, next, next_state, truths, cycle_values, output_bytes, state_byte, state_bytes}
use Rattle.model.proofs.Words.{constant_ref, var_ref, input_ref}
use Rattle.shape.proofs.Named.{Here, here_node, here_word, wired_ins, wired_outs, sorted_ins}
use Rattle.model.proofs.Forward.{shows_dff, shows_comb, evaluate_sorted}
use Rattle.tables.specs.Holding.{network_of}
use Rattle.tables.specs.declared.counts.Counts.{Counts}
use Rattle.tables.proofs.Holding.{size_network, gate_network, get_or_ins_at, length_ins_at, get_or_outputs_of, length_outputs_of}
use Rattle.tables.specs.Layout.{kind_at, first_at, count_at, input_at, low_at, high_at, output_at, ins_at, gate_at, outputs_of, net_of, cell, store}
use Rattle.signal_values.specs.Signals.{values_base, values_end, slot, is_odd, value_at, input_value, dff_at}
use Rattle.values.specs.Values.{gate_value_at, shown_at}
use Rattle.signal_values.proofs.Bits.{odd_bit}
use Rattle.cycle_checks.specs.Checks.{inputs_to}
use Rattle.flip_flops.specs.Storing.{new_state, new_byte}
use Rattle.evaluate.specs.Passes.{forward_to, output_byte}
use Rattle.evaluate.proofs.Numbers.{dff_is}
use Rattle.evaluate.proofs.Same.{value_store, value_other, length_values}

-- the values of i inputs and of the nodes below k
pub record Valued (t : List ℕ) (i k : ℕ) (inp v : ℕ → Bool) : Type 0 where
  pub room : values_end ≤ length t
  pub none : is_odd (cell t values_base 0) ≡ false
  pub inputs : (j : ℕ) → j < i → is_odd (cell t values_base (2047 - j)) ≡ inp j
  pub nodes : (m : ℕ) → m < k → is_odd (cell t values_base (m + 1)) ≡ v m

-- ---- a signal that names one of them is read right

module _ (t : List ℕ) (i k : ℕ) (inp v : ℕ → Bool) (h : Valued t i k inp v) (few : i ≤ 1024) (low : k ≤ 512) where
  abbrev stored : ℕ → Bool
  stored s = is_odd (cell t values_base (slot s))

  stored_at : (s p : ℕ) → s / 2 % 2048 ≡ p → stored s ≡ is_odd (cell t values_base p)
  unfolding slot
  stored_at s p e = ap (λ j. is_odd (cell t values_base j)) e

  stored_is : (s : ℕ) → Here i k s → stored s ≡ ref_value inp v (ref s)
  unfolding named
  stored_is s e = elim (ℕ_discrete (s / 2) 0) [
    | yes z ↦ stored_at s 0 (omega arith) ∙ h.none ∙ sym (ap (ref_value inp v) (constant_ref s z))
    | no z ↦ elim (dec_lt s 2147483648) [
      | yes l ↦
          let r : ref s ≡ rnode (s / 2 - 1) = var_ref s (omega arith) l in
          let b : s / 2 - 1 < k = here_node i k s (s / 2 - 1) e r in
          stored_at s (s / 2 - 1 + 1) (omega arith) ∙ h.nodes (s / 2 - 1) b ∙ sym (ap (ref_value inp v) r)
      | no l ↦
          let r : ref s ≡ rinput (2147483647 - s / 2) = input_ref s (omega arith) in
          let w : s < 4294967296 = here_word i k s e in
          let b : 2147483647 - s / 2 < i = ltb-true (2147483647 - s / 2) i (rw r at (and_right (ltb s 4294967296) _ e)) in
          stored_at s (2047 - (2147483647 - s / 2)) (omega arith) ∙ h.inputs (2147483647 - s / 2) b ∙ sym (ap (ref_value inp v) r)
    ]
  ]

  pub value_is : (s : ℕ) → Here i k s → value_at t s ≡ signal_value inp v s
  unfolding value_at signal_value
  value_is s e = ap (xor (is_inverted s)) (stored_is s e)

-- ---- stores

module _ (inp v : ℕ → Bool) where
  pub valued_none : (t : List ℕ) → values_end ≤ length t → Valued (store t values_base 0 0) 0 0 inp v
  valued_none t h = record {
    room = length_values t 0 0 h;
    none = ap is_odd (value_store t 0 0 h (omega arith));
    inputs = λ j l. absurd (not-suc-le-zero l);
    nodes = λ m l. absurd (not-suc-le-zero l);
  }

  -- the next input's value
  one_input : (t : List ℕ) (i : ℕ) → Valued t i 0 inp v → i < 1024 → Valued (store t values_base (2047 - i) (bit (inp i))) (suc i) 0 inp v
  one_input t i h l = record {
    room = length_values t (2047 - i) (bit (inp i)) h.room;
    none = ap is_odd (value_other t (2047 - i) (bit (inp i)) 0 (λ e. omega arith)) ∙ h.none;
    inputs = λ j m. elim (ℕ_discrete j i) [
      | yes e ↦ rw e (ap is_odd (value_store t (2047 - i) (bit (inp i)) h.room (omega arith)) ∙ odd_bit (inp i))
      | no d ↦ ap is_odd (value_other t (2047 - i) (bit (inp i)) (2047 - j) (λ e. d (omega arith))) ∙ h.inputs j (omega arith)
    ];
    nodes = λ m l'. absurd (not-suc-le-zero l');
  }

  -- the next node's value
  one_node : (t : List ℕ) (i k : ℕ) (b : Bool) → Valued t i k inp v → i ≤ 1024 → k < 512 → b ≡ v k → Valued (store t values_base (k + 1) (bit b)) i (suc k) inp v
  one_node t i k b h few l q = record {
    room = length_values t (k + 1) (bit b) h.room;
    none = ap is_odd (value_other t (k + 1) (bit b) 0 (λ e. omega arith)) ∙ h.none;
    inputs = λ j m. ap is_odd (value_other t (k + 1) (bit b) (2047 - j) (λ e. omega arith)) ∙ h.inputs j m;
    nodes = λ m u. elim (ℕ_discrete m k) [
      | yes e ↦ rw e (ap is_odd (value_store t (k + 1) (bit b) h.room (omega arith)) ∙ odd_bit b ∙ q)
      | no d ↦ ap is_odd (value_other t (k + 1) (bit b) (m + 1) (λ e. d (omega arith))) ∙ h.nodes m (omega arith)
    ];
  }

pub valued_inputs : (ins t : List ℕ) (v : ℕ → Bool) (i : ℕ) → i ≤ 1024 → Valued t 0 0 (truths ins) v → Valued (inputs_to ins t i) i 0 (truths ins) v
unfolding inputs_to
valued_inputs ins t v zero l h = h
valued_inputs ins t v (suc i) l h = one_input (truths ins) v (inputs_to ins t i) i (valued_inputs ins t v i (omega arith) h) (omega arith)

-- ---- the forward pass

module _ (f ins st : List ℕ) (c : Counts) where
  abbrev i : ℕ
  i = c.inputs

  abbrev n : ℕ
  n = c.nodes

  abbrev N : Net
  N = network_of f c

  abbrev inp : ℕ → Bool
  inp = truths ins

  abbrev v : ℕ → Bool
  v = evaluate N inp (truths st)

  module _ (few : i ≤ 1024) (small : n ≤ 512) (w : model.wired N ≡ true) (s : model.is_topo_sorted N ≡ true) where
    -- the values of a gate's inputs, which name nodes below k
    inputs_are : (t : List ℕ) (m k : ℕ) → k ≤ 512 → Valued t i k inp v → All (Here i k) (ins_at f m)
        → tab (input_value f t (first_at f m)) (count_at f m) ≡ map (signal_value inp v) (ins_at f m)
    unfolding ins_at input_value
    inputs_are t m k low hold named =
        tab_ext _ _ (count_at f m)
        (λ j l. value_is t i k inp v hold few low (input_at f (first_at f m + j))
        (rw (get_or_ins_at f m j l) at (all_at (Here i k) (ins_at f m) 0 named j (rw length_ins_at l))))
        ∙ sym (map_tab (signal_value inp v) (λ j. input_at f (first_at f m + j)) (count_at f m))

    ins_of : (m k : ℕ) → m < n → All (Here i k) (model.gate_at N m).ins → All (Here i k) (ins_at f m)
    unfolding gate_at
    ins_of m k h a = subst (λ (g : Gate). All (Here i k) g.ins) (gate_network f c m h) a

    gate_value_lem : (t : List ℕ) (m : ℕ) → m < n → Valued t i m inp v → dff_at f m ≡ false → gate_value_at f t m ≡ gate_value inp v (gate_at f m)
    unfolding gate_value_at gate_value gate_at network_of net_of
    gate_value_lem t m h hold d =
        ap (λ l. value_of (kind_of (kind_at f m)) l (low_at f m + 2 ^ 32 * high_at f m))
        (inputs_are t m m (omega arith) hold (ins_of m m h (sorted_ins N w s m (rw (size_network f c) h) (dff_is f c m h ∙ d))))

    shown_is : (t : List ℕ) (m : ℕ) → m < n → Valued t i m inp v → shown_at f t st m ≡ v m
    unfolding shown_at
    shown_is t m h hold =
        let g : model.gate_at N m ≡ gate_at f m = gate_network f c m h in
        let e : is_dff (model.gate_at N m) ≡ dff_at f m = dff_is f c m h in
        let q : v m ≡ shows inp v (model.gate_at N m) (truths st m) = evaluate_sorted N s inp (truths st) m (rw (size_network f c) h) in
        by_bool (dff_at f m)
        (λ d. rw d (sym (q ∙ shows_dff inp v (model.gate_at N m) (truths st m) (e ∙ d))))
        (λ d. rw d (gate_value_lem t m h hold d ∙ ap (gate_value inp v) (sym g) ∙ sym (q ∙ shows_comb inp v (model.gate_at N m) (truths st m) (e ∙ d))))

    pub valued_nodes : (t : List ℕ) → Valued t i 0 inp v → (k : ℕ) → k ≤ n → Valued (forward_to f st t k) i k inp v
    unfolding forward_to
    valued_nodes t h zero l = h
    valued_nodes t h (suc k) l =
        let r : Valued (forward_to f st t k) i k inp v = valued_nodes t h k (omega arith) in
        one_node inp v (forward_to f st t k) i k _ r few (omega arith) (shown_is (forward_to f st t k) k l r)

    -- ---- the bytes, by a table that holds every node's value

    module _ (t : List ℕ) (hold : Valued t i n inp v) where
      output_is : (j : ℕ) → j < c.outs → value_at t (output_at f j) ≡ signal_value inp v (output_at f j)
      unfolding network_of net_of
      output_is j l =
          let a : All (Here i (size N)) (outputs_of f c.outs) = wired_outs N w in
          let b : All (Here i n) (outputs_of f c.outs) = rw (size_network f c) at a in
          value_is t i n inp v hold few small (output_at f j) (rw (get_or_outputs_of f c.outs j l) at (all_at (Here i n) (outputs_of f c.outs) 0 b j (rw length_outputs_of l)))

      pub outputs_are : tab (output_byte f t) c.outs ≡ output_bytes N ins st
      unfolding output_byte output_bytes outputs cycle_values network_of net_of outputs_of
      outputs_are =
          tab_ext _ _ c.outs (λ j l. ap bit (output_is j l))
          ∙ sym (map_tab bit (λ j. signal_value inp v (output_at f j)) c.outs)
          ∙ ap (map bit) (sym (map_tab (signal_value inp v) (output_at f) c.outs))

      new_is : (m : ℕ) → m < n → count_at f m ≡ 3 → new_state f t (first_at f m) (truths st m) ≡ next_state (map (signal_value inp v) (gate_at f m).ins) (truths st m)
      unfolding new_state gate_at tab network_of net_of
      new_is m h three =
          let a : All (Here i (size N)) (model.gate_at N m).ins = wired_ins N w m (rw (size_network f c) h) in
          let b : All (Here i n) (model.gate_at N m).ins = rw (size_network f c) at a in
          ap (λ l. next_state l (truths st m)) (ap (tab (input_value f t (first_at f m))) (sym three) ∙ inputs_are t m n small hold (ins_of m n h b))

      byte_is : (m : ℕ) → m < n → (dff_at f m ≡ true → count_at f m ≡ 3) → new_byte f t st m ≡ state_byte N ins st m
      unfolding new_byte state_byte cycle_values next
      byte_is m h three =
          let g : model.gate_at N m ≡ gate_at f m = gate_network f c m h in
          let e : is_dff (model.gate_at N m) ≡ dff_at f m = dff_is f c m h in
          by_bool (dff_at f m)
          (λ d. rw (e, d) (ap bit (new_is m h (three d) ∙ ap (λ (x : Gate). next_state (map (signal_value inp v) x.ins) (truths st m)) (sym g))))
          (λ d. rw (e, d))

      pub states_are : ((m : ℕ) → m < n → dff_at f m ≡ true → count_at f m ≡ 3) → tab (new_byte f t st) n ≡ state_bytes N ins st
      unfolding state_bytes
      states_are three = tab_ext _ _ n (λ m h. byte_is m h (three m h)) ∙ rw (size_network f c)
