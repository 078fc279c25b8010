-- Rounds over a gate until one signal is left, and gate after gate.
use Prim.Native.Nat.{suc, zero, ℕ, ◌+◌, ◌-◌, ◌/◌, ◌<◌, ◌≤◌}
use mathlib.Core.Path.{refl, sym, ◌∙◌, ◌≡◌}
use mathlib.Core.List.{List, [], ◌∷◌}
use native.Mathlib.Omega.{arith}
use native.Mathlib.Nat.{le_refl}
use native.Mathlib.Decide.{dec_lt}
use lib.ListN.{get_or, length, length-append}
use lib.Seq.{get_or-set_same}
use Rattle.factoring.specs.Turned.{Joined, Went}
use Rattle.model.specs.Sharing.{State, join_gate, join_gates, join_round, round_left, round_pairs, rounds}
use Rattle.pairs.specs.Lists.{area_size, left_at, list_at, lists_of}
use Rattle.pairs.specs.States.{Placed, Ready, state_of}
use Rattle.factoring.proofs.Turns.{Walked, all_end, all_full, all_grows, all_next, all_start, length_built, placed_here, placed_on, went_full, went_here}
use Rattle.laws.proofs.Tabs.{length_tab}
use Rattle.pairs.proofs.Gates.{get_or_lists, length_list}
use Rattle.shape.proofs.FactoringEnds.{left_lt, lists_round, rounds_go, rounds_stop, rounds_zero}
use Rattle.std.specs.Prelude.{Option, Some, None}

gate_round : (s : State) (i : ℕ) → i < length s.lists → 1 < length (get_or s.lists i []) → length (get_or (join_round s i).lists i []) < length (get_or s.lists i [])
unfolding join_round
gate_round s i h k = rw (get_or-set_same s.lists i (round_left s.next (get_or s.lists i [])) [] h) (left_lt s.next (get_or s.lists i []) k)

enough : (f e : ℕ) (s : State) (i : ℕ) → i < length s.lists → length (get_or s.lists i []) ≤ f → f ≤ e → rounds e s i ≡ rounds f s i
enough zero e s i h k d = rounds_stop e s i (omega arith) ∙ sym (rounds_stop 0 s i (omega arith))
enough (suc f) zero s i h k d = absurd (omega arith)
enough (suc f) (suc e) s i h k d = elim (dec_lt 1 (length (get_or s.lists i []))) [
  | yes q ↦ (rounds_go e s i q ∙ enough f e (join_round s i) i (rw lists_round h) (omega (arith, gate_round s i h q)) (omega arith) ∙ sym (rounds_go f s i q))
  | no q ↦ (rounds_stop (suc e) s i (omega arith) ∙ sym (rounds_stop (suc f) s i (omega arith)))
]

pub gate_end : (s : State) (i : ℕ) → length (get_or s.lists i []) ≤ 1 → join_gate s i ≡ s
unfolding join_gate
gate_end s i h = rounds_stop _ s i h

pub gate_go : (s : State) (i : ℕ) → i < length s.lists → 1 < length (get_or s.lists i []) → join_gate s i ≡ join_gate (join_round s i) i
unfolding join_gate join_round
gate_go s i h q = go (length (get_or s.lists i [])) refl
  where
    go : (t : ℕ) → length (get_or s.lists i []) ≡ t → rounds (length (get_or s.lists i [])) s i ≡ rounds (length (get_or (join_round s i).lists i [])) (join_round s i) i
    go zero e = absurd (omega arith)
    go (suc t) e = rw e (rounds_go t s i q ∙ enough (length (get_or (join_round s i).lists i [])) t (join_round s i) i (rw lists_round h) (le_refl _) (omega (arith, gate_round s i h q)))

-- ---- the built pairs only grow

built_round : (s : State) (i : ℕ) → length (join_round s i).built ≡ length s.built + length (round_pairs (get_or s.lists i []))
unfolding join_round
built_round s i = length-append s.built _

built_rounds : (f : ℕ) (s : State) (i : ℕ) → length s.built ≤ length (rounds f s i).built
built_rounds zero s i = rw (rounds_zero s i) (le_refl _)
built_rounds (suc f) s i = elim (dec_lt 1 (length (get_or s.lists i []))) [
  | yes q ↦ rw (rounds_go f s i q) (omega (arith, built_rounds f (join_round s i) i, built_round s i))
  | no q ↦ rw (rounds_stop (suc f) s i (omega arith)) (le_refl _)
]

pub built_gate : (s : State) (i : ℕ) → length s.built ≤ length (join_gate s i).built
unfolding join_gate
built_gate s i = built_rounds _ s i

-- ---- join_gate

gate_state : (l : List ℕ) (g n k i : ℕ) → i < g → get_or (state_of l g n k).lists i [] ≡ list_at l i
unfolding state_of
gate_state l g n k i h = get_or_lists l g i h

lists_state : (l : List ℕ) (g n k : ℕ) → length (state_of l g n k).lists ≡ g
unfolding state_of lists_of
lists_state l g n k = length_tab (list_at l) g

half : (l : List ℕ) → length (round_pairs l) ≡ length l / 2
unfolding round_pairs
half [] = refl
half (x ∷ []) = refl
half (x ∷ y ∷ l) = omega (arith, half l)

-- what holds before a round
pub record Rounded (l₀ l : List ℕ) (g n k room i t : ℕ) : Type 0 where
  pub below : i < g
  pub same : length l ≡ length l₀
  pub ready : Ready l g n t room
  pub placed : Placed l₀ l g
  pub rest : join_gate (state_of l g n t) i ≡ join_gate (state_of l₀ g n k) i

pub round_start : (l : List ℕ) (g n k room i : ℕ) → Ready l g n k room → i < g → Rounded l l g n k room i k
round_start l g n k room i h v = record { below = v; same = refl; ready = h; placed = placed_here l g h.laid; rest = refl }

pub round_gate : (l₀ l : List ℕ) (g n k room i t : ℕ) → Rounded l₀ l g n k room i t → (i < 512) × (area_size ≤ length l)
round_gate l₀ l g n k room i t inv = (omega (arith, inv.below, inv.ready.laid.few), inv.ready.laid.long)

module _ (l₀ l : List ℕ) (g n k room i t : ℕ) (inv : Rounded l₀ l g n k room i t) (x : ℕ) (ex : x ≡ left_at l i) where
  len : length (get_or (state_of l g n t).lists i []) ≡ left_at l i
  len = rw (gate_state l g n t i inv.below) (length_list l i)

  pub round_end : x ≤ 1 → Went l₀ l g n room (Some t) (join_gate (state_of l₀ g n k) i)
  round_end q = went_here l₀ l g n t room _ inv.placed inv.ready.more (sym (gate_end (state_of l g n t) i (omega (arith, len))) ∙ inv.rest)

  module _ (more : 1 < x) where
    round_rest : join_gate (join_round (state_of l g n t) i) i ≡ join_gate (state_of l₀ g n k) i
    round_rest = sym (gate_go (state_of l g n t) i (rw lists_state inv.below) (omega (arith, len))) ∙ inv.rest

    pub round_full : room - t < x / 2 → Went l₀ l g n room None (join_gate (state_of l₀ g n k) i)
    round_full q =
        let a = built_gate (join_round (state_of l g n t) i) i in
        let b = built_round (state_of l g n t) i in
        let c = half (get_or (state_of l g n t).lists i []) in
        went_full l₀ l g n room _ (rw (← round_rest) (omega (arith, len, length_built l g n t)))

    module _ (fits : x / 2 ≤ room - t) where
      pub round_ready : Ready l g n t (t + left_at l i / 2)
      round_ready =
          rw (← ex)
          (record { laid = inv.ready.laid; old = inv.ready.old; nodes = omega (arith, inv.ready.nodes, inv.ready.more); more = omega arith })

      module _ (o : List ℕ) (r : ℕ) (j : Joined l o g n t i r) where
        pub round_next : length o ≡ length l → Rounded l₀ o g n k room i r
        round_next z = record {
          below = inv.below;
          same = z ∙ inv.same;
          ready = record { laid = j.placed.laid; old = inv.ready.old; nodes = inv.ready.nodes; more = rw (j.count, ← ex) (omega (arith, inv.ready.more)) };
          placed = placed_on l₀ l o g inv.placed j.placed;
          rest = rw (j.count, j.state) round_rest;
        }

        pub round_less : room - r < room - t
        round_less = omega (arith, inv.ready.more, j.count)

-- ---- join_gates

pub gates_zero : (s : State) → join_gates s 0 ≡ s
unfolding join_gates
gates_zero s = refl

pub gates_suc : (s : State) (i : ℕ) → join_gates s (suc i) ≡ join_gate (join_gates s i) i
unfolding join_gates
gates_suc s i = refl

pub built_gates : (s : State) (g : ℕ) → length s.built ≤ length (join_gates s g).built
built_gates = all_grows join_gate join_gates gates_zero gates_suc built_gate

pub gates_start : (l : List ℕ) (g n k room : ℕ) → Ready l g n k room → Walked join_gates l l g n k room k 0
gates_start = all_start join_gate join_gates gates_zero gates_suc built_gate

module _ (l₀ l : List ℕ) (g n k room m i : ℕ) (inv : Walked join_gates l₀ l g n k room m i) where
  module _ (o : List ℕ) (r : Option ℕ) (w : Went l o g n room r (join_gate (state_of l g n m) i)) (v : i < g) where
    pub gates_next : (t : ℕ) → r ≡ Some t → length o ≡ length l → Walked join_gates l₀ o g n k room t (i + 1)
    gates_next = all_next join_gate join_gates gates_zero gates_suc built_gate l₀ l g n k room m i inv o r w v

    pub gates_full : r ≡ None → Went l₀ o g n room None (join_gates (state_of l₀ g n k) g)
    gates_full = all_full join_gate join_gates gates_zero gates_suc built_gate l₀ l g n k room m i inv o r w v

  pub gates_end : g ≤ i → Went l₀ l g n room (Some m) (join_gates (state_of l₀ g n k) g)
  gates_end = all_end join_gate join_gates gates_zero gates_suc built_gate l₀ l g n k room m i inv
