-- Laws of one gate put behind those that stand there: as it is, or merged.
use Prim.Native.Nat.{ℕ, ◌+◌, ◌-◌, ◌<◌, ◌≤◌}
use mathlib.Core.Path.{ap, refl, sym, ◌∙◌, ◌≡◌}
use mathlib.Core.Bool.{Bool, false, true}
use mathlib.Core.List.{List, [], ◌++◌, ◌∷◌}
use native.Mathlib.Omega.{arith}
use mir.Syntax.{w32}
use mir.Val.{Fits}
use lib.ListN.{get_or, length}
use Rattle.std.specs.Prelude.{Option, Some, None}
use Rattle.copying.specs.Copies.{put_copy}
use Rattle.merge_dependencies.specs.Pushing.{Merges, Pushes, put_words}
use Rattle.flatten_gate.specs.Gates.{Flattens, Grew, Puts}
use Rattle.kinds.specs.Kinds.{code_of, in_family, kind_of, wide_of}
use Rattle.kinds.specs.declared.Family.{Family}
use Rattle.kinds.specs.declared.Family.TheVariants.{And, Xor}
use Rattle.kinds.specs.declared.Kind.{Kind}
use Rattle.laws.specs.Lists.{tab}
use Rattle.model.specs.Gate.{Gate}
use Rattle.model.specs.Normal.{gate_of}
use Rattle.model.specs.Sharing.{flat_by, flat_gate, inside, merge_dependencies}
use Rattle.tables.specs.Building.{Packed, put_node}
use Rattle.tables.specs.Layout.{count_at, gate_at, ins_at, kind_at, net_size, nodes_of, put_gate, put_table}
use Rattle.copying.proofs.Copied.{nodes_of_put_copy, packed_put_copy}
use Rattle.tables.proofs.Building.{nodes_of_put_node, packed_put_node}
use Rattle.shape.proofs.Written.{gate_eq}
use Rattle.tables.proofs.Holding.{length_ins}
use Rattle.merge_dependencies.proofs.Openings.{ins_gate, kind_gate}
use Rattle.merge_dependencies.proofs.Words.{behind_fits, behind_is, behind_le, behind_none, behind_over, put_words_inputs, tab_words}

-- ---- the gate that is put

module _ (l m : List ℕ) (v at : ℕ) (g : Gate) where
  pub grew_full : 2048 < at + length g.ins → Grew l m v at g None
  grew_full h = record { answer = sym (behind_none at (length g.ins) h); packed = λ q. absurd (omega arith); nodes = λ q. absurd (omega arith) }

  module _ (P : Packed l v at) (h : v < 512) (r : at + length g.ins ≤ 2048) (et : 0 ≡ g.table) where
    pub grew_to : m ≡ put_table (put_gate (put_words l at g.ins) v g.kind at (length g.ins)) v 0 0 → Grew l m v at g (Some (at + length g.ins))
    unfolding put_node
    grew_to e =
        let ws = g.ins in
        let f : ℕ → ℕ = λ j. get_or g.ins j 0 in
        let n = length g.ins in
        let p : m ≡ put_node l v g.kind at f n 0 0 = e ∙ ap (λ x. put_table (put_gate x v g.kind at n) v 0 0) (put_words_inputs l at ws) in
        let q : ◌≡◌ {A = Gate} (record { kind = g.kind; ins = tab (λ j. get_or g.ins j 0) (length g.ins); table = 0 }) g = gate_eq refl (tab_words ws) et in
        record {
          answer = sym (behind_fits at n r);
          packed = λ _. rw p (packed_put_node l v at P g.kind f n 0 0 h r);
          nodes = λ _. rw p (nodes_of_put_node l v at P g.kind f n 0 0 h r ∙ ap (λ x. nodes_of l v ++ (x ∷ [])) q);
        }

-- ---- push_gate

module _ (from l : List ℕ) (v at : ℕ) (P : Puts from l v at) where
  module _ (n : ℕ) (en : n ≡ count_at from v) where
    pub push_gate_full : 2048 - at < n → Grew l l v at (gate_at from v) None
    push_gate_full h = grew_full l l v at (gate_at from v) (omega (arith, length_ins from v, P.packed.room))

    pub push_gate_done : n ≤ 2048 - at → (m : List ℕ) → m ≡ put_copy from l v at → Grew l m v at (gate_at from v) (Some (at + n))
    push_gate_done h m em =
        let room : at + count_at from v ≤ 2048 = omega (arith, P.packed.room) in
        record {
          answer = rw (length_ins from v, en) (sym (behind_fits at (count_at from v) room));
          packed = λ _. rw (length_ins from v, em) (packed_put_copy from l v at P.packed P.node room);
          nodes = λ _. rw em (nodes_of_put_copy from l v at P.packed P.node room);
        }

-- ---- merge_gate

module _ (f : Family) (from l : List ℕ) (v limit at : ℕ) (M : Merges from l v at) where
  -- the words that its inputs become
  abbrev gathered : List ℕ
  gathered = merge_dependencies f (gate_at l) limit (ins_at from v) []

  merged_ins : flat_by f (gate_at l) limit (gate_at from v) ≡ gate_of (wide_of f) gathered
  merged_ins = ap (λ x. gate_of (wide_of f) (merge_dependencies f (gate_at l) limit x [])) (ins_gate from v)

  module _ (m : List ℕ) (r : Option ℕ) (P : Pushes l m at (merge_dependencies f (gate_at l) limit (ins_at from v) []) r) where
    pub merge_full : r ≡ None → Grew l m v at (flat_by f (gate_at l) limit (gate_at from v)) None
    merge_full e = rw merged_ins (grew_full l m v at (gate_of (wide_of f) gathered) (behind_over at (length gathered) (sym e ∙ P.answer)))

    module _ (end : ℕ) (e : r ≡ Some end) where
      fits : at + length gathered ≤ 2048
      fits = behind_le at (length gathered) end (sym e ∙ P.answer)

      end_is : end ≡ at + length gathered
      end_is = behind_is at (length gathered) end (sym e ∙ P.answer)

      pub merge_from : at ≤ end
      merge_from = omega (arith, end_is)

      pub merge_count : Fits w32 (end - at)
      merge_count = record { fits = omega (arith, fits, end_is) }

      pub merge_long : length m ≡ length l → net_size ≤ length m
      merge_long len = omega (arith, M.packed.long)

      pub merge_done : (K : Kind) (k : ℕ) (o q : List ℕ) → K ≡ wide_of f → k ≡ code_of K → o ≡ put_gate m v k at (end - at) → q ≡ put_table o v 0 0
          → Grew l q v at (flat_by f (gate_at l) limit (gate_at from v)) (Some end)
      merge_done K k o q eK ek eo eq =
          let c : end - at ≡ length gathered = omega (arith, end_is) in
          rw (merged_ins, end_is)
          (grew_to l q v at (gate_of (wide_of f) gathered) M.packed M.node fits refl (eq ∙ rw (eo, P.words fits, ek, eK, c)))

pub ruleset mergers = (merge_full, merge_from, merge_count, merge_long)

-- ---- flatten_gate

module _ (from l : List ℕ) (v at : ℕ) (F : Flattens from l v at) where
  module _ (k : ℕ) (K : Kind) (ek : k ≡ kind_at from v) (eK : K ≡ kind_of k) where
    inside_is : (f : Family) (b t : Bool) → b ≡ in_family K f → b ≡ t → inside f (gate_at from v) ≡ t
    inside_is f b t eb h = rw (kind_gate from v, ← ek, ← eK, ← eb) h

    pub flat_merges : (f : Family) (b : Bool) → b ≡ in_family K f → b ≡ true → Merges from l v at
    flat_merges f b eb h = record {
      source = F.puts.source;
      node = F.puts.node;
      ends = F.puts.ends;
      packed = F.puts.packed;
      below = F.below f (inside_is f b true eb h);
    }

    module _ (limit : ℕ) (m : List ℕ) (r : Option ℕ) (a : Bool) (ea : a ≡ in_family K And) where
      pub flat_and : a ≡ true → Grew l m v at (flat_by And (gate_at l) limit (gate_at from v)) r → Grew l m v at (flat_gate (gate_at l) limit (gate_at from v)) r
      unfolding flat_gate
      flat_and h G = rw (inside_is And a true ea h) G

      module _ (h : a ≡ false) (x : Bool) (ex : x ≡ in_family K Xor) where
        pub flat_xor : x ≡ true → Grew l m v at (flat_by Xor (gate_at l) limit (gate_at from v)) r → Grew l m v at (flat_gate (gate_at l) limit (gate_at from v)) r
        unfolding flat_gate
        flat_xor q G = rw (inside_is And a false ea h, inside_is Xor x true ex q) G

        pub flat_other : x ≡ false → Grew l m v at (gate_at from v) r → Grew l m v at (flat_gate (gate_at l) limit (gate_at from v)) r
        unfolding flat_gate
        flat_other q G = rw (inside_is And a false ea h, inside_is Xor x false ex q) G

pub ruleset flattens = (flat_merges, flat_and, flat_xor)
