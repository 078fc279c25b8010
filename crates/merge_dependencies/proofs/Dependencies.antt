-- Laws of merging the inputs of a gate: over gates that agree, and input after input.
use Prim.Native.Nat.{suc, ℕ, ◌+◌, ◌-◌, ◌<◌, ◌≤◌}
use mathlib.Core.Path.{ap, refl, sym, ◌∙◌, ◌≡◌}
use mathlib.Core.Bool.{cond, not, ◌&&◌}
use mathlib.Core.List.{List, [], ◌++◌, ◌∷◌}
use native.Mathlib.Omega.{arith}
use native.Mathlib.Numerals.{add-one}
use mir.Syntax.{w64}
use mir.Val.{Fits}
use lib.ListN.{drop, get_or, length, length-append, length-drop, drop_of_length-le}
use lib.Seq.{drop-cons}
use lib.Dec.{leb}
use Rattle.std.specs.Prelude.{Option, Some, None}
use Rattle.merge_dependencies.specs.Pushing.{Becoming, Merges, Pushes, put_words}
use Rattle.kinds.specs.declared.Family.{Family}
use Rattle.model.specs.Gate.{Gate}
use Rattle.model.specs.Sharing.{inside, merge_dependencies, opened}
use Rattle.model.specs.Signal.{Ref, is_inverted, ref, rinput, rnode, rzero}
use Rattle.model.proofs.Names.{In, Names}
use Rattle.tables.specs.Building.{Packed}
use Rattle.tables.specs.Layout.{count_at, first_at, gate_at, input_at, ins_at}
use Rattle.laws.proofs.Lists.{all_at}
use Rattle.shape.proofs.Flatten.{merge_grows}
use Rattle.shape.proofs.Wires.{names_below}
use Rattle.tables.proofs.Holding.{get_or_ins_at, length_ins_at}
use Rattle.merge_dependencies.proofs.Words.{behind_fits, behind_is, behind_le, behind_none, behind_over, gate_at_put_words, packed_put_words, put_words_append}

-- ---- gates that agree where they are named

pub opened_same : (f : Family) (G H : ℕ → Gate) (limit used s : ℕ) → Names (λ w. G w ≡ H w) s → opened f G limit used s (ref s) ≡ opened f H limit used s (ref s)
opened_same f G H limit used s h = go (ref s) refl
  where
    go : (r : Ref) → ref s ≡ r → opened f G limit used s r ≡ opened f H limit used s r
    go rzero e = refl
    go (rnode w) e = ap (λ (g : Gate). cond (not (is_inverted s) && (inside f g && leb (used + length g.ins) limit)) g.ins (s ∷ [])) (h w e)
    go (rinput k) e = refl

pub merge_same : (f : Family) (G H : ℕ → Gate) (limit : ℕ) (l ret : List ℕ) → In (λ w. G w ≡ H w) l → merge_dependencies f G limit l ret ≡ merge_dependencies f H limit l ret
unfolding merge_dependencies
merge_same f G H limit [] ret h = refl
merge_same f G H limit (s ∷ l) ret h =
    rw (opened_same f G H limit (length ret + length l) s h.0) (merge_same f G H limit l _ h.1)

-- ---- merge_dependencies: j inputs of node v of from are merged, to the words ret

pub record Gathered (f : Family) (from l₀ l : List ℕ) (v limit start at j : ℕ) : Type 0 where
  pub ret : List ℕ
  pub upto : j ≤ count_at from v
  pub same : length l ≡ length l₀
  pub place : at ≡ start + length ret
  pub room : at ≤ 2048
  pub words : l ≡ put_words l₀ start ret
  pub rest : merge_dependencies f (gate_at l₀) limit (ins_at from v) [] ≡ merge_dependencies f (gate_at l₀) limit (drop j (ins_at from v)) ret

module _ (f : Family) (from l₀ : List ℕ) (v limit start : ℕ) (M : Merges from l₀ v start) where
  pub gather_start : Gathered f from l₀ l₀ v limit start start 0
  unfolding put_words
  gather_start = record { ret = []; upto = omega arith; same = refl; place = omega arith; room = M.packed.room; words = refl; rest = refl }

  module _ (l : List ℕ) (at j : ℕ) (inv : Gathered f from l₀ l v limit start at j) (n : ℕ) (en : n ≡ count_at from v) where
    pub gather_from : start ≤ at
    gather_from = omega (arith, inv.place)

    -- what stands in l below v is what stood there
    kept : (w : ℕ) → w < v → gate_at l w ≡ gate_at l₀ w
    kept w h =
        let few = M.packed.few in
        ap (λ x. gate_at x w) inv.words ∙ gate_at_put_words l₀ start inv.ret w (omega arith) (omega (arith, inv.place, inv.room)) (M.packed.ends w h)

    gather_packed : Packed l v at
    gather_packed = rw (inv.words, inv.place) (packed_put_words l₀ start inv.ret v M.packed (omega (arith, inv.place, inv.room)))

    module _ (h : j < n) where
      pub gather_left : Fits w64 (at - start + (n - j - 1))
      gather_left = record { fits = omega (arith, inv.room, M.ends) }

      module _ (first : ℕ) (ef : first ≡ first_at from v) where
        pub gather_read : first + j < 2048
        gather_read = omega (arith, M.ends)

        pub gather_read_fits : Fits w64 (first + j)
        gather_read_fits = record { fits = omega (arith, M.ends) }

        module _ (s : ℕ) (es : s ≡ input_at from (first + j)) where
          signal_is : get_or (ins_at from v) j 0 ≡ s
          signal_is = get_or_ins_at from v j (omega arith) ∙ ap (λ x. input_at from (x + j)) (sym ef) ∙ sym es

          below : Names (λ w. w < v) s
          below = let a = length_ins_at from v in rw signal_is at (all_at (Names (λ w. w < v)) (ins_at from v) 0 M.below j (omega arith))

          pub gather_becoming : (used : ℕ) → used ≤ 4096 → Becoming l v s used at
          gather_becoming used few = record {
            packed = gather_packed;
            opening = record {
              long = gather_packed.long;
              few = M.packed.few;
              ends = λ w q. omega (arith, gather_packed.ends w q, inv.room);
              below = names_below v s below;
              small = few;
            };
          }

          -- the words that s becomes
          abbrev became : List ℕ
          became = opened f (gate_at l₀) limit (length inv.ret + length (drop (suc j) (ins_at from v))) s (ref s)

          module _ (m : List ℕ) (r : Option ℕ) (P : Pushes l m at (opened f (gate_at l) limit (at - start + (n - j - 1)) s (ref s)) r) where
            became_is : opened f (gate_at l) limit (at - start + (n - j - 1)) s (ref s) ≡ became
            became_is =
                let a = length_ins_at from v in
                let b = length-drop (suc j) (ins_at from v) in
                let e : at - start + (n - j - 1) ≡ length inv.ret + length (drop (suc j) (ins_at from v)) = omega (arith, inv.place) in
                opened_same f (gate_at l) (gate_at l₀) limit _ s (λ w q. kept w (below w q)) ∙ ap (λ u. opened f (gate_at l₀) limit u s (ref s)) e

            pushed : Pushes l m at became r
            pushed = rw became_is at P

            rest_is : merge_dependencies f (gate_at l₀) limit (ins_at from v) [] ≡ merge_dependencies f (gate_at l₀) limit (drop (suc j) (ins_at from v)) (inv.ret ++ became)
            unfolding merge_dependencies
            rest_is =
                let a = length_ins_at from v in
                inv.rest
                ∙ ap (λ x. merge_dependencies f (gate_at l₀) limit x inv.ret) (drop-cons (ins_at from v) j 0 (omega arith) ∙ ap (λ x. x ∷ drop (suc j) (ins_at from v)) signal_is)

            pub gather_next : (k : ℕ) → r ≡ Some k → length m ≡ length l → Gathered f from l₀ m v limit start k (j + 1)
            gather_next k e len =
                let q : Some k ≡ _ = sym e ∙ pushed.answer in
                let le = behind_le at (length became) k q in
                let a = length-append inv.ret became in
                record {
                  ret = inv.ret ++ became;
                  upto = omega arith;
                  same = len ∙ inv.same;
                  place = omega (arith, behind_is at (length became) k q, inv.place);
                  room = omega (arith, behind_is at (length became) k q);
                  words = pushed.words le ∙ rw (inv.words, inv.place) (sym (put_words_append inv.ret became l₀ start));
                  rest = rw (add-one j) rest_is;
                }

            pub gather_full : r ≡ None → Pushes l₀ m start (merge_dependencies f (gate_at l₀) limit (ins_at from v) []) None
            gather_full e =
                let ws = merge_dependencies f (gate_at l₀) limit (ins_at from v) [] in
                let over = behind_over at (length became) (sym e ∙ pushed.answer) in
                let a = length-append inv.ret became in
                let b = merge_grows f (gate_at l₀) limit (drop (suc j) (ins_at from v)) (inv.ret ++ became) in
                let c = ap length rest_is in
                let q : 2048 < start + length ws = omega (arith, inv.place) in
                record { answer = sym (behind_none start (length ws) q); words = λ p. absurd (omega arith) }

    pub gather_end : n ≤ j → Pushes l₀ l start (merge_dependencies f (gate_at l₀) limit (ins_at from v) []) (Some at)
    unfolding merge_dependencies
    gather_end h =
        let a = length_ins_at from v in
        let q : length (ins_at from v) ≤ j = omega arith in
        let e : merge_dependencies f (gate_at l₀) limit (ins_at from v) [] ≡ inv.ret =
        inv.rest ∙ ap (λ x. merge_dependencies f (gate_at l₀) limit x inv.ret) (drop_of_length-le (ins_at from v) q) in
        rw e
        (record {
          answer = rw inv.place (sym (behind_fits start (length inv.ret) (omega (arith, inv.place, inv.room))));
          words = λ p. inv.words;
        })

pub ruleset gathers = (gather_start, gather_from, gather_left, gather_read, gather_read_fits, gather_end)
