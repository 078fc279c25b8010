-- The state of a pass, through a replacement.
use Prim.Native.Nat.{ℕ, ◌+◌, ◌<◌, ◌≤◌}
use mathlib.Core.Path.{ap, ◌∙◌, ◌≡◌}
use mathlib.Core.List.{List, map}
use native.Mathlib.Omega.{arith}
use native.Mathlib.Numerals.{add-one}
use Rattle.laws.specs.Lists.{tab}
use Rattle.model.specs.Sharing.{replace_in, replace_pair}
use Rattle.model.specs.Signal.{from_var}
use Rattle.pairs.specs.Lists.{Laid, pair_at, put_pair, start_at}
use Rattle.pairs.specs.States.{Ready, Replaced, state_of}
use Rattle.replacing.specs.Swapped.{replaced_all}
use Rattle.laws.proofs.Tabs.{tab_ext}
use Rattle.replacing.proofs.Swaps.{laid_replaced_all, left_kept, lists_replaced_all, start_kept}
use Rattle.pairs.proofs.Stated.{laid_put_pair, lists_put_pair, pair≡, state≡}
use Rattle.pairs.proofs.Places.{left_at_put_pair, left_at_put_pair_other, start_at_put_pair, start_at_put_pair_other}

module _ (l : List ℕ) (g n k a b : ℕ) (h : Ready l g n k (k + 1)) where
  small : n + k < 512
  small = omega (arith, h.nodes)

  above : g ≤ n + k
  above = omega (arith, h.old)

  repl_laid : Laid (put_pair l (n + k) a b) g
  repl_laid = laid_put_pair l g (n + k) a b h.laid above small

  module _ (z : ℕ) where
    pairs_kept : (v : ℕ) → n ≤ v → v < n + k → pair_at (replaced_all (put_pair l (n + k) a b) g a b z) v ≡ pair_at l v
    unfolding pair_at
    pairs_kept v p q =
        pair≡
        (start_kept _ g a b z repl_laid g (omega arith) v (omega (arith, small)) ∙ start_at_put_pair_other l (n + k) a b small v (omega (arith, small)) (omega arith))
        (left_kept _ g a b z repl_laid g (omega arith) v (omega (arith, h.old)) ∙ left_at_put_pair_other l (n + k) a b small v (omega arith))

    pair_new : pair_at (replaced_all (put_pair l (n + k) a b) g a b z) (n + k) ≡ record { fst = a; snd = b }
    unfolding pair_at
    pair_new =
        pair≡
        (start_kept _ g a b z repl_laid g (omega arith) (n + k) small ∙ start_at_put_pair l (n + k) a b small h.laid.long)
        (left_kept _ g a b z repl_laid g (omega arith) (n + k) above ∙ left_at_put_pair l (n + k) a b small h.laid.long)

    starts_kept : (i : ℕ) → i < g → start_at (replaced_all (put_pair l (n + k) a b) g a b z) i ≡ start_at l i
    starts_kept i p =
        start_kept _ g a b z repl_laid g (omega arith) i (omega (arith, h.laid.few))
        ∙ start_at_put_pair_other l (n + k) a b small i (omega (arith, h.laid.few)) (omega (arith, above))

  -- the code: m after put_pair, o after swap_all
  module _ (m : List ℕ) (em : m ≡ put_pair l (n + k) a b) where
    pub swap_ready : Laid m g
    swap_ready = rw em repl_laid

    pub swap_done : (o : List ℕ) (z : ℕ) → z ≡ from_var (n + k) → o ≡ replaced_all m g a b z → Replaced l o g n k a b
    unfolding state_of replace_pair tab
    swap_done o z ez eo =
        let e : o ≡ replaced_all (put_pair l (n + k) a b) g a b z = rw (← em) eo in
        record {
          placed = rw e (record { laid = laid_replaced_all _ g a b z repl_laid g (omega arith); starts = starts_kept z });
          state =
              rw (e, add-one k, ← ez)
              (state≡
              (lists_replaced_all _ g a b z repl_laid ∙ ap (map (replace_in a b z)) (lists_put_pair l g (n + k) a b h.laid above small))
              (omega arith)
              (let p = tab_ext (λ j. pair_at (replaced_all (put_pair l (n + k) a b) g a b z) (n + j)) (λ j. pair_at l (n + j)) k (λ j q. pairs_kept z (n + j) (omega arith) (omega arith)) in
              let q = pair_new z in
              cc));
        }

pub ruleset swapped = (swap_ready, swap_done)
