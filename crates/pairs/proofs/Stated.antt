-- The state of a pass, with a pair put.
use Prim.Native.Nat.{ℕ, ◌<◌, ◌≤◌}
use mathlib.Core.Path.{◌≡◌}
use mathlib.Core.List.{List}
use native.Mathlib.Omega.{arith}
use Rattle.model.specs.Sharing.{Pair, State}
use Rattle.pairs.specs.Lists.{Laid, left_at, list_at, lists_of, put_pair, start_at}
use Rattle.laws.proofs.Tabs.{tab_ext}
use Rattle.pairs.proofs.Gates.{front_ext}
use Rattle.pairs.proofs.Places.{left_at_put_pair_other, length_put_pair, sig_at_put_pair, start_at_put_pair_other}

-- ---- put_pair

module _ (l : List ℕ) (g v a b : ℕ) (h : Laid l g) (k : g ≤ v) (m : v < 512) where
  pub list_at_put_pair : (w : ℕ) → w < g → list_at (put_pair l v a b) w ≡ list_at l w
  unfolding list_at
  list_at_put_pair w n =
      rw (start_at_put_pair_other l v a b m w (omega arith) (omega arith), left_at_put_pair_other l v a b m w (omega arith))
      (front_ext _ _ (start_at l w) (left_at l w) (λ j q. sig_at_put_pair l v a b m _ (omega (arith, h.ends w n))))

  pub laid_put_pair : Laid (put_pair l v a b) g
  laid_put_pair = record {
    long = omega (arith, length_put_pair l v a b, h.long);
    few = h.few;
    ends = λ w n. omega (arith, h.ends w n, left_at_put_pair_other l v a b m w (omega arith), start_at_put_pair_other l v a b m w (omega arith) (omega arith));
    apart = λ w x n y. omega (arith, h.apart w x n y, left_at_put_pair_other l v a b m w (omega arith), start_at_put_pair_other l v a b m w (omega arith) (omega arith), start_at_put_pair_other l v a b m x (omega arith) (omega arith));
  }

  pub lists_put_pair : lists_of (put_pair l v a b) g ≡ lists_of l g
  unfolding lists_of
  lists_put_pair = tab_ext _ _ g list_at_put_pair

pub pair≡ : {x y : Pair} → x.fst ≡ y.fst → x.snd ≡ y.snd → x ≡ y
pair≡ p q = λ i. record { fst = p i; snd = q i }

pub state≡ : {x y : State} → x.lists ≡ y.lists → x.next ≡ y.next → x.built ≡ y.built → x ≡ y
state≡ p q r = λ i. record { lists = p i; next = q i; built = r i }
