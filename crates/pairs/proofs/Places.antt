-- What a store does to each reading. With specs/Lists.antt the only file that knows the places of the words.
use Prim.Native.Nat.{suc, zero, ℕ, ◌+◌, ◌<◌, ◌≤◌}
use mathlib.Core.Path.{ap, refl, sym, ◌∙◌, ◌≡◌}
use mathlib.Core.Logic.{◌≢◌}
use mathlib.Core.List.{List, [], ◌++◌, ◌∷◌}
use native.Mathlib.Omega.{arith}
use native.Mathlib.Nat.{add-zero}
use native.Mathlib.Numerals.{add-one}
use lib.ListN.{drop, get_or, length, replicate, take}
use lib.Seq.{set_comm}
use Rattle.std.proofs.lemmas.List.{length-take-le, replicate-append-replicate}
use Rattle.laws.specs.Lists.{tab}
use Rattle.pairs.specs.Lists.{area_size, left_at, left_base, put_left, put_list, put_pair, put_sig, put_start, put_used, sig_at, sig_base, start_at, start_base, use_base, used_at, zeroed}
use Rattle.tables.specs.Building.{put_node}
use Rattle.tables.specs.Layout.{store}
use Rattle.laws.proofs.Tabs.{fill_put}
use Rattle.tables.proofs.Building.{cell_put_node}
use Rattle.tables.proofs.Places.{cell_store, cell_store_other, length_store}

-- the places are in an area of n words
module _ (n k : ℕ) where
  pub used_in : (k < 4096) × (area_size ≤ n) → use_base + k < n
  used_in (h, z) = omega arith

  pub sig_in : (k < 2048) × (area_size ≤ n) → sig_base + k < n
  sig_in (h, z) = omega arith

  pub start_in : (k < 512) × (area_size ≤ n) → start_base + k < n
  start_in (h, z) = omega arith

  pub left_in : (k < 512) × (area_size ≤ n) → left_base + k < n
  left_in (h, z) = omega arith

module _ (l : List ℕ) (k s : ℕ) where
  pub length_put_sig : length (put_sig l k s) ≡ length l
  unfolding put_sig
  length_put_sig = length_store l sig_base k s

  pub sig_at_put_sig : k < 2048 → area_size ≤ length l → sig_at (put_sig l k s) k ≡ s
  unfolding sig_at put_sig
  sig_at_put_sig h z = cell_store l sig_base k s (omega arith)

  pub sig_at_put_sig_other : (w : ℕ) → w ≢ k → sig_at (put_sig l k s) w ≡ sig_at l w
  unfolding sig_at put_sig
  sig_at_put_sig_other w n = cell_store_other l sig_base k s sig_base w (omega arith)

  module _ (h : k < 2048) where
    pub start_at_put_sig : (i : ℕ) → start_at (put_sig l k s) i ≡ start_at l i
    unfolding start_at put_sig
    start_at_put_sig i = cell_store_other l sig_base k s start_base i (omega arith)

    pub left_at_put_sig : (i : ℕ) → left_at (put_sig l k s) i ≡ left_at l i
    unfolding left_at put_sig
    left_at_put_sig i = cell_store_other l sig_base k s left_base i (omega arith)

  pub used_at_put_sig : (u : ℕ) → u < 4096 → used_at (put_sig l k s) u ≡ used_at l u
  unfolding used_at put_sig
  used_at_put_sig u h = cell_store_other l sig_base k s use_base u (omega arith)

module _ (l : List ℕ) (i f : ℕ) where
  pub length_put_start : length (put_start l i f) ≡ length l
  unfolding put_start
  length_put_start = length_store l start_base i f

  module _ (h : i < 512) where
    pub start_at_put_start : area_size ≤ length l → start_at (put_start l i f) i ≡ f
    unfolding start_at put_start
    start_at_put_start z = cell_store l start_base i f (omega arith)

    pub left_at_put_start : (w : ℕ) → left_at (put_start l i f) w ≡ left_at l w
    unfolding left_at put_start
    left_at_put_start w = cell_store_other l start_base i f left_base w (omega arith)

  pub start_at_put_start_other : (w : ℕ) → w ≢ i → start_at (put_start l i f) w ≡ start_at l w
  unfolding start_at put_start
  start_at_put_start_other w n = cell_store_other l start_base i f start_base w (omega arith)

  pub sig_at_put_start : (k : ℕ) → k < 2048 → sig_at (put_start l i f) k ≡ sig_at l k
  unfolding sig_at put_start
  sig_at_put_start k h = cell_store_other l start_base i f sig_base k (omega arith)

  pub used_at_put_start : (u : ℕ) → u < 4096 → used_at (put_start l i f) u ≡ used_at l u
  unfolding used_at put_start
  used_at_put_start u h = cell_store_other l start_base i f use_base u (omega arith)

module _ (l : List ℕ) (i n : ℕ) where
  pub length_put_left : length (put_left l i n) ≡ length l
  unfolding put_left
  length_put_left = length_store l left_base i n

  pub left_at_put_left : i < 512 → area_size ≤ length l → left_at (put_left l i n) i ≡ n
  unfolding left_at put_left
  left_at_put_left h z = cell_store l left_base i n (omega arith)

  pub left_at_put_left_other : (w : ℕ) → w ≢ i → left_at (put_left l i n) w ≡ left_at l w
  unfolding left_at put_left
  left_at_put_left_other w h = cell_store_other l left_base i n left_base w (omega arith)

  pub sig_at_put_left : (k : ℕ) → k < 2048 → sig_at (put_left l i n) k ≡ sig_at l k
  unfolding sig_at put_left
  sig_at_put_left k h = cell_store_other l left_base i n sig_base k (omega arith)

  pub start_at_put_left : (w : ℕ) → w < 512 → start_at (put_left l i n) w ≡ start_at l w
  unfolding start_at put_left
  start_at_put_left w h = cell_store_other l left_base i n start_base w (omega arith)

  pub used_at_put_left : (u : ℕ) → u < 4096 → used_at (put_left l i n) u ≡ used_at l u
  unfolding used_at put_left
  used_at_put_left u h = cell_store_other l left_base i n use_base u (omega arith)

module _ (l : List ℕ) (u x : ℕ) where
  pub length_put_used : length (put_used l u x) ≡ length l
  unfolding put_used
  length_put_used = length_store l use_base u x

  module _ (h : u < 4096) where
    pub used_at_put_used : area_size ≤ length l → used_at (put_used l u x) u ≡ x
    unfolding used_at put_used
    used_at_put_used z = cell_store l use_base u x (omega arith)

    pub sig_at_put_used : (k : ℕ) → sig_at (put_used l u x) k ≡ sig_at l k
    unfolding sig_at put_used
    sig_at_put_used k = cell_store_other l use_base u x sig_base k (omega arith)

    pub start_at_put_used : (i : ℕ) → start_at (put_used l u x) i ≡ start_at l i
    unfolding start_at put_used
    start_at_put_used i = cell_store_other l use_base u x start_base i (omega arith)

    pub left_at_put_used : (i : ℕ) → left_at (put_used l u x) i ≡ left_at l i
    unfolding left_at put_used
    left_at_put_used i = cell_store_other l use_base u x left_base i (omega arith)

  pub used_at_put_used_other : (w : ℕ) → w ≢ u → used_at (put_used l u x) w ≡ used_at l w
  unfolding used_at put_used
  used_at_put_used_other w n = cell_store_other l use_base u x use_base w (omega arith)

-- ---- the table of uses, a part of the area filled with zeros

zeroed_tab : (l : List ℕ) (n : ℕ) → n ≤ length l → zeroed l n ≡ tab (λ _. 0) n ++ drop n l
unfolding zeroed put_used store tab
zeroed_tab l zero h = refl
zeroed_tab l (suc n) h =
    let e = zeroed_tab l n (omega arith) in
    let z : use_base + n ≡ n = omega arith in
    let f = rw add-one at (fill_put (λ _. 0) l n h) in
    rw (e, z) f

zeros : (n : ℕ) → tab {A = ℕ} (λ _. 0) n ≡ replicate n 0
unfolding tab
zeros zero = refl
zeros (suc n) = rw (zeros n) (replicate-append-replicate n 1 0 ∙ ap (λ k. replicate k 0) (add-one n))

pub used_cleared : (l m : List ℕ) (n k : ℕ) → (n ≤ 4096) × (area_size ≤ length l) → k ≡ n → m ≡ replicate (length (take k l)) 0 → m ++ drop k l ≡ zeroed l n
used_cleared l m n k (h, z) ek e = rw (e, ek, length-take-le n l (omega arith), ← zeros n) (sym (zeroed_tab l n (omega arith)))

-- ---- a gate put into the network in front

module _ (l : List ℕ) (v k at : ℕ) (f : ℕ → ℕ) (n lo hi : ℕ) (h : v < 512) (r : at + n ≤ 2048) where
  pub sig_at_put_node : (w : ℕ) → sig_at (put_node l v k at f n lo hi) w ≡ sig_at l w
  unfolding sig_at
  sig_at_put_node w = cell_put_node l v k at f n lo hi h r sig_base w (omega arith)

  pub start_at_put_node : (w : ℕ) → start_at (put_node l v k at f n lo hi) w ≡ start_at l w
  unfolding start_at
  start_at_put_node w = cell_put_node l v k at f n lo hi h r start_base w (omega arith)

  pub left_at_put_node : (w : ℕ) → left_at (put_node l v k at f n lo hi) w ≡ left_at l w
  unfolding left_at
  left_at_put_node w = cell_put_node l v k at f n lo hi h r left_base w (omega arith)

-- ---- put_pair

module _ (l : List ℕ) (v a b : ℕ) where
  pub length_put_pair : length (put_pair l v a b) ≡ length l
  unfolding put_pair
  length_put_pair = length_put_left _ v b ∙ length_put_start l v a

  module _ (h : v < 512) where
    pub start_at_put_pair : area_size ≤ length l → start_at (put_pair l v a b) v ≡ a
    unfolding put_pair
    start_at_put_pair z = start_at_put_left _ v b v h ∙ start_at_put_start l v a h z

    pub left_at_put_pair : area_size ≤ length l → left_at (put_pair l v a b) v ≡ b
    unfolding put_pair
    left_at_put_pair z = left_at_put_left _ v b h (rw length_put_start z)

    pub start_at_put_pair_other : (w : ℕ) → w < 512 → w ≢ v → start_at (put_pair l v a b) w ≡ start_at l w
    unfolding put_pair
    start_at_put_pair_other w m n = start_at_put_left _ v b w m ∙ start_at_put_start_other l v a w n

    pub left_at_put_pair_other : (w : ℕ) → w ≢ v → left_at (put_pair l v a b) w ≡ left_at l w
    unfolding put_pair
    left_at_put_pair_other w n = left_at_put_left_other _ v b w n ∙ left_at_put_start l v a h w

    pub sig_at_put_pair : (k : ℕ) → k < 2048 → sig_at (put_pair l v a b) k ≡ sig_at l k
    unfolding put_pair
    sig_at_put_pair k n = sig_at_put_left _ v b k n ∙ sig_at_put_start l v a k n

pub put_pair_put_sig : (l : List ℕ) (v a b k s : ℕ) → k < 2048 → put_pair (put_sig l k s) v a b ≡ put_sig (put_pair l v a b) k s
unfolding put_pair put_sig put_start put_left store
put_pair_put_sig l v a b k s h =
    ap (λ x. store x left_base v b) (set_comm l (sig_base + k) (start_base + v) s a (omega arith))
    ∙ set_comm (store l start_base v a) (sig_base + k) (left_base + v) s b (omega arith)

-- ---- put_list

pub length_put_list : (l : List ℕ) (f : ℕ) (m : List ℕ) → length (put_list l f m) ≡ length l
unfolding put_list
length_put_list l f [] = refl
length_put_list l f (x ∷ m) = length_put_list (put_sig l f x) (suc f) m ∙ length_put_sig l f x

pub put_list_append : (l : List ℕ) (f : ℕ) (m n : List ℕ) → put_list l f (m ++ n) ≡ put_list (put_list l f m) (f + length m) n
unfolding put_list
put_list_append l f [] n = rw (add-zero f)
put_list_append l f (x ∷ m) n =
    let e : suc f + length m ≡ f + suc (length m) = omega arith in
    rw (← e) (put_list_append (put_sig l f x) (suc f) m n)

pub sig_at_put_list_after : (l : List ℕ) (f : ℕ) (m : List ℕ) (k : ℕ) → f + length m ≤ k → sig_at (put_list l f m) k ≡ sig_at l k
unfolding put_list
sig_at_put_list_after l f [] k h = refl
sig_at_put_list_after l f (x ∷ m) k h = sig_at_put_list_after (put_sig l f x) (suc f) m k (omega arith) ∙ sig_at_put_sig_other l f x k (omega arith)

pub sig_at_put_list_before : (l : List ℕ) (f : ℕ) (m : List ℕ) (k : ℕ) → k < f → sig_at (put_list l f m) k ≡ sig_at l k
unfolding put_list
sig_at_put_list_before l f [] k h = refl
sig_at_put_list_before l f (x ∷ m) k h = sig_at_put_list_before (put_sig l f x) (suc f) m k (omega arith) ∙ sig_at_put_sig_other l f x k (omega arith)

pub sig_at_put_list : (l : List ℕ) (f : ℕ) (m : List ℕ) (j : ℕ) → area_size ≤ length l → f + length m ≤ 2048 → j < length m → sig_at (put_list l f m) (f + j) ≡ get_or m j 0
unfolding put_list
sig_at_put_list l f [] j z r h = absurd (omega arith)
sig_at_put_list l f (x ∷ m) zero z r h =
    rw (add-zero f) (sig_at_put_list_before (put_sig l f x) (suc f) m f (omega arith) ∙ sig_at_put_sig l f x (omega arith) z)
sig_at_put_list l f (x ∷ m) (suc j) z r h =
    let e : f + suc j ≡ suc f + j = omega arith in
    rw e (sig_at_put_list (put_sig l f x) (suc f) m j (rw length_put_sig z) (omega arith) (omega arith))

pub start_at_put_list : (l : List ℕ) (f : ℕ) (m : List ℕ) (i : ℕ) → f + length m ≤ 2048 → start_at (put_list l f m) i ≡ start_at l i
unfolding put_list
start_at_put_list l f [] i h = refl
start_at_put_list l f (x ∷ m) i h = start_at_put_list (put_sig l f x) (suc f) m i (omega arith) ∙ start_at_put_sig l f x (omega arith) i

pub left_at_put_list : (l : List ℕ) (f : ℕ) (m : List ℕ) (i : ℕ) → f + length m ≤ 2048 → left_at (put_list l f m) i ≡ left_at l i
unfolding put_list
left_at_put_list l f [] i h = refl
left_at_put_list l f (x ∷ m) i h = left_at_put_list (put_sig l f x) (suc f) m i (omega arith) ∙ left_at_put_sig l f x (omega arith) i

pub used_at_put_list : (l : List ℕ) (f : ℕ) (m : List ℕ) (u : ℕ) → u < 4096 → used_at (put_list l f m) u ≡ used_at l u
unfolding put_list
used_at_put_list l f [] u h = refl
used_at_put_list l f (x ∷ m) u h = used_at_put_list (put_sig l f x) (suc f) m u h ∙ used_at_put_sig l f x u h

-- ---- put_pair

pub pair_start : (l m : List ℕ) (v a : ℕ) → m ≡ put_start l v a → (v < 512) × (area_size ≤ length l) → (v < 512) × (area_size ≤ length m)
pair_start l m v a e (h, z) = (h, rw (e, length_put_start) z)

pub pair_put : (l m o : List ℕ) (v a b : ℕ) → m ≡ put_start l v a → o ≡ put_left m v b → o ≡ put_pair l v a b
unfolding put_pair
pair_put l m o v a b em eo = rw (← em) eo
