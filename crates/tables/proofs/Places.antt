-- What a store does to each reading. With specs/Layout.antt the only file that knows the places of the words.
use Prim.Native.Nat.{ℕ, zero, suc, ◌+◌, ◌*◌, ◌^◌, ◌≤◌, ◌<◌}
use mathlib.Core.Path.{◌≡◌, ap, sym, ◌∙◌}
use mathlib.Core.List.{List, ◌++◌, append-nil}
use mathlib.Core.Logic.{◌≢◌}
use native.Mathlib.Numerals.{add-one}
use native.Mathlib.Omega.{arith}
use lib.ListN.{length, get_or, set, take, drop, length-set, length-take, length-drop}
use mir.Syntax.{w32}
use mir.Val.{Fits}
use borrow.Rule.Slice.PartMut.{put_mid}
use lib.Seq.{paste, paste-zero, paste-suc, get_or-take, get_or-drop, get_or-set_same, get_or-set_other}
use Rattle.std.proofs.lemmas.List.{set_comm, drop_all}
use Rattle.std.proofs.lemmas.List.Edits.{paste_all}
use Rattle.std.proofs.lemmas.Slice.{put_mid-paste}
use Rattle.tables.specs.Building.{CopiesInputs, inputs_from, put_inputs, put_outputs}
use Rattle.tables.specs.Layout.{net_size, kind_ix, first_ix, count_ix, ins_base, tab_base, out_base, kind_at, first_at, count_at, input_at, low_at, high_at, output_at, put_gate, put_input, put_table, put_output, cell, store}

-- ---- the gate table, read and put by the places that the code computes

module _ (l : List ℕ) (v i : ℕ) where
  pub kind_read : i ≡ kind_ix v → get_or l i 0 ≡ kind_at l v
  unfolding kind_at
  kind_read e = ap (λ j. get_or l j 0) e

  pub first_read : (r : ℕ) → i ≡ first_ix v → r ≡ get_or l i 0 → r ≡ first_at l v
  unfolding first_at
  first_read r e w = w ∙ ap (λ j. get_or l j 0) e

  pub count_read : (r : ℕ) → i ≡ count_ix v → r ≡ get_or l i 0 → r ≡ count_at l v
  unfolding count_at
  count_read r e w = w ∙ ap (λ j. get_or l j 0) e

  pub gate_put : (j k kind first count : ℕ) → i ≡ kind_ix v → j ≡ first_ix v → k ≡ count_ix v
      → set (set (set l i kind) j first) k count ≡ put_gate l v kind first count
  unfolding put_gate
  gate_put j k kind first count p q r = rw (p, q, r)

-- ---- what a store does

-- a reading off the places that were stored to
off1 : (l : List ℕ) (i a n : ℕ) → n ≢ i → get_or (set l i a) n 0 ≡ get_or l n 0
off1 l i a n h = get_or-set_other l i n a 0 h

off2 : (l : List ℕ) (i j a b n : ℕ) → n ≢ i → n ≢ j → get_or (set (set l i a) j b) n 0 ≡ get_or l n 0
off2 l i j a b n p q = off1 (set l i a) j b n q ∙ off1 l i a n p

off3 : (l : List ℕ) (i j k a b c n : ℕ) → n ≢ i → n ≢ j → n ≢ k → get_or (set (set (set l i a) j b) k c) n 0 ≡ get_or l n 0
off3 l i j k a b c n p q r = off1 (set (set l i a) j b) k c n r ∙ off2 l i j a b n p q

-- put_gate
module _ (l : List ℕ) (v k f c : ℕ) where
  pub length_put_gate : length (put_gate l v k f c) ≡ length l
  unfolding put_gate
  length_put_gate = simp length-set

  module _ (h : v < 512) (z : net_size ≤ length l) where
    pub kind_at_put_gate : kind_at (put_gate l v k f c) v ≡ k
    unfolding kind_at put_gate
    kind_at_put_gate = off2 (set l (kind_ix v) k) (first_ix v) (count_ix v) f c (kind_ix v) (omega arith) (omega arith) ∙ get_or-set_same l (kind_ix v) k 0 (omega arith)

    pub first_at_put_gate : first_at (put_gate l v k f c) v ≡ f
    unfolding first_at put_gate
    first_at_put_gate = off1 (set (set l (kind_ix v) k) (first_ix v) f) (count_ix v) c (first_ix v) (omega arith) ∙ get_or-set_same (set l (kind_ix v) k) (first_ix v) f 0 (simp length-set (omega arith))

    pub count_at_put_gate : count_at (put_gate l v k f c) v ≡ c
    unfolding count_at put_gate
    count_at_put_gate = get_or-set_same (set (set l (kind_ix v) k) (first_ix v) f) (count_ix v) c 0 (simp length-set (omega arith))

  module _ (w : ℕ) (n : w ≢ v) (h : v < 512) (m : w < 512) where
    pub kind_at_put_gate_other : kind_at (put_gate l v k f c) w ≡ kind_at l w
    unfolding kind_at put_gate
    kind_at_put_gate_other = off3 l _ _ _ k f c _ (omega arith) (omega arith) (omega arith)

    pub first_at_put_gate_other : first_at (put_gate l v k f c) w ≡ first_at l w
    unfolding first_at put_gate
    first_at_put_gate_other = off3 l _ _ _ k f c _ (omega arith) (omega arith) (omega arith)

    pub count_at_put_gate_other : count_at (put_gate l v k f c) w ≡ count_at l w
    unfolding count_at put_gate
    count_at_put_gate_other = off3 l _ _ _ k f c _ (omega arith) (omega arith) (omega arith)

  module _ (w : ℕ) (h : v < 512) where
    pub input_at_put_gate : input_at (put_gate l v k f c) w ≡ input_at l w
    unfolding input_at put_gate
    input_at_put_gate = off3 l _ _ _ k f c _ (omega arith) (omega arith) (omega arith)

    pub low_at_put_gate : low_at (put_gate l v k f c) w ≡ low_at l w
    unfolding low_at put_gate
    low_at_put_gate = off3 l _ _ _ k f c _ (omega arith) (omega arith) (omega arith)

    pub high_at_put_gate : high_at (put_gate l v k f c) w ≡ high_at l w
    unfolding high_at put_gate
    high_at_put_gate = off3 l _ _ _ k f c _ (omega arith) (omega arith) (omega arith)

    pub output_at_put_gate : output_at (put_gate l v k f c) w ≡ output_at l w
    unfolding output_at put_gate
    output_at_put_gate = off3 l _ _ _ k f c _ (omega arith) (omega arith) (omega arith)

-- put_input
module _ (l : List ℕ) (i s : ℕ) where
  pub length_put_input : length (put_input l i s) ≡ length l
  unfolding put_input
  length_put_input = simp length-set

  module _ (h : i < 2048) (z : net_size ≤ length l) where
    pub input_at_put_input : input_at (put_input l i s) i ≡ s
    unfolding input_at put_input
    input_at_put_input = get_or-set_same l (ins_base + i) s 0 (omega arith)

  module _ (w : ℕ) (n : w ≢ i) where
    pub input_at_put_input_other : input_at (put_input l i s) w ≡ input_at l w
    unfolding input_at put_input
    input_at_put_input_other = off1 l _ s _ (omega arith)

  module _ (w : ℕ) (h : i < 2048) where
    pub low_at_put_input : low_at (put_input l i s) w ≡ low_at l w
    unfolding low_at put_input
    low_at_put_input = off1 l _ s _ (omega arith)

    pub high_at_put_input : high_at (put_input l i s) w ≡ high_at l w
    unfolding high_at put_input
    high_at_put_input = off1 l _ s _ (omega arith)

    pub output_at_put_input : output_at (put_input l i s) w ≡ output_at l w
    unfolding output_at put_input
    output_at_put_input = off1 l _ s _ (omega arith)

  module _ (w : ℕ) (h : w < 512) where
    pub kind_at_put_input : kind_at (put_input l i s) w ≡ kind_at l w
    unfolding kind_at put_input
    kind_at_put_input = off1 l _ s _ (omega arith)

    pub first_at_put_input : first_at (put_input l i s) w ≡ first_at l w
    unfolding first_at put_input
    first_at_put_input = off1 l _ s _ (omega arith)

    pub count_at_put_input : count_at (put_input l i s) w ≡ count_at l w
    unfolding count_at put_input
    count_at_put_input = off1 l _ s _ (omega arith)

-- put_table
module _ (l : List ℕ) (v lo hi : ℕ) where
  pub length_put_table : length (put_table l v lo hi) ≡ length l
  unfolding put_table
  length_put_table = simp length-set

  module _ (h : v < 512) (z : net_size ≤ length l) where
    pub low_at_put_table : low_at (put_table l v lo hi) v ≡ lo
    unfolding low_at put_table
    low_at_put_table = off1 (set l (tab_base + 2 * v) lo) (tab_base + 2 * v + 1) hi (tab_base + 2 * v) (omega arith) ∙ get_or-set_same l (tab_base + 2 * v) lo 0 (omega arith)

    pub high_at_put_table : high_at (put_table l v lo hi) v ≡ hi
    unfolding high_at put_table
    high_at_put_table = get_or-set_same (set l (tab_base + 2 * v) lo) (tab_base + 2 * v + 1) hi 0 (simp length-set (omega arith))

  module _ (w : ℕ) (n : w ≢ v) (h : v < 512) (m : w < 512) where
    pub low_at_put_table_other : low_at (put_table l v lo hi) w ≡ low_at l w
    unfolding low_at put_table
    low_at_put_table_other = off2 l _ _ lo hi _ (omega arith) (omega arith)

    pub high_at_put_table_other : high_at (put_table l v lo hi) w ≡ high_at l w
    unfolding high_at put_table
    high_at_put_table_other = off2 l _ _ lo hi _ (omega arith) (omega arith)

  module _ (w : ℕ) (h : v < 512) where
    pub output_at_put_table : output_at (put_table l v lo hi) w ≡ output_at l w
    unfolding output_at put_table
    output_at_put_table = off2 l _ _ lo hi _ (omega arith) (omega arith)

  module _ (w : ℕ) (h : w < 512) where
    pub kind_at_put_table : kind_at (put_table l v lo hi) w ≡ kind_at l w
    unfolding kind_at put_table
    kind_at_put_table = off2 l _ _ lo hi _ (omega arith) (omega arith)

    pub first_at_put_table : first_at (put_table l v lo hi) w ≡ first_at l w
    unfolding first_at put_table
    first_at_put_table = off2 l _ _ lo hi _ (omega arith) (omega arith)

    pub count_at_put_table : count_at (put_table l v lo hi) w ≡ count_at l w
    unfolding count_at put_table
    count_at_put_table = off2 l _ _ lo hi _ (omega arith) (omega arith)

  module _ (w : ℕ) (h : w < 2048) where
    pub input_at_put_table : input_at (put_table l v lo hi) w ≡ input_at l w
    unfolding input_at put_table
    input_at_put_table = off2 l _ _ lo hi _ (omega arith) (omega arith)

-- put_output
module _ (l : List ℕ) (o s : ℕ) where
  pub length_put_output : length (put_output l o s) ≡ length l
  unfolding put_output
  length_put_output = simp length-set

  module _ (h : o < 64) (z : net_size ≤ length l) where
    pub output_at_put_output : output_at (put_output l o s) o ≡ s
    unfolding output_at put_output
    output_at_put_output = get_or-set_same l (out_base + o) s 0 (omega arith)

  module _ (w : ℕ) (n : w ≢ o) where
    pub output_at_put_output_other : output_at (put_output l o s) w ≡ output_at l w
    unfolding output_at put_output
    output_at_put_output_other = off1 l _ s _ (omega arith)

  module _ (w : ℕ) (h : w < 512) where
    pub kind_at_put_output : kind_at (put_output l o s) w ≡ kind_at l w
    unfolding kind_at put_output
    kind_at_put_output = off1 l _ s _ (omega arith)

    pub first_at_put_output : first_at (put_output l o s) w ≡ first_at l w
    unfolding first_at put_output
    first_at_put_output = off1 l _ s _ (omega arith)

    pub count_at_put_output : count_at (put_output l o s) w ≡ count_at l w
    unfolding count_at put_output
    count_at_put_output = off1 l _ s _ (omega arith)

    pub low_at_put_output : low_at (put_output l o s) w ≡ low_at l w
    unfolding low_at put_output
    low_at_put_output = off1 l _ s _ (omega arith)

    pub high_at_put_output : high_at (put_output l o s) w ≡ high_at l w
    unfolding high_at put_output
    high_at_put_output = off1 l _ s _ (omega arith)

  module _ (w : ℕ) (h : w < 2048) where
    pub input_at_put_output : input_at (put_output l o s) w ≡ input_at l w
    unfolding input_at put_output
    input_at_put_output = off1 l _ s _ (omega arith)

-- a word is below 2 ^ 32
pub low_at_fits : (l : List ℕ) → ((i : ℕ) → Fits w32 (get_or l i 0)) → (v : ℕ) → low_at l v < 2 ^ 32
unfolding low_at
low_at_fits l h v = (h (tab_base + 2 * v)).fits

-- two lists that agree in the network's words have the same readings
abbrev pub Agree : List ℕ → List ℕ → Type 0
Agree l m = (i : ℕ) → i < net_size → get_or m i 0 ≡ get_or l i 0

module _ (l m : List ℕ) (a : Agree l m) (v : ℕ) where
  pub kind_at_agree : v < 512 → kind_at m v ≡ kind_at l v
  unfolding kind_at
  kind_at_agree h = a (kind_ix v) (omega arith)

  pub first_at_agree : v < 512 → first_at m v ≡ first_at l v
  unfolding first_at
  first_at_agree h = a (first_ix v) (omega arith)

  pub count_at_agree : v < 512 → count_at m v ≡ count_at l v
  unfolding count_at
  count_at_agree h = a (count_ix v) (omega arith)

  pub input_at_agree : v < 2048 → input_at m v ≡ input_at l v
  unfolding input_at
  input_at_agree h = a (ins_base + v) (omega arith)

  pub low_at_agree : v < 512 → low_at m v ≡ low_at l v
  unfolding low_at
  low_at_agree h = a (tab_base + 2 * v) (omega arith)

  pub high_at_agree : v < 512 → high_at m v ≡ high_at l v
  unfolding high_at
  high_at_agree h = a (tab_base + 2 * v + 1) (omega arith)

  pub output_at_agree : v < 64 → output_at m v ≡ output_at l v
  unfolding output_at
  output_at_agree h = a (out_base + v) (omega arith)

-- the tables behind the network
pub length_store : (l : List ℕ) (b i x : ℕ) → length (store l b i x) ≡ length l
unfolding store
length_store l b i x = simp length-set

pub cell_store : (l : List ℕ) (b i x : ℕ) → b + i < length l → cell (store l b i x) b i ≡ x
unfolding cell store
cell_store l b i x h = get_or-set_same l (b + i) x 0 h

pub cell_store_other : (l : List ℕ) (b i x c j : ℕ) → c + j ≢ b + i → cell (store l b i x) c j ≡ cell l c j
unfolding cell store
cell_store_other l b i x c j h = off1 l (b + i) x (c + j) h

module _ (l : List ℕ) (c j : ℕ) (far : net_size ≤ c) where
  pub cell_put_gate : (v k f n : ℕ) → v < 512 → cell (put_gate l v k f n) c j ≡ cell l c j
  unfolding cell put_gate
  cell_put_gate v k f n h = off3 l _ _ _ k f n _ (omega arith) (omega arith) (omega arith)

  pub cell_put_input : (i s : ℕ) → i < 2048 → cell (put_input l i s) c j ≡ cell l c j
  unfolding cell put_input
  cell_put_input i s h = off1 l _ s _ (omega arith)

  pub cell_put_table : (v lo hi : ℕ) → v < 512 → cell (put_table l v lo hi) c j ≡ cell l c j
  unfolding cell put_table
  cell_put_table v lo hi h = off2 l _ _ lo hi _ (omega arith) (omega arith)

  pub cell_put_output : (o s : ℕ) → o < 64 → cell (put_output l o s) c j ≡ cell l c j
  unfolding cell put_output
  cell_put_output o s h = off1 l _ s _ (omega arith)

-- two stores at different places
pub put_input_comm : (l : List ℕ) (i j a b : ℕ) → i ≢ j → put_input (put_input l i a) j b ≡ put_input (put_input l j b) i a
unfolding put_input
put_input_comm l i j a b h = set_comm l (ins_base + i) (ins_base + j) a b (λ e. h (omega arith))

-- ---- words copied as a part of the list

put_inputs_paste : (l s : List ℕ) (at : ℕ) (f : ℕ → ℕ) (n : ℕ) → ((j : ℕ) → j < n → f j ≡ get_or s j 0) → n ≤ length s → ins_base + at + n ≤ length l
    → put_inputs l at f n ≡ paste l (ins_base + at) s n
unfolding put_inputs put_input
put_inputs_paste l s at f zero h r z = paste-zero l (ins_base + at) s
put_inputs_paste l s at f (suc n) h r z =
    let e : ins_base + (at + n) ≡ ins_base + at + n = omega arith in
    rw (put_inputs_paste l s at f n (λ j q. h j (omega arith)) (omega arith) (omega arith), h n (omega arith), e)
    (paste-suc l (ins_base + at) s n 0 (omega arith) (omega arith))

put_outputs_paste : (l s : List ℕ) (f : ℕ → ℕ) (m : ℕ) → ((j : ℕ) → j < m → f j ≡ get_or s j 0) → m ≤ length s → out_base + m ≤ length l
    → put_outputs l f m ≡ paste l out_base s m
unfolding put_outputs put_output
put_outputs_paste l s f zero h r z = paste-zero l out_base s
put_outputs_paste l s f (suc m) h r z =
    rw (put_outputs_paste l s f m (λ j q. h j (omega arith)) (omega arith) (omega arith), h m (omega arith))
    (paste-suc l out_base s m 0 (omega arith) (omega arith))

-- a list stored word by word into another of its length
module _ (l s : List ℕ) (z : length s ≡ length l) (m : List ℕ) (i : ℕ) (e : m ≡ paste l 0 s i) where
  pub words_next : i < length l → set m i (get_or s i 0) ≡ paste l 0 s (i + 1)
  words_next h =
      let a : i ≡ 0 + i = omega arith in
      rw (e, add-one i) (ap (λ (k : ℕ). set (paste l 0 s i) k (get_or s i 0)) a ∙ paste-suc l 0 s i 0 (omega arith) (omega arith))

  pub words_end : i ≡ length l → m ≡ s
  words_end h = e ∙ paste_all l 0 s i (h ∙ sym z) ∙ ap (λ (t : List ℕ). s ++ t) (drop_all (0 + i) l (omega arith)) ∙ append-nil s

-- n words from i on, one by one
part_read : (from : List ℕ) (i n j : ℕ) → j < n → get_or (take n (drop i from)) j 0 ≡ get_or from (i + j) 0
part_read from i n j h = get_or-take n (drop i from) j 0 h ∙ get_or-drop i from j 0

module _ (from l : List ℕ) (f at n : ℕ) (C : CopiesInputs from l f at n) where
  word_from : (j : ℕ) → inputs_from from f j ≡ get_or from (ins_base + f + j) 0
  unfolding inputs_from input_at
  word_from j = let a : ins_base + (f + j) ≡ ins_base + f + j = omega arith in rw a

  pub inputs_copied : (k m : ℕ) → k ≡ n → m ≡ n → (ys : List ℕ) → ys ≡ take m (drop (ins_base + f) from) → put_mid (ins_base + at) k l ys ≡ put_inputs l at (inputs_from from f) n
  inputs_copied k m e o ys y =
      let ws = take n (drop (ins_base + f) from) in
      let z : n ≡ length (take n (drop (ins_base + f) from)) = simp (length-take, length-drop) (omega (arith, C.source, C.ends)) in
      put_mid-paste (ins_base + at) k l ys ws n (rw o at y) (sym e) z
      ∙ sym (put_inputs_paste l ws at (inputs_from from f) n (λ j q. word_from j ∙ sym (part_read from (ins_base + f) n j q)) (omega (arith, z)) (omega (arith, C.long, C.room)))

pub outputs_copied : (from l : List ℕ) (m : ℕ) → (m ≤ 64) × (net_size ≤ length from) × (net_size ≤ length l) → (k : ℕ) → k ≡ m → (ys : List ℕ) → ys ≡ take k (drop out_base from)
    → put_mid out_base k l ys ≡ put_outputs l (output_at from) m
unfolding output_at
outputs_copied from l m P k e ys y =
    let ws = take m (drop out_base from) in
    let z : m ≡ length (take m (drop out_base from)) = simp (length-take, length-drop) (omega (arith, P)) in
    put_mid-paste out_base k l ys ws m (rw e at y) (sym e) z
    ∙ sym (put_outputs_paste l ws (output_at from) m (λ j q. sym (part_read from out_base m j q)) (omega (arith, z)) (omega (arith, P)))
