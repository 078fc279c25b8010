-- The laws of signal words: the only place where their arithmetic is done. Everything else goes by `inv`, `ref` and `flip`.
use mathlib.Core.Path.{◌≡◌, refl, sym, ap, ◌∙◌}
use mathlib.Core.Logic.{◌≢◌}
use Prim.Native.Nat.{ℕ, suc, ◌+◌, ◌-◌, ◌*◌, ◌/◌, ◌%◌, ◌≤◌, ◌<◌}
use native.Mathlib.Omega.{arith}
use native.Mathlib.Decide.{ℕ_discrete}
use mathlib.Core.Bool.{Bool, true, false, cond}
use borrow.Author.Tests.{eq-eqb, ne_eqb, lt-ltb, le-ltb, eqb-true, eqb-false}
use Rattle.laws.specs.Bools.{xor}
use Rattle.laws.proofs.Bools.{xor_false, xor_assoc}
use Rattle.model.specs.Signal.{word_of, is_inverted, flip, neg, without_inversion, from_var, rzero, rnode, rinput, ref_ix, ref, remap_order}

pub word_ind : (k : ℕ) (b : Bool) → word_of k b / 2 ≡ k
unfolding word_of
word_ind k false = omega arith
word_ind k true = omega arith

pub word_inv : (k : ℕ) (b : Bool) → is_inverted (word_of k b) ≡ b
unfolding word_of is_inverted
word_inv k false = ne_eqb ((2 * k + 0) % 2) 1 (omega arith)
word_inv k true = eq-eqb ((2 * k + 1) % 2) 1 (omega arith)

pub word_parts : (s : ℕ) → word_of (s / 2) (is_inverted s) ≡ s
unfolding word_of is_inverted
word_parts s = elim (ℕ_discrete (s % 2) 1) [ yes e ↦ rw (eq-eqb (s % 2) 1 e) (omega arith) | no e ↦ rw (ne_eqb (s % 2) 1 e) (omega arith) ]

pub flip_ind : (s : ℕ) (b : Bool) → flip s b / 2 ≡ s / 2
unfolding flip
flip_ind s b = word_ind (s / 2) (xor (is_inverted s) b)

pub flip_ref : (s : ℕ) (b : Bool) → ref (flip s b) ≡ ref s
unfolding ref
flip_ref s b = ap ref_ix (flip_ind s b)

pub flip_inv : (s : ℕ) (b : Bool) → is_inverted (flip s b) ≡ xor (is_inverted s) b
unfolding flip
flip_inv s b = word_inv (s / 2) (xor (is_inverted s) b)

pub flip_false : (s : ℕ) → flip s false ≡ s
unfolding flip
flip_false s = ap (word_of (s / 2)) (xor_false (is_inverted s)) ∙ word_parts s

pub flip_flip : (s : ℕ) (a b : Bool) → flip (flip s a) b ≡ flip s (xor a b)
unfolding flip
flip_flip s a b = rw (word_ind (s / 2) (xor (is_inverted s) a), word_inv (s / 2) (xor (is_inverted s) a)) (ap (word_of (s / 2)) (xor_assoc (is_inverted s) a b))

pub neg_neg : (s : ℕ) → neg (neg s) ≡ s
neg_neg s = flip_flip s true true ∙ flip_false s

pub neg_plain : (s : ℕ) → is_inverted s ≡ true → is_inverted (neg s) ≡ false
neg_plain s e = flip_inv s true ∙ ap (λ b. xor b true) e

pub plain_ind : (s : ℕ) → without_inversion s / 2 ≡ s / 2
unfolding without_inversion
plain_ind s = word_ind (s / 2) false

pub plain_ref : (s : ℕ) → ref (without_inversion s) ≡ ref s
unfolding ref
plain_ref s = ap ref_ix (plain_ind s)

pub plain_inv : (s : ℕ) → is_inverted (without_inversion s) ≡ false
unfolding without_inversion
plain_inv s = word_inv (s / 2) false

pub plain_stays : (s : ℕ) → is_inverted s ≡ false → without_inversion s ≡ s
unfolding without_inversion
plain_stays s e = ap (word_of (s / 2)) (sym e) ∙ word_parts s

-- as numbers
pub plain_is : (s : ℕ) → without_inversion s ≡ s / 2 * 2
unfolding without_inversion word_of
plain_is s = omega arith

pub inv_odd : (s : ℕ) → is_inverted s ≡ true → s % 2 ≡ 1
unfolding is_inverted
inv_odd s e = eqb-true (s % 2) 1 e

pub inv_even : (s : ℕ) → is_inverted s ≡ false → s % 2 ≡ 0
unfolding is_inverted
inv_even s e = let h : s % 2 ≢ 1 = eqb-false (s % 2) 1 e in omega arith

pub odd_inv : (s : ℕ) → s % 2 ≡ 1 → is_inverted s ≡ true
unfolding is_inverted
odd_inv s e = eq-eqb (s % 2) 1 e

pub even_inv : (s : ℕ) → s % 2 ≡ 0 → is_inverted s ≡ false
unfolding is_inverted
even_inv s e = ne_eqb (s % 2) 1 (omega arith)

pub neg_odd : (s : ℕ) → s % 2 ≡ 1 → neg s ≡ s - 1
unfolding flip word_of
neg_odd s e = rw (odd_inv s e) (omega arith)

pub neg_even : (s : ℕ) → s % 2 ≡ 0 → neg s ≡ s + 1
unfolding flip word_of
neg_even s e = rw (even_inv s e) (omega arith)

-- the one other word of the same index
pub same_ind : (x y : ℕ) → x / 2 ≡ y / 2 → x ≢ y → x ≡ neg y
same_ind x y e d = elim (ℕ_discrete (y % 2) 1) [
  | yes h ↦ let n : neg y ≡ y - 1 = neg_odd y h in omega arith
  | no h ↦ let n : neg y ≡ y + 1 = neg_even y (omega arith) in omega arith
]

-- ---- what an index names

pub zero_ref : ref 0 ≡ rzero
unfolding ref ref_ix
zero_ref = refl

pub one_ref : ref 1 ≡ rzero
unfolding ref ref_ix
one_ref = refl

pub zero_inv : is_inverted 0 ≡ false
unfolding is_inverted
zero_inv = refl

pub one_is : neg 0 ≡ 1
unfolding flip word_of is_inverted
one_is = refl

pub constant_ref : (s : ℕ) → s / 2 ≡ 0 → ref s ≡ rzero
unfolding ref ref_ix
constant_ref s e = ap ref_ix e

pub var_ref : (s : ℕ) → 2 ≤ s → s < 2147483648 → ref s ≡ rnode (s / 2 - 1)
unfolding ref ref_ix
var_ref s h l =
    let e : s / 2 ≡ suc (s / 2 - 1) = omega arith in
    ap ref_ix e ∙ ap (λ (b : Bool). cond b (rnode (s / 2 - 1)) (rinput (2147483646 - (s / 2 - 1)))) (lt-ltb (s / 2 - 1) 1073741823 (omega arith))

pub input_ref : (s : ℕ) → 2147483648 ≤ s → ref s ≡ rinput (2147483647 - s / 2)
unfolding ref ref_ix
input_ref s h =
    let e : s / 2 ≡ suc (s / 2 - 1) = omega arith in
    let f : 2147483646 - (s / 2 - 1) ≡ 2147483647 - s / 2 = omega arith in
    ap ref_ix e ∙ ap (λ (b : Bool). cond b (rnode (s / 2 - 1)) (rinput (2147483646 - (s / 2 - 1)))) (le-ltb (s / 2 - 1) 1073741823 (omega arith)) ∙ ap rinput f

pub node_ref : (v : ℕ) → v < 1073741823 → ref (from_var v) ≡ rnode v
node_ref v h = let e : from_var v / 2 - 1 ≡ v = omega arith in var_ref (from_var v) (omega arith) (omega arith) ∙ ap rnode e

pub node_inv : (v : ℕ) → is_inverted (from_var v) ≡ false
node_inv v = even_inv (from_var v) (omega arith)

-- ---- translating

pub remap_constant : (τ : ℕ → ℕ) (s : ℕ) → s / 2 ≡ 0 → remap_order τ s ≡ s
unfolding remap_order
remap_constant τ s e = rw (constant_ref s e)

pub remap_input : (τ : ℕ → ℕ) (s : ℕ) → 2147483648 ≤ s → remap_order τ s ≡ s
unfolding remap_order
remap_input τ s e = rw (input_ref s e)

pub remap_var : (τ : ℕ → ℕ) (s : ℕ) → 2 ≤ s → s < 2147483648 → remap_order τ s ≡ flip (τ (s / 2 - 1)) (is_inverted s)
unfolding remap_order
remap_var τ s h l = rw (var_ref s h l)
