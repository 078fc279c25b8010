-- The comparison of triples is the order of the model.
use Prim.Native.Nat.{ℕ, ◌<◌, ◌≤◌}
use mathlib.Core.Path.{sym, ◌≡◌}
use mathlib.Core.Bool.{Bool}
use native.Mathlib.Omega.{arith}
use native.Mathlib.Decide.{dec_lt}
use lib.Dec.{ltb}
use borrow.Author.Tests.{le-ltb, lt-ltb}
use Rattle.std.specs.Prelude.{Some}
use Rattle.std.proofs.Common.{Less, Equal, Greater}
use Rattle.std.specs.Ordering.{is_lt, is_some_and, nat_cmp, partial_ordering_then}
use Rattle.std.specs.Cmp.{nat_cmp_is}
use Rattle.model.specs.Sharing.{beats}
use Rattle.top_pair.specs.Tops.{top_of}
use Rattle.top_pair.specs.declared.Top as code

less : (x y : ℕ) → x < y → nat_cmp x y ≡ Less
less x y h = sym (nat_cmp_is x y Less h)

more : (x y : ℕ) → y < x → nat_cmp x y ≡ Greater
more x y h = sym (nat_cmp_is x y Greater h)

even : (x y : ℕ) → x ≡ y → nat_cmp x y ≡ Equal
even x y h = sym (nat_cmp_is x y Equal h)

-- `(m, a, b) < (n, c, d)`
abbrev Before : ℕ → ℕ → ℕ → ℕ → ℕ → ℕ → Bool
Before m a b n c d = is_some_and is_lt (partial_ordering_then (partial_ordering_then (Some (nat_cmp m n)) (Some (nat_cmp a c))) (Some (nat_cmp b d)))

last : (b d : ℕ) → is_lt (nat_cmp b d) ≡ ltb b d
last b d = elim (dec_lt b d) [
  | yes h ↦ rw (less b d h, lt-ltb b d h)
  | no h ↦ elim (dec_lt d b) [
    | yes k ↦ (let p : d ≤ b = omega arith in rw (more b d k, le-ltb b d p))
    | no k ↦ (let p : d ≤ b = omega arith in let q : b ≡ d = omega arith in rw (even b d q, le-ltb b d p))
  ]
]

module _ (n a b : ℕ) (t : code.Top) where
  second : t.n ≡ n → Before t.n a b n t.a t.b ≡ beats n a b (top_of t)
  unfolding beats top_of
  second e =
      let u : t.n ≤ n = omega arith in
      let v : n ≤ t.n = omega arith in
      rw (even t.n n e, le-ltb t.n n v, le-ltb n t.n u)
      (elim (dec_lt a t.a) [
        | yes h ↦ rw (less a t.a h, lt-ltb a t.a h)
        | no h ↦ elim (dec_lt t.a a) [
          | yes k ↦ (let p : t.a ≤ a = omega arith in rw (more a t.a k, le-ltb a t.a p, lt-ltb t.a a k))
          | no k ↦ (let p : t.a ≤ a = omega arith in let q : a ≤ t.a = omega arith in let z : a ≡ t.a = omega arith in rw (even a t.a z, le-ltb a t.a p, le-ltb t.a a q) (last b t.b))
        ]
      ])

  pub wins_is : Before t.n a b n t.a t.b ≡ beats n a b (top_of t)
  unfolding beats top_of
  wins_is = elim (dec_lt t.n n) [
    | yes h ↦ rw (less t.n n h, lt-ltb t.n n h)
    | no h ↦ elim (dec_lt n t.n) [
      | yes k ↦ (let p : n ≤ t.n = omega arith in rw (more t.n n k, le-ltb t.n n p, lt-ltb n t.n k))
      | no k ↦ second (omega arith)
    ]
  ]
