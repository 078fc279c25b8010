-- Normal forms (gates.rs): a normalization is a copy of a signal, or a gate with an inversion. Each definition renders the
-- Rust function of its name, test for test.
use Rattle.std.specs.Prelude.{ℕ, Bool, true, false, not, cond, ◌&&◌, ◌||◌, List, [], ◌∷◌, map, length, get_or, eqb, leb, ltb}
use Rattle.kinds.specs.Kinds.{kind_of, code_of}
use Rattle.kinds.specs.declared.Kind.{Kind}
use Rattle.kinds.specs.declared.Kind.TheVariants.{And2, Xor2, And3, Xor3, Maj, Mux, AndN, OrN, NandN, NorN, XorN, XnorN, Buf, Dff, Lut}
use Rattle.laws.specs.Bools.{xor}
use Rattle.model.specs.Signal.{is_inverted, ind, flip, neg, without_inversion, from_bool, is_constant}
use Rattle.model.specs.Gate.{Gate}
use Rattle.model.specs.Evaluate.{signal_value, gate_value}

pub data Norm : Type 0 where
  copied : ℕ → Norm
  made : Gate → Bool → Norm

-- a gate without a table, by kind and inputs
abbrev pub gate_of : Kind → List ℕ → Gate
gate_of k l = record { kind = code_of k; ins = l; table = 0 }

unfoldable pub made2 : Kind → ℕ → ℕ → Bool → Norm
made2 k x y z = made (gate_of k (x ∷ y ∷ [])) z

unfoldable pub made3 : Kind → ℕ → ℕ → ℕ → Bool → Norm
made3 k x y w z = made (gate_of k (x ∷ y ∷ w ∷ [])) z

-- ---- sort_2 and sort_3: three compare steps

unfoldable pub least : ℕ → ℕ → ℕ
least a b = cond (leb a b) a b

unfoldable pub most : ℕ → ℕ → ℕ
most a b = cond (leb a b) b a

unfoldable pub low3 : ℕ → ℕ → ℕ → ℕ
low3 a b c = least a (least b c)

unfoldable pub mid3 : ℕ → ℕ → ℕ → ℕ
mid3 a b c = least (most a (least b c)) (most b c)

unfoldable pub high3 : ℕ → ℕ → ℕ → ℕ
high3 a b c = most (most a (least b c)) (most b c)

-- ---- two inputs

unfoldable pub and_sorted : ℕ → ℕ → Bool → Norm
and_sorted x y z =
    cond (eqb x 0 || eqb x (neg y)) (copied (from_bool z))
    (cond (eqb x 1 || eqb x y) (copied (flip y z))
    (made2 And2 x y z))

unfoldable pub make_and : ℕ → ℕ → Bool → Norm
make_and a b z = and_sorted (least a b) (most a b) z

unfoldable pub xor_sorted : ℕ → ℕ → Bool → Norm
xor_sorted x y z =
    cond (eqb x 0) (copied (flip y z))
    (cond (eqb x y) (copied (from_bool z))
    (made2 Xor2 x y z))

unfoldable pub make_xor : ℕ → ℕ → Bool → Norm
make_xor a b z = xor_sorted (least (without_inversion a) (without_inversion b)) (most (without_inversion a) (without_inversion b)) (xor (xor (is_inverted a) (is_inverted b)) z)

-- ---- three inputs

unfoldable pub and3_sorted : ℕ → ℕ → ℕ → Bool → Norm
and3_sorted x y w z =
    cond (eqb x 0 || eqb x (neg y) || eqb w (neg y)) (copied (from_bool z))
    (cond (eqb x 1 || eqb x y) (make_and y w z)
    (cond (eqb y w) (make_and x y z)
    (made3 And3 x y w z)))

unfoldable pub make_and3 : ℕ → ℕ → ℕ → Bool → Norm
make_and3 a b c z = and3_sorted (low3 a b c) (mid3 a b c) (high3 a b c) z

unfoldable pub xor3_sorted : ℕ → ℕ → ℕ → Bool → Norm
xor3_sorted x y w z =
    cond (eqb x 0) (make_xor y w z)
    (cond (eqb x y) (copied (flip w z))
    (cond (eqb y w) (copied (flip x z))
    (made3 Xor3 x y w z)))

unfoldable pub make_xor3 : ℕ → ℕ → ℕ → Bool → Norm
make_xor3 a b c z =
    xor3_sorted (low3 (without_inversion a) (without_inversion b) (without_inversion c)) (mid3 (without_inversion a) (without_inversion b) (without_inversion c)) (high3 (without_inversion a) (without_inversion b) (without_inversion c))
    (xor (xor (xor (is_inverted a) (is_inverted b)) (is_inverted c)) z)

-- the Mux whose select and last input are not inverted
unfoldable pub mux_plain : ℕ → ℕ → ℕ → Bool → Norm
mux_plain s a b z =
    cond (eqb s 0 || eqb a b) (copied (flip b z))
    (cond (eqb s a || eqb a 1) (make_and (neg s) (neg b) (not z))
    (cond (eqb s (neg a) || eqb a 0) (make_and (neg s) b z)
    (cond (eqb s b || eqb b 0) (make_and s a z)
    (cond (eqb s (neg b) || eqb b 1) (make_and s (neg a) (not z))
    (cond (eqb a (neg b)) (make_xor s b z)
    (made3 Mux s a b z))))))

-- whose select is not inverted: an inverted last input inverts both, and the answer
unfoldable pub mux_select : ℕ → ℕ → ℕ → Bool → Norm
mux_select s a b z = cond (is_inverted b) (mux_plain s (neg a) (neg b) (not z)) (mux_plain s a b z)

-- an inverted select swaps the two
unfoldable pub make_mux : ℕ → ℕ → ℕ → Bool → Norm
make_mux s a b z = cond (is_inverted s) (mux_select (neg s) b a z) (mux_select s a b z)

-- the Maj of three in order whose least is not inverted
unfoldable pub maj_plain : ℕ → ℕ → ℕ → Bool → Norm
maj_plain x y w z = cond (eqb x 0) (make_and y w z) (made3 Maj x y w z)

-- of three in order: an inverted least inverts all, which keeps their order
unfoldable pub maj_sorted : ℕ → ℕ → ℕ → Bool → Norm
maj_sorted x y w z =
    cond (eqb x (neg y) || eqb y w) (copied (flip w z))
    (cond (eqb y (neg w) || eqb x y) (copied (flip x z))
    (cond (is_inverted x) (maj_plain (neg x) (neg y) (neg w) (not z))
    (maj_plain x y w z)))

unfoldable pub make_maj : ℕ → ℕ → ℕ → Bool → Norm
make_maj a b c z = maj_sorted (low3 a b c) (mid3 a b c) (high3 a b c) z

unfoldable pub make_dff : ℕ → ℕ → ℕ → Bool → Norm
make_dff d en res z = cond (eqb d 0 || eqb en 0 || eqb res 1) (copied (from_bool z)) (made3 Dff d en res z)

-- ---- any number of inputs

-- retain
abbrev pub keep : Bool → ℕ → List ℕ → List ℕ
keep true y l = l
keep false y l = y ∷ l

unfoldable pub without : ℕ → List ℕ → List ℕ
without x [] = []
without x (y ∷ l) = keep (eqb y x) y (without x l)

-- sort
unfoldable pub insert : ℕ → List ℕ → List ℕ
insert x [] = x ∷ []
insert x (y ∷ l) = cond (leb x y) (x ∷ y ∷ l) (y ∷ insert x l)

unfoldable pub sorted : List ℕ → List ℕ
sorted [] = []
sorted (x ∷ l) = insert x (sorted l)

-- dedup: of equal neighbours the last
unfoldable pub uniq : List ℕ → List ℕ
uniq [] = []
uniq (x ∷ []) = x ∷ []
uniq (x ∷ y ∷ l) = keep (eqb x y) x (uniq (y ∷ l))

-- a signal beside its inverse
unfoldable pub opposed : List ℕ → Bool
opposed [] = false
opposed (x ∷ []) = false
opposed (x ∷ y ∷ l) = eqb x (neg y) || opposed (y ∷ l)

unfoldable pub and_some : ℕ → List ℕ → Bool → Norm
and_some x [] z = copied (flip x z)
and_some x (y ∷ []) z = make_and x y z
and_some x (y ∷ w ∷ []) z = make_and3 x y w z
and_some x (y ∷ w ∷ u ∷ l) z = made (gate_of AndN (x ∷ y ∷ w ∷ u ∷ l)) z

unfoldable pub and_wide : List ℕ → Bool → Norm
and_wide [] z = copied (flip 1 z)
and_wide (x ∷ l) z = cond (eqb x 0) (copied (from_bool z)) (and_some x l z)

unfoldable pub and_tidy : List ℕ → Bool → Norm
and_tidy l z = cond (opposed l) (copied (from_bool z)) (and_wide l z)

unfoldable pub make_and_n : List ℕ → Bool → Norm
make_and_n l z = and_tidy (uniq (sorted (without 1 l))) z

-- the polarity: how many are inverted, odd or even
unfoldable pub parity : List ℕ → Bool
parity [] = false
parity (s ∷ l) = xor (is_inverted s) (parity l)

-- equal neighbours cancel in pairs (of a sorted list: what the Rust's push and pop leave)
unfoldable pub cancel : List ℕ → List ℕ
cancel [] = []
cancel (x ∷ []) = x ∷ []
cancel (x ∷ y ∷ l) = cond (eqb x y) (cancel l) (x ∷ cancel (y ∷ l))

unfoldable pub xor_some : List ℕ → Bool → Norm
xor_some [] z = copied (from_bool z)
xor_some (x ∷ []) z = copied (flip x z)
xor_some (x ∷ y ∷ []) z = make_xor x y z
xor_some (x ∷ y ∷ w ∷ []) z = make_xor3 x y w z
xor_some (x ∷ y ∷ w ∷ u ∷ l) z = made (gate_of XorN (x ∷ y ∷ w ∷ u ∷ l)) z

unfoldable pub make_xor_n : List ℕ → Bool → Norm
make_xor_n l z = xor_some (cancel (sorted (without 0 (map without_inversion l)))) (xor (parity l) z)

-- ---- the whole: make_canonical, by kind. A gate whose inputs are not as many as its kind has stays as it is.

abbrev pub on1 : (ℕ → Norm) → Norm → List ℕ → Norm
on1 f d [] = d
on1 f d (a ∷ []) = f a
on1 f d (a ∷ b ∷ l) = d

abbrev pub on2 : (ℕ → ℕ → Norm) → Norm → List ℕ → Norm
on2 f d [] = d
on2 f d (a ∷ []) = d
on2 f d (a ∷ b ∷ []) = f a b
on2 f d (a ∷ b ∷ c ∷ l) = d

abbrev pub on3 : (ℕ → ℕ → ℕ → Norm) → Norm → List ℕ → Norm
on3 f d [] = d
on3 f d (a ∷ []) = d
on3 f d (a ∷ b ∷ []) = d
on3 f d (a ∷ b ∷ c ∷ []) = f a b c
on3 f d (a ∷ b ∷ c ∷ e ∷ l) = d

unfoldable pub normal_k : Kind → List ℕ → Norm → Norm
normal_k And2 l same = on2 (λ a b. make_and a b false) same l
normal_k Xor2 l same = on2 (λ a b. make_xor a b false) same l
normal_k And3 l same = on3 (λ a b c. make_and3 a b c false) same l
normal_k Xor3 l same = on3 (λ a b c. make_xor3 a b c false) same l
normal_k Maj l same = on3 (λ a b c. make_maj a b c false) same l
normal_k Mux l same = on3 (λ a b c. make_mux a b c false) same l
normal_k AndN l same = make_and_n l false
normal_k OrN l same = make_and_n (map neg l) true
normal_k NandN l same = make_and_n l true
normal_k NorN l same = make_and_n (map neg l) false
normal_k XorN l same = make_xor_n l false
normal_k XnorN l same = make_xor_n l true
normal_k Buf l same = on1 (λ a. copied a) same l
normal_k Dff l same = on3 (λ a b c. make_dff a b c false) same l
normal_k Lut l same = same

unfoldable pub make_canonical : Gate → Norm
make_canonical g = normal_k (kind_of g.kind) g.ins (made g false)

-- ---- is_canonical

-- sorted_2: indices rising
unfoldable pub rises : ℕ → ℕ → Bool
rises x y = ltb (ind x) (ind y)

unfoldable pub sorted_n : List ℕ → Bool
sorted_n [] = true
sorted_n (x ∷ []) = true
sorted_n (x ∷ y ∷ l) = rises x y && sorted_n (y ∷ l)

unfoldable pub no_inv : List ℕ → Bool
no_inv [] = true
no_inv (x ∷ l) = not (is_inverted x) && no_inv l

-- rising, and the first no constant
unfoldable pub proper : List ℕ → Bool
proper l = sorted_n l && not (is_constant (get_or l 0 0))

unfoldable pub mux_canonical : ℕ → ℕ → ℕ → Bool
mux_canonical s a b =
    not (eqb (ind s) (ind a)) && not (eqb (ind s) (ind b)) && not (eqb (ind a) (ind b)) && not (is_inverted s) && not (is_inverted b)
    && not (is_constant a) && not (is_constant b) && not (is_constant s)

unfoldable pub dff_canonical : ℕ → ℕ → ℕ → Bool
dff_canonical d en res = not (eqb en 0) && not (eqb d 0) && not (eqb res 1)

unfoldable pub canonical_k : Kind → List ℕ → Bool
canonical_k And2 l = proper l
canonical_k Xor2 l = proper l && no_inv l
canonical_k And3 l = proper l
canonical_k Xor3 l = proper l && no_inv l
canonical_k Maj l = proper l && not (is_inverted (get_or l 0 0))
canonical_k Mux l = mux_canonical (get_or l 0 0) (get_or l 1 0) (get_or l 2 0)
canonical_k AndN l = proper l && ltb 3 (length l)
canonical_k OrN l = false
canonical_k NandN l = false
canonical_k NorN l = false
canonical_k XorN l = proper l && ltb 3 (length l) && no_inv l
canonical_k XnorN l = false
canonical_k Buf l = false
canonical_k Dff l = dff_canonical (get_or l 0 0) (get_or l 1 0) (get_or l 2 0)
canonical_k Lut l = true

unfoldable pub is_canonical : Gate → Bool
is_canonical g = canonical_k (kind_of g.kind) g.ins

abbrev pub is_normal : Norm → Bool
is_normal (copied s) = true
is_normal (made g z) = is_canonical g

-- ---- what a normalization is worth

abbrev pub norm_value : (ℕ → Bool) → (ℕ → Bool) → Norm → Bool
norm_value i v (copied s) = signal_value i v s
norm_value i v (made g z) = xor z (gate_value i v g)
