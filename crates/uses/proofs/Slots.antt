-- The gates of a pass among the nodes of a network, and where their lists start.
use Prim.Native.Nat.{suc, zero, ℕ, ◌+◌, ◌-◌, ◌<◌, ◌≤◌}
use mathlib.Core.Path.{ap, refl, sym, ◌∙◌, ◌≡◌}
use mathlib.Core.Bool.{Bool, false, true, ◌&&◌}
use mathlib.Core.List.{List, [], append_assoc, append-nil, ◌++◌, ◌∷◌}
use native.Mathlib.Omega.{arith}
use native.Mathlib.Nat.{le_refl}
use lib.ListN.{get_or, length, length-append, take}
use lib.Seq.{get_or_at}
use lib.Dec.{ltb}
use Rattle.kinds.specs.Kinds.{in_family, kind_of}
use Rattle.model.specs.Gate.{Gate, fanin}
use Rattle.model.specs.Sharing.{taken, takes, total}
use Rattle.tables.specs.Layout.{count_at, gate_at, ins_at, kind_at, nodes_of}
use Rattle.uses.specs.Loading.{lists_in, slot}
use Rattle.laws.proofs.Choices.{by_bool}
use Rattle.shape.proofs.FactoringGrown.{taken_append}
use Rattle.tables.proofs.Building.{nodes_of_next, nodes_of_none}
use Rattle.tables.proofs.Holding.{length_ins_at, length_nodes_of}
use Rattle.kinds.specs.declared.Kind.{Kind}
use Rattle.kinds.specs.declared.Family.{Family}

-- the code of takes
pub takes_code : (f : Family) (l : List ℕ) (v d c : ℕ) (K : Kind) (a : Bool) → d ≡ kind_at l v → K ≡ kind_of d → a ≡ in_family K f → c ≡ count_at l v → a && ltb 1 c ≡ takes f (gate_at l v)
unfolding gate_at
takes_code f l v d c K a ed eK ea ec =
    let e : a ≡ in_family (kind_of (kind_at l v)) f = ea ∙ ap (λ k. in_family k f) (eK ∙ ap kind_of ed) in
    rw (e, ec, ← (length_ins_at l v))

pub ruleset taking = (takes_code)

pub lists_skip : (f : Family) (l : List ℕ) (v : ℕ) → takes f (gate_at l v) ≡ false → lists_in f l (suc v) ≡ lists_in f l v
unfolding lists_in taken
lists_skip f l v e = rw (nodes_of_next l v, taken_append) (rw e (append-nil (taken f (nodes_of l v))))

pub lists_next : (f : Family) (l : List ℕ) (v : ℕ) → takes f (gate_at l v) ≡ true → lists_in f l (suc v) ≡ lists_in f l v ++ (ins_at l v ∷ [])
unfolding lists_in taken gate_at
lists_next f l v e = rw (nodes_of_next l v, taken_append) (rw e)

pub lists_none : (f : Family) (l : List ℕ) → lists_in f l 0 ≡ []
unfolding lists_in taken
lists_none f l = rw (nodes_of_none l)

-- the gates among the first v nodes are the first of all
abbrev Rest : Family → List ℕ → ℕ → ℕ → Type 0
Rest f l v n = (r : List (List ℕ)) × (lists_in f l n ≡ lists_in f l v ++ r)

lists_rest : (f : Family) (l : List ℕ) (v d : ℕ) → Rest f l v (d + v)
lists_rest f l v zero = ([], (let e : 0 + v ≡ v = omega arith in rw e (sym (append-nil (lists_in f l v)))))
lists_rest f l v (suc d) = go (lists_rest f l v d)
  where
    go : Rest f l v (d + v) → Rest f l v (suc d + v)
    go (r, e) =
        let q : suc d + v ≡ suc (d + v) = omega arith in
        by_bool (takes f (gate_at l (d + v)))
        (λ t. (r ++ (ins_at l (d + v) ∷ []), rw (q, lists_next f l (d + v) t, e) (append_assoc (lists_in f l v) r (ins_at l (d + v) ∷ []))))
        (λ t. (r, rw (q, lists_skip f l (d + v) t) e))

rest_to : (f : Family) (l : List ℕ) (v n : ℕ) → v ≤ n → Rest f l v n
rest_to f l v n h = let e : n ≡ (n - v) + v = omega arith in rw e (lists_rest f l v (n - v))

-- node v, if it is a gate of the pass, is the next one
module _ (f : Family) (l : List ℕ) (v n : ℕ) (h : v < n) (t : takes f (gate_at l v) ≡ true) where
  pub list_here : get_or (lists_in f l n) (length (lists_in f l v)) [] ≡ ins_at l v
  list_here = go (rest_to f l (suc v) n h)
    where
      go : Rest f l (suc v) n → get_or (lists_in f l n) (length (lists_in f l v)) [] ≡ ins_at l v
      go (r, e) = rw (e, lists_next f l v t, append_assoc) (get_or_at (lists_in f l v) (ins_at l v) r [] (length (lists_in f l v)) refl)

  pub list_there : length (lists_in f l v) < length (lists_in f l n)
  list_there = go (rest_to f l (suc v) n h)
    where
      go : Rest f l (suc v) n → length (lists_in f l v) < length (lists_in f l n)
      go (r, e) = rw (e, lists_next f l v t, length-append, length-append) (omega arith)

-- the turn of a loop that meets a gate of the pass
module _ (f : Family) (l : List ℕ) (v n : ℕ) (h : v < n) (t : Bool) (et : t ≡ takes f (gate_at l v)) (q : t ≡ true) where
  pub met : takes f (gate_at l v) ≡ true
  met = sym et ∙ q

  pub met_here : (i : ℕ) → i ≡ length (lists_in f l v) → get_or (lists_in f l n) i [] ≡ ins_at l v
  met_here i e = rw e (list_here f l v n h met)

  pub met_there : (i : ℕ) → i ≡ length (lists_in f l v) → i < length (lists_in f l n)
  met_there i e = rw e (list_there f l v n h met)

-- ---- slots

take_past : {A : Type 0} (i : ℕ) (gs : List A) → length gs ≤ i → take i gs ≡ gs
take_past zero [] h = refl
take_past zero (x ∷ gs) h = absurd (omega arith)
take_past (suc i) [] h = refl
take_past (suc i) (x ∷ gs) h = ap (◌∷◌ x) (take_past i gs (omega arith))

pub slot_none : (gs : List (List ℕ)) → slot gs 0 ≡ 0
unfolding slot total
slot_none gs = refl

slot_cons : (l : List ℕ) (gs : List (List ℕ)) (i : ℕ) → slot (l ∷ gs) (suc i) ≡ length l + slot gs i
unfolding slot total
slot_cons l gs i = refl

pub slot_next : (gs : List (List ℕ)) (i : ℕ) → i < length gs → slot gs (suc i) ≡ slot gs i + length (get_or gs i [])
slot_next [] i h = absurd (omega arith)
slot_next (l ∷ gs) zero h = omega (arith, slot_cons l gs 0, slot_none gs, slot_none (l ∷ gs))
slot_next (l ∷ gs) (suc i) h = omega (arith, slot_cons l gs (suc i), slot_cons l gs i, slot_next gs i (omega arith))

slot_more : (gs : List (List ℕ)) (i d : ℕ) → d + i ≤ length gs → slot gs i ≤ slot gs (d + i)
slot_more gs i zero h = let e : 0 + i ≡ i = omega arith in rw e (le_refl _)
slot_more gs i (suc d) h =
    let e : suc d + i ≡ suc (d + i) = omega arith in
    rw e (omega (arith, slot_more gs i d (omega arith), slot_next gs (d + i) (omega arith)))

-- a list's slot ends where the next begins, or before
pub slot_apart : (gs : List (List ℕ)) (i j : ℕ) → i < j → j ≤ length gs → slot gs i + length (get_or gs i []) ≤ slot gs j
slot_apart gs i j h k =
    let e : j ≡ (j - suc i) + suc i = omega arith in
    let m : slot gs (suc i) ≤ slot gs j = rw (← e) at (slot_more gs (suc i) (j - suc i) (omega arith)) in
    omega (arith, slot_next gs i (omega arith))

slot_all : (gs : List (List ℕ)) → slot gs (length gs) ≡ total gs
unfolding slot
slot_all gs = ap total (take_past (length gs) gs (le_refl _))

total_fanin : (f : Family) (gs : List Gate) → total (taken f gs) ≤ fanin gs
unfolding taken total fanin
total_fanin f [] = le_refl _
total_fanin f (g ∷ gs) = by_bool (takes f g) (λ e. rw e (omega (arith, total_fanin f gs))) (λ e. rw e (omega (arith, total_fanin f gs)))

pub slot_room : (f : Family) (l : List ℕ) (n i : ℕ) → fanin (nodes_of l n) ≤ 2048 → i < length (lists_in f l n) → slot (lists_in f l n) i + length (get_or (lists_in f l n) i []) ≤ 2048
unfolding lists_in
slot_room f l n i h k = omega (arith, slot_apart (taken f (nodes_of l n)) i (length (taken f (nodes_of l n))) k (le_refl _), slot_all (taken f (nodes_of l n)), total_fanin f (nodes_of l n))

taken_few : (f : Family) (gs : List Gate) → length (taken f gs) ≤ length gs
unfolding taken
taken_few f [] = le_refl _
taken_few f (g ∷ gs) = by_bool (takes f g) (λ e. rw e (omega (arith, taken_few f gs))) (λ e. rw e (omega (arith, taken_few f gs)))

pub lists_few : (f : Family) (l : List ℕ) (n : ℕ) → length (lists_in f l n) ≤ n
unfolding lists_in
lists_few f l n = omega (arith, taken_few f (nodes_of l n), length_nodes_of l n)
