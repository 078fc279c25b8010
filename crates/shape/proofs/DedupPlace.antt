-- Looking a gate up among the new nodes: what `find_gate`, `place` and `dedup_node` give.
use mathlib.Core.Path.{◌≡◌, refl, sym, ap, ap₂, ◌∙◌}
use mathlib.Core.Logic.{◌≢◌}
use Prim.Native.Nat.{ℕ, suc, ◌≤◌, ◌<◌, suc-le-suc, zero-le}
use native.Mathlib.Nat.{le_refl}
use native.Mathlib.Omega.{arith}
use mathlib.Core.Bool.{Bool, true, false}
use mathlib.Core.List.{List, [], ◌∷◌, ◌++◌}
use mathlib.Core.Option.{Option, none, some}
use lib.ListN.{length, get_or, length-append, get_or-append}
use lib.Seq.{get_or-append_seam}
use lib.Dec.{eqb}
use borrow.Author.Tests.{eqb-true}
use Rattle.laws.proofs.Bools.{and_left, and_right}
use Rattle.model.specs.Signal.{flip, from_var}
use Rattle.model.specs.Gate.{Gate, no_gate}
use Rattle.model.specs.Normal.{Norm, copied, made}
use Rattle.model.specs.Network.{same_list, same_gate, find_step, find_gate, Place, place_at, place, Work, dedup_node}
use Rattle.shape.proofs.Sums.{upd_same, upd_other}

-- ---- equal gates

pub same_list_eq : (a b : List ℕ) → same_list a b ≡ true → a ≡ b
unfolding same_list
same_list_eq [] [] e = refl
same_list_eq [] (y ∷ ys) e = cc
same_list_eq (x ∷ xs) [] e = cc
same_list_eq (x ∷ xs) (y ∷ ys) e = ap₂ ◌∷◌ (eqb-true x y (and_left (eqb x y) _ e)) (same_list_eq xs ys (and_right (eqb x y) _ e))

pub same_gate_eq : (g h : Gate) → same_gate g h ≡ true → g ≡ h
unfolding same_gate
same_gate_eq g h e =
    let r = and_right (eqb g.kind h.kind) _ e in
    let k = eqb-true g.kind h.kind (and_left (eqb g.kind h.kind) _ e) in
    let l = same_list_eq g.ins h.ins (and_left (same_list g.ins h.ins) _ r) in
    let t = eqb-true g.table h.table (and_right (same_list g.ins h.ins) _ r) in
    λ i. record { kind = k i; ins = l i; table = t i }

-- ---- a list that another begins with

pub record Ext (a b : List Gate) : Type 0 where
  pub longer : length a ≤ length b
  pub same : (j : ℕ) → j < length a → get_or b j no_gate ≡ get_or a j no_gate

pub ext_refl : (a : List Gate) → Ext a a
ext_refl a = record { longer = le_refl _; same = λ j h. refl }

pub ext_trans : {a b c : List Gate} → Ext a b → Ext b c → Ext a c
ext_trans p q = record { longer = omega arith; same = λ j h. q.same j (let l = p.longer in omega arith) ∙ p.same j h }

ext_snoc : (a : List Gate) (g : Gate) → Ext a (a ++ (g ∷ []))
ext_snoc a g = record { longer = rw length-append (omega arith); same = λ j h. get_or-append a (g ∷ []) no_gate j h }

-- ---- the search

no_some : {j : ℕ} {X : Type 0} → none ≡ some j → X
no_some e = let z : ◌≡◌ {A = ℕ} 0 1 = cc in absurd (omega arith)

pub record At (g : Gate) (l : List Gate) (j : ℕ) : Type 0 where
  pub inside : j < length l
  pub there : get_or l j no_gate ≡ g

pub find_at : (g : Gate) (l : List Gate) (j : ℕ) → find_gate g l ≡ some j → At g l j
unfolding find_gate
find_at g [] j e = no_some e
find_at g (h ∷ hs) j e = go (same_gate g h) (find_gate g hs) refl (find_at g hs) e
  where
    go : (b : Bool) (r : Option ℕ) → same_gate g h ≡ b → ((k : ℕ) → r ≡ some k → At g hs k) → find_step b r ≡ some j → At g (h ∷ hs) j
    go true r t ih f = let z : 0 ≡ j = cc in rw (← z) (record { inside = suc-le-suc zero-le; there = sym (same_gate_eq g h t) })
    go false none t ih f = no_some f
    go false (some k) t ih f = let z : suc k ≡ j = cc in let q = ih k refl in rw (← z) (record { inside = suc-le-suc q.inside; there = q.there })

pub record Placed (g : Gate) (l : List Gate) (p : Place) : Type 0 where
  pub at : At g p.all p.pos
  pub ext : Ext l p.all
  pub only : (j : ℕ) → length l ≤ j → j < length p.all → get_or p.all j no_gate ≡ g

pub placed : (g : Gate) (l : List Gate) → Placed g l (place g l)
unfolding place
placed g l = go (find_gate g l) refl
  where
    go : (o : Option ℕ) → find_gate g l ≡ o → Placed g l (place_at o g l)
    go (some j) e = record { at = find_at g l j e; ext = ext_refl l; only = λ j a b. absurd (omega arith) }
    go none e = record {
      at = record { inside = rw length-append (omega arith); there = get_or-append_seam l g [] no_gate };
      ext = ext_snoc l g;
      only = λ j a b.
          let h : j ≡ length l = omega (arith, simp length-append at b) in
          ap (λ x. get_or (l ++ (g ∷ [])) x no_gate) h ∙ get_or-append_seam l g [] no_gate;
    }

-- ---- what a stored translation says of the normalization that was looked up

abbrev pub Result : Norm → ℕ → List Gate → Type 0
Result (copied s) t l = t ≡ s
Result (made g b) t l = (j : ℕ) × At g l j × (t ≡ flip (from_var j) b)

pub result_ext : (nm : Norm) (t : ℕ) (a b : List Gate) → Ext a b → Result nm t a → Result nm t b
result_ext (copied s) t a b x r = r
result_ext (made g c) t a b x r =
    (r.0, record { inside = (let l = r.1.inside in let m = x.longer in omega arith); there = x.same r.0 r.1.inside ∙ r.1.there }, r.2)

-- the node that is new, if there is one, is the gate that was looked up
pub record Put (nm : Norm) (k : ℕ) (d e : Work) : Type 0 where
  pub other : (v : ℕ) → v ≢ k → e.trans v ≡ d.trans v
  pub ext : Ext d.news e.news
  pub result : Result nm (e.trans k) e.news
  pub only : (j : ℕ) → length d.news ≤ j → j < length e.news → (g : Gate) × (b : Bool) × (nm ≡ made g b) × (get_or e.news j no_gate ≡ g)

pub put_is : (nm : Norm) (k : ℕ) (d : Work) → Put nm k d (dedup_node nm k d)
unfolding dedup_node
put_is (copied s) k d = record {
  other = λ v h. upd_other d.trans k s v h;
  ext = ext_refl d.news;
  result = upd_same d.trans k s;
  only = λ j a b. absurd (omega arith);
}
put_is (made g b) k d =
    let p = placed g d.news in
    record {
      other = λ v h. upd_other d.trans k _ v h;
      ext = p.ext;
      result = ((place g d.news).pos, p.at, upd_same d.trans k _);
      only = λ j a c. (g, b, refl, p.only j a c);
    }

-- the new nodes after a lookup: one more at most, and then the gate that was looked up
pub data Grown (nm : Norm) (l m : List Gate) : Type 0 where
  same : m ≡ l → Grown nm l m
  more : (g : Gate) (b : Bool) → nm ≡ made g b → m ≡ l ++ (g ∷ []) → Grown nm l m

pub grown : (nm : Norm) (k : ℕ) (d : Work) → Grown nm d.news (dedup_node nm k d).news
unfolding dedup_node place
grown (copied s) k d = same refl
grown (made g b) k d = go (find_gate g d.news)
  where
    go : (o : Option ℕ) → Grown (made g b) d.news (place_at o g d.news).all
    go (some j) = same refl
    go none = more g b refl refl
