-- Laws of a list by a function.
use Prim.Native.Nat.{ℕ, zero, suc, ◌+◌, ◌≤◌, ◌<◌}
use mathlib.Core.Path.{◌≡◌, refl, sym, ap, ◌∙◌}
use mathlib.Core.Logic.{⊎_elim}
use mathlib.Core.List.{List, [], ◌∷◌, ◌++◌, map, map-append, append_assoc, append-nil}
use native.Mathlib.Nat.{eq-or-lt_of_le, le_of_suc-le-suc, add-zero}
use native.Mathlib.Omega.{arith}
use native.Mathlib.Numerals.{add-one}
use lib.ListN.{length, get_or, take, drop, set, length-append, length-drop, get_or-append}
use lib.Seq.{get_or_at, set_at, drop-cons, take-suc, append_snoc}
use Rattle.laws.specs.Lists.{tab}

module _ {A : Type 0} where
  pub tab_ext : (f g : ℕ → A) (n : ℕ) → ((i : ℕ) → i < n → f i ≡ g i) → tab f n ≡ tab g n
  unfolding tab
  tab_ext f g zero h = refl
  tab_ext f g (suc n) h = let p = tab_ext f g n (λ i l. h i (omega arith)) in let q = h n (omega arith) in cc

  pub length_tab : (f : ℕ → A) (n : ℕ) → length (tab f n) ≡ n
  unfolding tab
  length_tab f zero = refl
  length_tab f (suc n) = simp (length-append, length_tab f n) (omega arith)

  pub get_or_tab : (f : ℕ → A) (n i : ℕ) (d : A) → i < n → get_or (tab f n) i d ≡ f i
  unfolding tab
  get_or_tab f zero i d h = absurd (omega arith)
  get_or_tab f (suc n) i d h =
      ⊎_elim
      (λ e. rw e (get_or_at (tab f n) (f n) [] d n (length_tab f n)))
      (λ l. get_or-append (tab f n) (f n ∷ []) d i (rw length_tab l) ∙ get_or_tab f n i d l)
      (eq-or-lt_of_le (le_of_suc-le-suc h))

  pub drop_tab : (f : ℕ → A) (n j : ℕ) (d : A) → j < n → drop j (tab f n) ≡ f j ∷ drop (suc j) (tab f n)
  drop_tab f n j d h = drop-cons (tab f n) j d (rw length_tab h) ∙ ap (λ x. x ∷ drop (suc j) (tab f n)) (get_or_tab f n j d h)

  pub tab_append : (f : ℕ → A) (k h : ℕ) → tab f (k + h) ≡ tab f k ++ tab (λ j. f (k + j)) h
  unfolding tab
  tab_append f k zero = rw (add-zero k) (sym (append-nil (tab f k)))
  tab_append f k (suc h) =
      let e : k + suc h ≡ suc (k + h) = omega arith in
      rw e (ap (λ x. x ++ (f (k + h) ∷ [])) (tab_append f k h) ∙ append_assoc (tab f k) (tab (λ j. f (k + j)) h) (f (k + h) ∷ []))

pub map_tab : {A B : Type 0} (g : A → B) (f : ℕ → A) (n : ℕ) → map g (tab f n) ≡ tab (λ i. g (f i)) n
unfolding tab
map_tab g f zero = refl
map_tab g f (suc n) = map-append g (tab f n) (f n ∷ []) ∙ ap (λ l. l ++ (g (f n) ∷ [])) (map_tab g f n)

pub take_tab : (xs : List ℕ) (m : ℕ) → m ≤ length xs → take m xs ≡ tab (λ k. get_or xs k 0) m
unfolding tab
take_tab xs zero h = refl
take_tab xs (suc m) h = take-suc xs m 0 h ∙ ap (λ l. l ++ (get_or xs m 0 ∷ [])) (take_tab xs m (omega arith))

-- a list filled from the front by a function: tab f k ++ drop k l
module _ (f : ℕ → ℕ) (l : List ℕ) where
  pub fill_put : (k : ℕ) → k < length l → set (tab f k ++ drop k l) k (f k) ≡ tab f (k + 1) ++ drop (k + 1) l
  unfolding tab
  fill_put k h =
      rw (add-one, drop-cons l k 0 h)
      (set_at (tab f k) (get_or l k 0) (drop (suc k) l) (f k) k (length_tab f k) ∙ sym (append_snoc (tab f k) (f k) (drop (suc k) l)))

  pub fill_read : (k : ℕ) → k < length l → get_or (tab f k ++ drop k l) k 0 ≡ get_or l k 0
  fill_read k h =
      ap (λ (d : List ℕ). get_or (tab f k ++ d) k 0) (drop-cons l k 0 h)
      ∙ get_or_at (tab f k) (get_or l k 0) (drop (suc k) l) 0 k (length_tab f k)

  pub fill_skip : (k : ℕ) → k < length l → f k ≡ get_or l k 0 → tab f k ++ drop k l ≡ tab f (k + 1) ++ drop (k + 1) l
  unfolding tab
  fill_skip k h e = rw (add-one, drop-cons l k 0 h, ← e) (sym (append_snoc (tab f k) (f k) (drop (suc k) l)))

  pub length_fill : (k : ℕ) → k ≤ length l → length (tab f k ++ drop k l) ≡ length l
  length_fill k h = simp (length-append, length_tab, length-drop) (omega arith)
