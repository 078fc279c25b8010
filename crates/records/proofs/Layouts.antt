-- Laws of the walk over the records: each says what one turn of a loop does to the definition of the rest.
use mathlib.Core.Path.{◌≡◌, refl, sym, ap, ◌∙◌}
use mathlib.Core.Logic.{◌≢◌, ⊎_elim}
use mathlib.Core.List.{List}
use mathlib.Core.Bool.{Bool, true, false, cond, ◌&&◌, and-false}
use Prim.Native.Nat.{ℕ, zero, suc, ◌+◌, ◌-◌, ◌/◌, ◌^◌, ◌≤◌, ◌<◌}
use native.Mathlib.Omega.{arith}
use native.Mathlib.Nat.{add_assoc, add-zero, sub-zero}
use native.Mathlib.Numerals.{sub-one}
use lib.ListN.{length, get_or}
use lib.Dec.{leb}
use borrow.Author.Tests.{eq-eqb, ne_eqb, leb-true, leb-false}
use mir.Val.{Fits}
use mir.Syntax.{w64}
use Rattle.std.specs.Prelude.{Option, Some, None}
use Rattle.laws.proofs.Bools.{and_left, and_right, and_split}
use Rattle.model.specs.Gate.{fanin}
use Rattle.model.specs.Image.{words, size_at, record_gate, sound_at, sound_from, end_from, gates_from}
use Rattle.model.proofs.Bytes.{length_words}
use Rattle.shape.proofs.Walks.{size_pos, count_lt_size, end_le, ins_length}
use Rattle.records.specs.Layouts.{size_of, fit_at, laid_from}
use Rattle.records.proofs.Fits.{size_is, count_is}

some_inv : (b : Bool) (x s : ℕ) → Some s ≡ cond b (Some x) None → (b ≡ true) × (s ≡ x)
some_inv true x s e = (refl, cc)
some_inv false x s e = absurd cc

none_inv : (b : Bool) (x : ℕ) → None ≡ cond b (Some x) None → b ≡ false
none_inv true x e = absurd cc
none_inv false x e = refl

pub record Fit (ws : List ℕ) (at lim s : ℕ) : Type 0 where
  pub sound : sound_at ws at ≡ true
  pub size : s ≡ size_at ws at
  pub ends : at + s ≤ lim

-- a fit is the size of a sound record that ends in time
pub fit_good : (ws : List ℕ) (at lim s : ℕ) → Some s ≡ fit_at ws at lim → Fit ws at lim s
unfolding fit_at
fit_good ws at lim s e =
    let g = some_inv (sound_at ws at && leb (at + size_at ws at) lim) (size_at ws at) s e in
    let l = leb-true (at + size_at ws at) lim (and_right (sound_at ws at) (leb (at + size_at ws at) lim) g.0) in
    record { sound = and_left (sound_at ws at) (leb (at + size_at ws at) lim) g.0; size = g.1; ends = omega arith }

-- no records are left
pub laid_done : (k : ℕ) (ws : List ℕ) (at t lim : ℕ) → k ≡ 0 → at ≡ lim → Some t ≡ laid_from k ws at t lim
unfolding laid_from sound_from end_from gates_from fanin
laid_done zero ws at t lim z e = simp (eq-eqb at lim e, add-zero)
laid_done (suc k) ws at t lim z e = absurd (omega arith)

pub laid_off : (k : ℕ) (ws : List ℕ) (at t lim : ℕ) → k ≡ 0 → at ≢ lim → None ≡ laid_from k ws at t lim
unfolding laid_from sound_from end_from
laid_off zero ws at t lim z e = simp (ne_eqb at lim e)
laid_off (suc k) ws at t lim z e = absurd (omega arith)

-- a record does not fit
pub laid_broken : (k : ℕ) (ws : List ℕ) (at t lim : ℕ) → 0 < k → None ≡ fit_at ws at lim → None ≡ laid_from k ws at t lim
unfolding laid_from sound_from end_from fit_at
laid_broken zero ws at t lim p e = absurd (omega arith)
laid_broken (suc k) ws at t lim p e =
    ⊎_elim
    (λ (a : sound_at ws at ≡ false). simp a)
    (λ (b : leb (at + size_at ws at) lim ≡ false). simp (
      ne_eqb (end_from k ws (at + size_at ws at)) lim
          (λ q. omega (arith, leb-false (at + size_at ws at) lim b, end_le k ws (at + size_at ws at))),
      and-false,
    ))
    (and_split (sound_at ws at) (leb (at + size_at ws at) lim)
    (none_inv (sound_at ws at && leb (at + size_at ws at) lim) (size_at ws at) e))

pub fit_count : (ws : List ℕ) (at lim s h : ℕ) → Fit ws at lim s → h ≡ get_or ws at 0 → h / 256 < s
fit_count ws at lim s h g r = let z = g.size in omega (arith, count_is ws at h r, count_lt_size ws at)

-- one record is passed
pub laid_step : (k : ℕ) (ws : List ℕ) (at t lim s h : ℕ) → 0 < k → Some s ≡ fit_at ws at lim → h ≡ get_or ws at 0 → lim ≤ length ws
    → laid_from k ws at t lim ≡ laid_from (k - 1) ws (at + s) (t + h / 256) lim
unfolding laid_from sound_from end_from gates_from fanin
laid_step zero ws at t lim s h p e r l = absurd (omega arith)
laid_step (suc k) ws at t lim s h p e r l =
    let g = fit_good ws at lim s e in
    let z = g.size in
    let m = g.ends in
    let n : length (record_gate ws at).ins ≡ h / 256 = ins_length ws at (omega arith) ∙ count_is ws at h r in
    simp (g.sound, ← z, n, sub-one, add_assoc)

-- The loop of `layout` at record v of n: its invariant is x ≡ laid_from (n - v) (words b) at t lim, and each law's premises are what
-- the code meets
module _ (b : List ℕ) (x : Option ℕ) (n v at t lim : ℕ) (i : x ≡ laid_from (n - v) (words b) at t lim) where
  pub done_laid : n ≤ v → at ≡ lim → Some t ≡ x
  done_laid z e = laid_done (n - v) (words b) at t lim (omega arith) e ∙ sym i

  pub off_laid : n ≤ v → at ≢ lim → None ≡ x
  off_laid z e = laid_off (n - v) (words b) at t lim (omega arith) e ∙ sym i

  pub broken_laid : None ≡ fit_at (words b) at lim → v < n → None ≡ x
  broken_laid e p = laid_broken (n - v) (words b) at t lim (omega arith) e ∙ sym i

  pub step_laid : (s h : ℕ) → Some s ≡ fit_at (words b) at lim → h ≡ get_or (words b) at 0 → v < n → lim ≤ length b / 4
      → x ≡ laid_from (n - (v + 1)) (words b) (at + s) (t + h / 256) lim
  step_laid s h e r p l =
      let k : n - v - 1 ≡ n - (v + 1) = omega arith in
      i ∙ laid_step (n - v) (words b) at t lim s h (omega arith) e r (omega (arith, length_words b)) ∙ ap (λ (j : ℕ). laid_from j (words b) (at + s) (t + h / 256) lim) k

pub start_laid : (ws : List ℕ) (n lim : ℕ) → laid_from n ws 0 0 lim ≡ laid_from (n - 0) ws 0 0 lim
start_laid ws n lim = ap (λ (k : ℕ). laid_from k ws 0 0 lim) (sym (sub-zero n))

module _ (b : List ℕ) (at lim s : ℕ) (e : Some s ≡ fit_at (words b) at lim) where
  pub ends_fit : at + s ≤ lim
  ends_fit = (fit_good (words b) at lim s e).ends

  pub inside_fit : lim ≤ length b / 4 → at < length b / 4
  inside_fit l = let g = fit_good (words b) at lim s e in omega (arith, g.size, size_pos (words b) at)

  pub count_fit : (h t : ℕ) → h ≡ get_or (words b) at 0 → t ≤ at → t + h / 256 ≤ at + s
  count_fit h t r l = let q = fit_count (words b) at lim s h (fit_good (words b) at lim s e) r in omega arith

  pub fits_at : Fits w64 lim → Fits w64 (at + s)
  fits_at f = let q = ends_fit in record { fits = omega arith }

  pub fits_ins : (h t : ℕ) → h ≡ get_or (words b) at 0 → t ≤ at → Fits w64 lim → Fits w64 (t + h / 256)
  fits_ins h t r l f = let q = count_fit h t r l in let u = ends_fit in record { fits = omega arith }

pub ruleset layouts = (start_laid, done_laid, off_laid, broken_laid, step_laid, ends_fit, inside_fit, count_fit, fits_at, fits_ins)

-- ---- a walk that counts up to n, at record v: where it ends, and what that says of the record at hand

end_step : (j : ℕ) (ws : List ℕ) (at h s : ℕ) → h ≡ get_or ws at 0 → s ≡ size_of h → end_from (suc j) ws at ≡ end_from j ws (at + s)
unfolding end_from
end_step j ws at h s e z = simp (z, ← size_is ws at h e)

end_done : (ws : List ℕ) (at : ℕ) → end_from 0 ws at ≡ at
unfolding end_from
end_done ws at = refl

-- a record has its header and its inputs
size_covers : (h : ℕ) → h / 256 < size_of h
unfolding size_of
size_covers h = omega arith

pub walk_start : (b : List ℕ) (n : ℕ) → end_from (n - 0) (words b) 0 ≡ end_from n (words b) 0
walk_start b n = ap (λ (k : ℕ). end_from k (words b) 0) (sub-zero n)

-- the equation with m is an invariant's
module _ (b : List ℕ) (n v at m : ℕ) (inv : end_from (n - v) (words b) at ≡ m) where
  pub walk_here : n ≤ v → at ≡ m
  walk_here l =
      let z : n - v ≡ 0 = omega arith in
      sym (end_done (words b) at) ∙ ap (λ (k : ℕ). end_from k (words b) at) (sym z) ∙ inv

  module _ (p : v < n) where
    left : n - v ≡ suc (n - (v + 1))
    left = omega arith

    module _ (h : ℕ) (e : h ≡ get_or (words b) at 0) where
      pub walk_step : (s : ℕ) → s ≡ size_of h → end_from (n - (v + 1)) (words b) (at + s) ≡ m
      walk_step s z =
          sym (end_step (n - (v + 1)) (words b) at h s e z) ∙ ap (λ (k : ℕ). end_from k (words b) at) (sym left) ∙ inv

      covers : at + size_of h ≤ m
      covers = omega (arith, walk_step (size_of h) refl, end_le (n - (v + 1)) (words b) (at + size_of h))

      module _ (l : m ≤ length b / 4) where
        pub walk_ins : at + 1 + h / 256 ≤ length b / 4
        walk_ins = omega (arith, covers, size_covers h)

        pub walk_next : length b < 2 ^ 64 → Fits w64 (at + 1)
        walk_next w = record { fits = omega (arith, covers, size_covers h) }

        pub walk_fits : (s : ℕ) → s ≡ size_of h → length b < 2 ^ 64 → Fits w64 (at + s)
        walk_fits s z w = record { fits = omega (arith, covers) }

    pub walk_inside : m ≤ length b / 4 → at < length b / 4
    walk_inside l = omega (arith, covers (get_or (words b) at 0) refl, size_covers (get_or (words b) at 0))

pub ruleset walks = (walk_start, walk_here, walk_inside, walk_step, walk_ins, walk_next, walk_fits)
