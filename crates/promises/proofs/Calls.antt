-- n cycles by n calls of evaluate are a run of the model: an invariant over calls, for every image, input list and start.
use mathlib.Core.Path.{◌≡◌, refl, sym, ap, ap₂, fun_ext, ◌∙◌}
use Prim.Native.Nat.{ℕ, ◌+◌, ◌-◌, ◌≤◌, ◌<◌}
use native.Mathlib.Omega.{arith}
use native.Mathlib.Decide.{dec_lt}
use mathlib.Core.Bool.{Bool, true, false, ◌&&◌}
use mathlib.Core.List.{List, [], ◌∷◌, ◌++◌, map}
use lib.ListN.{length, get_or, drop, replicate, length-append, length-drop, length-replicate, length-map, get_or-append, get_or-map}
use lib.Seq.{get_or-append-add, get_or-drop}
use lib.Dec.{eqb, ltb}
use borrow.Author.Tests.{eqb-true, ltb-false, le-ltb}
use Rattle.std.specs.Prelude.{Ok}
use Rattle.laws.specs.Bools.{bit}
use Rattle.laws.specs.Lists.{All}
use Rattle.laws.proofs.Bools.{or_left, or_right}
use Rattle.laws.proofs.Choices.{by_bool}
use Rattle.laws.proofs.Lists.{none_some}
use Rattle.laws.proofs.Tabs.{length_tab, get_or_tab}
use Rattle.model.specs.Gate.{Net, is_dff, gate_at, size}
use Rattle.model.specs.Image.{net_of, sorted_refusal_of}
use Rattle.model.specs.Evaluate.{at, outputs, next, run, truth, truths, cycle_values, output_bytes, state_byte, state_bytes, cycle_short, input_above, state_above, cycle_refusal}
use Rattle.model.specs.Answers.{Outcome, refused, written, evaluated, answer_of, laid_over, areas_short, cleared, area_after, in_areas, unless}
use Rattle.model.specs.Entries.{evaluated_of, cycle_outcome, evaluate_outcome, calls}
use Rattle.meaning.proofs.Runs.{beyond, next_beyond}

-- an outcome that answers 0, and the outputs' bytes that it gives
abbrev pub Good : Outcome → Type 0
Good o = answer_of o ≡ Ok 0

abbrev pub given : Outcome → List ℕ
given (refused n) = []
given (written image mapping) = image
given (evaluated outputs state) = outputs

-- ---- an accepted call

not_refused : {X : Type 0} (n : ℕ) → Good (refused n) → X
not_refused n e = let z : ◌≡◌ {A = ℕ} 0 1 = cc in absurd (omega arith)

areas_good : (a b : List ℕ) (o : Outcome) → Good (in_areas a b o) → (areas_short a b ≡ false) × Good o
unfolding in_areas
areas_good a b o g = by_bool (areas_short a b) (λ e. not_refused 1 (rw e at g)) (λ e. (e, rw e at g))

unless_good : (n : ℕ) (o : Outcome) → Good (unless n o) → (n ≡ 0) × Good o
unfolding unless
unless_good n o g = by_bool (eqb n 0) (λ e. (eqb-true n 0 e, rw e at g)) (λ e. not_refused n (rw e at g))

outcome_is : (img x state out a b : List ℕ) → areas_short a b ≡ false → sorted_refusal_of img ≡ 0 → cycle_refusal (net_of img) x state (length out) ≡ 0
    → evaluate_outcome img x state out a b ≡ evaluated_of (net_of img) x state
unfolding evaluate_outcome cycle_outcome in_areas unless
outcome_is img x state out a b p q r = rw (p, q, r)

pub accepted_is : (img x state out a b : List ℕ) → Good (evaluate_outcome img x state out a b)
    → evaluate_outcome img x state out a b ≡ evaluated_of (net_of img) x state
unfolding evaluate_outcome cycle_outcome
accepted_is img x state out a b g =
    let p = areas_good a b _ g in
    let q = unless_good (sorted_refusal_of img) _ p.1 in
    let r = unless_good (cycle_refusal (net_of img) x state (length out)) _ q.1 in
    outcome_is img x state out a b p.0 q.0 r.0

-- ---- the state's bytes after a call hold the next state

length_state_bytes : (N : Net) (x state : List ℕ) → length (state_bytes N x state) ≡ size N
unfolding state_bytes
length_state_bytes N x state = length_tab (state_byte N x state) (size N)

-- one of the nodes' bytes, and one past them
byte_at : (N : Net) (x state : List ℕ) (n : ℕ) → n < size N → get_or (laid_over (state_bytes N x state) state) n 0 ≡ state_byte N x state n
unfolding laid_over state_bytes
byte_at N x state n h =
    get_or-append (state_bytes N x state) _ 0 n (rw length_state_bytes h) ∙ get_or_tab (state_byte N x state) (size N) n 0 h

byte_past : (N : Net) (x state : List ℕ) (n : ℕ) → size N ≤ n → get_or (laid_over (state_bytes N x state) state) n 0 ≡ get_or state n 0
unfolding laid_over
byte_past N x state n h =
    let l = state_bytes N x state in
    let e : length l ≡ size N = length_state_bytes N x state in
    let k : n ≡ length l + (n - length l) = omega arith in
    ap (λ j. get_or (l ++ drop (length l) state) j 0) k
    ∙ get_or-append-add l (drop (length l) state) (n - length l) 0
    ∙ get_or-drop (length l) state (n - length l) 0
    ∙ ap (λ j. get_or state j 0) (sym k)

truth_bit : (b : Bool) → truth (bit b) ≡ b
truth_bit true = refl
truth_bit false = refl

pub state_next : (N : Net) (x state : List ℕ)
    → truths (laid_over (state_bytes N x state) state) ≡ next N (truths x) (cycle_values N x state) (truths state)
unfolding state_byte
state_next N x state = fun_ext (λ n. elim (dec_lt n (size N)) [
  | yes h ↦
      ap truth (byte_at N x state n h)
      ∙ by_bool (is_dff (gate_at N n))
      (λ e. rw e (truth_bit (next N (truths x) (cycle_values N x state) (truths state) n)))
      (λ e. rw (e, next_beyond N (truths x) (cycle_values N x state) (truths state) n e))
  | no h ↦ ap truth (byte_past N x state n (omega arith)) ∙ sym (next_beyond N (truths x) (cycle_values N x state) (truths state) n (beyond N n (omega arith)))
])

-- ---- calls

truths_at : (x : List ℕ) → at (map truth x) ≡ truths x
truths_at x = fun_ext (λ k. get_or-map truth x k 0)

-- N CYCLES BY N CALLS: whatever the image, the inputs and the start, as long as the calls are accepted their outputs' bytes are
-- the run of the image's network from the state that the bytes hold
pub calls_run : (img : List ℕ) (xs : List (List ℕ)) (state out a b : List ℕ) → All Good (calls img xs state out a b)
    → map given (calls img xs state out a b) ≡ map (map bit) (run (net_of img) (truths state) (map (map truth) xs))
unfolding calls evaluated_of output_bytes cycle_values
calls_run img [] state out a b g = refl
calls_run img (x ∷ xs) state out a b g =
    let N = net_of img in
    let e : evaluate_outcome img x state out a b ≡ evaluated_of N x state = accepted_is img x state out a b g.0 in
    let t : at (map truth x) ≡ truths x = truths_at x in
    let n : truths (laid_over (state_bytes N x state) state) ≡ next N (truths x) (cycle_values N x state) (truths state) = state_next N x state in
    ap₂ ◌∷◌ (rw (e, t)) (calls_run img xs _ _ _ _ g.1 ∙ rw (e, t, n))

-- ---- which calls are accepted: what the first needs, and of each vector its length and its bytes

pub record Fits (N : Net) (x : List ℕ) : Type 0 where
  pub long : N.inputs ≤ length x
  pub low : input_above N x ≡ false

pub record Starts (img state out a b : List ℕ) : Type 0 where
  pub areas : areas_short a b ≡ false
  pub image : sorted_refusal_of img ≡ 0
  pub room : length (net_of img).outs ≤ length out
  pub long : size (net_of img) ≤ length state
  pub low : state_above (net_of img) state ≡ false

accepts : (img x state out a b : List ℕ) → Starts img state out a b → Fits (net_of img) x
    → evaluate_outcome img x state out a b ≡ evaluated_of (net_of img) x state
unfolding cycle_refusal cycle_short
accepts img x state out a b s f =
    let N = net_of img in
    outcome_is img x state out a b s.areas s.image
    (rw (le-ltb (length out) (length N.outs) s.room, le-ltb (length x) N.inputs f.long, le-ltb (length state) (size N) s.long, f.low, s.low))

length_laid_over : (r l : List ℕ) → length r ≤ length l → length (laid_over r l) ≡ length l
unfolding laid_over
length_laid_over r l h = simp (length-append, length-drop) (omega arith)

length_filled : (n : ℕ) (l : List ℕ) → n ≤ length l → length (replicate n 0 ++ drop n l) ≡ length l
length_filled n l h = simp (length-append, length-replicate, length-drop) (omega arith)

length_cleared : (l : List ℕ) → 16384 ≤ length l → length (cleared l) ≡ length l
unfolding cleared
length_cleared l h = length_filled 16384 l h

-- areas that are long enough stay so
long_areas : (a b : List ℕ) → areas_short a b ≡ false → areas_short (area_after a b a) (area_after a b b) ≡ false
unfolding area_after areas_short
long_areas a b e =
    let p : length (cleared a) ≡ length a = length_cleared a (ltb-false (length a) 16384 (or_left _ _ e)) in
    let q : length (cleared b) ≡ length b = length_cleared b (ltb-false (length b) 16384 (or_right (ltb (length a) 16384) _ e)) in
    rw (e, p, q) e

-- the new state's bytes are low where they count
low_after : (N : Net) (x state : List ℕ) → state_above N (laid_over (state_bytes N x state) state) ≡ false
unfolding state_above state_byte
low_after N x state = none_some _ (size N) (λ n h. rw (byte_at N x state n h) (at_node n))
  where
    low_bit : (b : Bool) → ltb 1 (bit b) ≡ false
    low_bit true = refl
    low_bit false = refl

    at_node : (n : ℕ) → is_dff (gate_at N n) && ltb 1 (state_byte N x state n) ≡ false
    at_node n = by_bool (is_dff (gate_at N n)) (λ e. rw e (low_bit (next N (truths x) (cycle_values N x state) (truths state) n))) (λ e. rw e)

length_outputs : (N : Net) (x state : List ℕ) → length (output_bytes N x state) ≡ length N.outs
unfolding output_bytes outputs
length_outputs N x state = simp length-map

starts_again : (img x state out a b : List ℕ) → Starts img state out a b
    → Starts img (laid_over (state_bytes (net_of img) x state) state) (laid_over (output_bytes (net_of img) x state) out) (area_after a b a) (area_after a b b)
starts_again img x state out a b s =
    let N = net_of img in
    let p : length (output_bytes N x state) ≡ length N.outs = length_outputs N x state in
    let q : length (state_bytes N x state) ≡ size N = length_state_bytes N x state in
    let u : length (laid_over (output_bytes N x state) out) ≡ length out = length_laid_over (output_bytes N x state) out (let h = s.room in omega arith) in
    let v : length (laid_over (state_bytes N x state) state) ≡ length state = length_laid_over (state_bytes N x state) state (let h = s.long in omega arith) in
    record {
      areas = long_areas a b s.areas;
      image = s.image;
      room = rw u s.room;
      long = rw v s.long;
      low = low_after N x state;
    }

-- ALL CALLS ARE ACCEPTED where the first one's buffers, state and image are, and every vector fits
pub calls_accepted : (img : List ℕ) (xs : List (List ℕ)) (state out a b : List ℕ) → Starts img state out a b → All (Fits (net_of img)) xs
    → All Good (calls img xs state out a b)
unfolding calls evaluated_of
calls_accepted img [] state out a b s f = tt
calls_accepted img (x ∷ xs) state out a b s f =
    let e : evaluate_outcome img x state out a b ≡ evaluated_of (net_of img) x state = accepts img x state out a b s f.0 in
    rw e (refl, calls_accepted img xs _ _ _ _ (starts_again img x state out a b s) f.1)
