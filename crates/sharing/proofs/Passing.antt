-- The work of flatten, factor and share: what was loaded, what refuses a stage, and what is written of the last.
use mathlib.Core.Path.{◌≡◌, refl, sym, ap}
use mathlib.Core.Bool.{cond}
use mathlib.Core.List.{List, []}
use Prim.Native.Nat.{ℕ}
use native.Mathlib.Omega.{arith}
use lib.ListN.{length}
use lib.Dec.{eqb}
use borrow.Author.Tests.{ne_eqb}
use Rattle.std.specs.Prelude.{Result, Ok, Err}
use Rattle.refusals.specs.Numbers.{number, numbered, unless as given}
use Rattle.refusals.specs.declared.Refusal.{Refusal}
use Rattle.refusals.proofs.Numbers.{number_above, unless_ok_number, unless_err}
use Rattle.laws.proofs.Choices.{by_bool}
use Rattle.model.specs.Gate.{Net}
use Rattle.model.specs.Sharing.{flatten_nary, factor_nary, factor_refusal, any_repeats, share_logic}
use Rattle.model.specs.Image.{sorted_refusal_of, net_of, image_of}
use Rattle.model.specs.Answers.{Answer, Outcome, written, in_room, unless}
use Rattle.shape.proofs.Accepted.{accepted_sorted}
use Rattle.tables.specs.Layout.{nodes_of, net_of as tables_of}
use Rattle.tables.specs.Holding.{network_of}
use Rattle.tables.specs.Working.{Areas, Answered}
use Rattle.tables.specs.declared.counts.Counts.{Counts}
use Rattle.load.specs.Images.{Read}
use Rattle.load.proofs.Loading.{refused_is, network_passes, network_holds, network_is}
use Rattle.repeats.specs.Reading.{Nodes, repeats_refusal}
use Rattle.repeats.proofs.Searched.{held_nodes}
use Rattle.stages.specs.Stages.{Workable, Left, Staged, first_met, flat_refusal, share_refusal}
use Rattle.stages.proofs.Staging.{staged_passes, staged_number, next_leaves}
use Rattle.sharing.specs.Works.{imaged, flatten_pass, factor_pass, share_pass, imaged_work}

-- ---- the passes by their numbers and their networks

-- the first number met refuses
first_refuses : (j k : ℕ) (o : Outcome) → unless (first_met j k) o ≡ unless j (unless k o)
unfolding unless
first_refuses j k o = by_bool (eqb j 0) (λ e. rw e) (λ e. rw (e, e))

-- the number of each pass
abbrev pub flatten_number : ℕ → Net → ℕ
flatten_number limit N = flat_refusal N limit

abbrev pub factor_number : Net → ℕ
factor_number N = first_met (cond (any_repeats N.nodes) 9 0) (factor_refusal N)

abbrev pub share_number : ℕ → Net → ℕ
share_number limit N = share_refusal N limit

pub flatten_is : (limit : ℕ) (N : Net) → flatten_pass limit N ≡ imaged (flatten_number limit N) (flatten_nary N limit)
unfolding flatten_pass
flatten_is limit N = refl

pub factor_is : (N : Net) → factor_pass N ≡ imaged (factor_number N) (factor_nary N)
unfolding factor_pass
factor_is N = sym (first_refuses (cond (any_repeats N.nodes) 9 0) (factor_refusal N) (written (image_of (factor_nary N)) []))

pub share_is : (limit : ℕ) (N : Net) → share_pass limit N ≡ imaged (share_number limit N) (share_logic N limit)
unfolding share_pass share_refusal
share_is limit N = sym (first_refuses (flat_refusal N limit) (factor_refusal (flatten_nary N limit)) (written (image_of (share_logic N limit)) []))

-- ---- the work

module _ (pass : Net → Outcome) (img l out : List ℕ) where
  -- refused by the image
  pub work_refused : (e : Refusal) → Read (sorted_refusal_of img) img l (Err e) → (r : Result ℕ Refusal) (x : Refusal) → r ≡ Err x → x ≡ e
      → Answered (imaged_work pass img (length out)) out (numbered r) out
  unfolding imaged_work
  work_refused e R r x p q =
      let z = refused_is (sorted_refusal_of img) img l (Err e) R e refl (pass (net_of img)) in rw (p, q, z) (record { answer = refl; result = refl })

  module _ (c : Counts) (R : Read (sorted_refusal_of img) img l (Ok c)) (k : Net → ℕ) (F : Net → Net) (is : (N : Net) → pass N ≡ imaged (k N) (F N)) where
    abbrev N : Net
    N = network_of l c

    work_is : imaged_work pass img (length out) ≡ in_room (length out) 0 (imaged (k N) (F N))
    unfolding imaged_work
    work_is =
        let n : N ≡ net_of img = (network_holds (sorted_refusal_of img) img l (Ok c) R c refl).net in
        rw (network_is (sorted_refusal_of img) img l (Ok c) R c refl (pass (net_of img)), ← n) (ap (in_room (length out) 0) (is N))

    -- refused by a stage
    pub stage_refused : (e : Refusal) → k N ≡ number e → (r : Result ℕ Refusal) (x : Refusal) → r ≡ Err x → x ≡ e
        → Answered (imaged_work pass img (length out)) out (numbered r) out
    unfolding unless
    stage_refused e z r x p q =
        let h = number_above e in
        rw (p, q, work_is, z, ne_eqb (number e) 0 (λ w. omega arith)) (record { answer = refl; result = refl })

    -- and what is written of the last
    pub stage_written : (m : List ℕ) (d : Counts) → Staged (k N) (F N) m (Ok d) → (r : Answer) (out' : List ℕ)
        → Answered (in_room (length out) 0 (written (image_of (network_of m d)) [])) out r out' → Answered (imaged_work pass img (length out)) out r out'
    unfolding unless
    stage_written m d S r out' A =
        let z = staged_passes (k N) (F N) m d S in
        let n : network_of m d ≡ F N = rw z.1 (S.left z.0).holds.net in
        rw (work_is, z.0, ← n) A

-- what a stage's network is held in
pub stage_held : (k : ℕ) (N : Net) (m : List ℕ) (d : Counts) → Staged k N m (Ok d) → Left N m d
stage_held k N m d S = let z = staged_passes k N m d S in rw z.1 (S.left z.0)

pub work_asks : (img a b l : List ℕ) → Areas a b → length l ≡ length a → (c : Counts) → Read (sorted_refusal_of img) img l (Ok c) → Workable l b c
work_asks img a b l A e c R =
    let H = network_holds (sorted_refusal_of img) img l (Ok c) R c refl in
    record {
      held = H.held;
      sorted = rw H.net (accepted_sorted img (network_passes (sorted_refusal_of img) img l (Ok c) R c refl));
      long_from = rw e A.long_a;
      long_to = A.long_b;
    }

-- ---- share: flatten's number first, then factor's

module _ (N : Net) (limit : ℕ) (m : List ℕ) where
  pub share_first : (e : Refusal) → Staged (flat_refusal N limit) (flatten_nary N limit) m (Err e) → share_refusal N limit ≡ number e
  unfolding share_refusal
  share_first e S =
      let z = staged_number _ _ m e S in
      let h = number_above e in
      rw (z, ne_eqb (number e) 0 (λ w. omega arith))

  pub share_left : (d : Counts) → Staged (flat_refusal N limit) (flatten_nary N limit) m (Ok d) → (l : List ℕ) (s : Result Counts Refusal)
      → Staged (factor_refusal (network_of m d)) (factor_nary (network_of m d)) l s → Staged (share_refusal N limit) (share_logic N limit) l s
  unfolding share_refusal share_logic
  share_left d S l s T = next_leaves _ _ m d S factor_refusal factor_nary l s T

-- ---- factor: 9 first

module _ (from : List ℕ) (c : Counts) where
  repeats_is : repeats_refusal (nodes_of from c.nodes) ≡ cond (any_repeats (network_of from c).nodes) 9 0
  unfolding network_of tables_of repeats_refusal
  repeats_is = refl

  pub factor_repeats : (e : Refusal) → ◌≡◌ {A = Result (Unit {0}) ℕ} (Err (number e)) (given (repeats_refusal (nodes_of from c.nodes)) tt) → factor_number (network_of from c) ≡ number e
  factor_repeats e q =
      let z = unless_err {A = Unit {0}} (Err e) (repeats_refusal (nodes_of from c.nodes)) tt e q refl in
      let h = number_above e in
      rw (← repeats_is, ← z, ne_eqb (number e) 0 (λ w. omega arith))

  pub factor_left : ◌≡◌ {A = Result (Unit {0}) ℕ} (Ok tt) (given (repeats_refusal (nodes_of from c.nodes)) tt) → factor_number (network_of from c) ≡ factor_refusal (network_of from c)
  factor_left q =
      let z = unless_ok_number {A = Unit {0}} (Ok tt) (repeats_refusal (nodes_of from c.nodes)) tt tt q refl in
      rw (← repeats_is, z)

  pub factor_staged : ◌≡◌ {A = Result (Unit {0}) ℕ} (Ok tt) (given (repeats_refusal (nodes_of from c.nodes)) tt) → (l : List ℕ) (s : Result Counts Refusal)
      → Staged (factor_refusal (network_of from c)) (factor_nary (network_of from c)) l s → Staged (factor_number (network_of from c)) (factor_nary (network_of from c)) l s
  factor_staged q l s S = rw (factor_left q) S

pub workable_nodes : (a b : List ℕ) (c : Counts) → Workable a b c → Nodes a c.nodes
workable_nodes a b c W = held_nodes a c W.held
