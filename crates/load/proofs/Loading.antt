-- What `load` answered, for the work of an entry: k is the number that refuses.
use mathlib.Core.Path.{◌≡◌}
use mathlib.Core.List.{List}
use Prim.Native.Nat.{ℕ}
use native.Mathlib.Omega.{arith}
use borrow.Author.Tests.{ne_eqb}
use Rattle.model.specs.Image.{net_of}
use Rattle.model.specs.Answers.{Outcome, refused, unless}
use Rattle.tables.specs.Holding.{Held, Holds}
use Rattle.tables.specs.declared.counts.Counts.{Counts}
use Rattle.std.specs.Prelude.{Result, Ok, Err}
use Rattle.refusals.specs.Numbers.{number}
use Rattle.refusals.specs.declared.Refusal.{Refusal}
use Rattle.refusals.proofs.Numbers.{number_above, unless_ok_number, unless_ok_value, unless_err}
use Rattle.load.specs.Images.{counts_of, Read}

module _ (k : ℕ) (img l : List ℕ) (x : Result Counts Refusal) (R : Read k img l x) where
  -- a number that refuses, and one that does not
  pub refused_is : (e : Refusal) → x ≡ Err e → (o : Outcome) → unless k o ≡ refused (number e)
  unfolding unless
  refused_is e q o =
      let n : number e ≡ k = unless_err x k (counts_of img) e R.answer q in
      rw (← n, ne_eqb (number e) 0 (λ z. omega (arith, number_above e)))

  module _ (c : Counts) (q : x ≡ Ok c) where
    pub network_passes : k ≡ 0
    network_passes = unless_ok_number x k (counts_of img) c R.answer q

    counts_are : c ≡ counts_of img
    counts_are = unless_ok_value x k (counts_of img) c R.answer q

    pub network_holds : Holds l c (net_of img)
    network_holds = rw counts_are (R.holds network_passes)

    pub network_held : Held l c
    network_held = network_holds.held

    pub network_is : (o : Outcome) → unless k o ≡ o
    unfolding unless
    network_is o = rw network_passes
