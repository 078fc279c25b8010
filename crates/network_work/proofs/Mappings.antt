-- What all works share, behind the loading of the image.
use mathlib.Core.Path.{◌≡◌, refl}
use mathlib.Core.List.{List}
use Prim.Native.Nat.{ℕ, ◌≤◌}
use native.Mathlib.Omega.{arith}
use lib.ListN.{length}
use Rattle.model.specs.Answers.{Answer}
use Rattle.std.specs.Prelude.{Result, Ok, Err}
use Rattle.model.specs.Gate.{Net}
use Rattle.model.specs.Image.{net_of}
use Rattle.model.specs.Answers.{Outcome, in_room, unless}
use Rattle.load.specs.Images.{Read}
use Rattle.refusals.specs.Numbers.{numbered}
use Rattle.refusals.specs.declared.Refusal.{Refusal}
use Rattle.tables.specs.Holding.{network_of}
use Rattle.tables.specs.Working.{Answered2}
use Rattle.tables.specs.declared.counts.Counts.{Counts}
use Rattle.network_passes.specs.Passes.{Passable, passed}
use Rattle.load.proofs.Loading.{refused_is, network_holds, network_held, network_is}

module _ (k : ℕ) (img l : List ℕ) where
  -- refused, or what the pass makes of the image's network
  pub load_refused : (e : Refusal) → Read k img l (Err e) → (r : Result ℕ Refusal) (x : Refusal) → r ≡ Err x → x ≡ e → (o : Outcome) (out second : List ℕ)
      → Answered2 (in_room (length out) (length second) (unless k o)) out second (numbered r) out second
  load_refused e R r x p q o out second =
      let z = refused_is k img l (Err e) R e refl o in
      rw (p, q) (record { first = record { answer = rw z; result = rw z }; second_is = rw z })

  module _ (c : Counts) (R : Read k img l (Ok c)) where
    pub load_passable : (b : List ℕ) → 16384 ≤ length b → Passable l b c
    load_passable b h = record { held = network_held k img l (Ok c) R c refl; room = omega arith }

    pub load_passed : (pass : Net → Outcome) (out second : List ℕ) (r : Answer) (out' second' : List ℕ)
        → Answered2 (passed pass (network_of l c) (length out) (length second)) out second r out' second'
        → Answered2 (in_room (length out) (length second) (unless k (pass (net_of img)))) out second r out' second'
    load_passed pass out second r out' second' D =
        let z = network_is k img l (Ok c) R c refl (pass (net_of img)) in
        let e : network_of l c ≡ net_of img = (network_holds k img l (Ok c) R c refl).net in
        rw (z, ← e) D
