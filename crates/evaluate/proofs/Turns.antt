-- The turns of the loops of a cycle, with premises as the code meets them: one ruleset answers every need.
use mathlib.Core.Path.{◌≡◌, refl, ap, ◌∙◌}
use Prim.Native.Nat.{ℕ, ◌+◌, ◌≤◌, ◌<◌}
use native.Mathlib.Omega.{arith}
use native.Mathlib.Nat.{le_antisymm}
use native.Mathlib.Numerals.{add-one}
use mathlib.Core.Bool.{Bool}
use mathlib.Core.List.{List}
use lib.ListN.{length, set}
use mir.Val.{bool_byte}
use Rattle.laws.specs.Bools.{bit}
use Rattle.laws.specs.Lists.{tab}
use Rattle.laws.proofs.Tabs.{tab_ext}
use Rattle.model.specs.Answers.{laid_over}
use Rattle.tables.specs.Layout.{output_at, store}
use Rattle.tables.proofs.Places.{length_store}
use Rattle.tables.specs.declared.counts.Counts.{Counts}
use Rattle.signal_values.specs.Signals.{values_base, is_odd, value_at, Gated}
use Rattle.signal_values.proofs.Bits.{byte_bit}
use Rattle.values.specs.Values.{shown_at}
use Rattle.flip_flops.specs.Storing.{new_byte, Passing}
use Rattle.flip_flops.proofs.Filling.{Filled, filled_put, filled_none, filled_all}
use Rattle.evaluate.specs.Passes.{SameValues, forward_to, output_byte, Putting}
use Rattle.evaluate.specs.Cycle.{Ran}
use Rattle.evaluate.proofs.Same.{same_output, same_byte, same_more}

-- ---- the forward pass

pub record Forwarded (f st t₀ t : List ℕ) (v n : ℕ) : Type 0 where
  pub few : v ≤ n
  pub long : length t ≡ length t₀
  pub holds : SameValues t (forward_to f st t₀ v)

module _ (f st t₀ : List ℕ) where
  pub forwarded_none : (n : ℕ) → Forwarded f st t₀ t₀ 0 n
  unfolding forward_to
  forwarded_none n = record { few = omega arith; long = refl; holds = record { same = λ k. refl } }

  module _ (t : List ℕ) (v n : ℕ) (h : Forwarded f st t₀ t v n) where
    pub forwarded_room : v < n → Passing f t₀ st n → 4672 + (v + 1) < length t
    forwarded_room l p = let r = p.room in let s = p.few in rw h.long (omega arith)

    pub forwarded_state : v < n → Passing f t₀ st n → v < length st
    forwarded_state l p = let s = p.states in omega arith

    pub forwarded_more : (l : List ℕ) (x : ℕ) → Passing f t₀ st n → v < n → is_odd x ≡ shown_at f t st v → l ≡ store t values_base (v + 1) x → Forwarded f st t₀ l (v + 1) n
    forwarded_more l x p m s q = record {
      few = omega arith;
      long = rw (q, length_store) h.long;
      holds = rw add-one (same_more f st t₀ t l v x h.holds p.room h.long (let u = p.few in omega arith) s q);
    }

    pub forwarded_all : n ≤ v → SameValues t (forward_to f st t₀ n)
    forwarded_all m = let e : v ≡ n = le_antisymm h.few m in rw e at h.holds

-- ---- the outputs, and what the passes ask

pub output_goes : (f t out l : List ℕ) (j o s x : ℕ) (b : Bool) → Filled (output_byte f t) out l j o → j < o → s ≡ output_at f j → b ≡ value_at t s → x ≡ bool_byte b
    → Filled (output_byte f t) out (set l j x) (j + 1) o
unfolding output_byte
output_goes f t out l j o s x b h r p q e = filled_put (output_byte f t) out l j o x h r (e ∙ byte_bit b ∙ ap bit (q ∙ ap (value_at t) p))

pub gated_on : (f t t' : List ℕ) (v : ℕ) → Gated f t v → length t' ≡ length t → Gated f t' v
gated_on f t t' v h e =
    record { node = h.node; reads = record { long = h.reads.long; room = rw e h.reads.room; ends = h.reads.ends }; fits = h.fits }

pub passing_gated : (f t t' st : List ℕ) (v n : ℕ) → Passing f t st n → v < n → length t' ≡ length t → Gated f t' v
passing_gated f t t' st v n h l e = gated_on f t t' v (h.gates v l) e

pub passing_on : (f t t' st : List ℕ) (n : ℕ) → Passing f t st n → length t' ≡ length t → Passing f t' st n
passing_on f t t' st n h e =
    record { few = h.few; long = h.long; room = rw e h.room; gates = λ v l. gated_on f t t' v (h.gates v l) e; states = h.states }

pub putting_on : (f t t' out : List ℕ) (o : ℕ) → Putting f t out o → length t' ≡ length t → Putting f t' out o
putting_on f t t' out o h e = record { few = h.few; long = h.long; room = rw e h.room; outs = h.outs }

-- the passes one after the other
pub ran_is : (f t t' : List ℕ) (c : Counts) (st out st' out' : List ℕ) → SameValues t' (forward_to f st t c.nodes)
    → out' ≡ laid_over (tab (output_byte f t') c.outs) out → st' ≡ laid_over (tab (new_byte f t' st) c.nodes) st → Ran f t c st out st' out'
ran_is f t t' c st out st' out' p q r = record {
  outputs = q ∙ ap (λ l. laid_over l out) (tab_ext _ _ c.outs (λ j l. same_output f t' _ p j));
  states = r ∙ ap (λ l. laid_over l st) (tab_ext _ _ c.nodes (λ v l. same_byte f t' _ p st v));
}

pub ruleset turns = (forwarded_none, forwarded_room, forwarded_state, forwarded_more, forwarded_all, filled_none, filled_all, passing_gated, output_goes, passing_on, putting_on, ran_is)
