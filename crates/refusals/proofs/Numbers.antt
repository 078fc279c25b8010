-- Each refusal has a number of its own, none of them 0, so a result is known by what document 01 counts it as.
use mathlib.Core.Path.{◌≡◌, refl, sym, ap, ◌∙◌}
use Prim.Native.Nat.{ℕ, zero, suc, ◌<◌}
use native.Mathlib.Omega.{arith}
use Rattle.std.specs.Prelude.{Option, None, Result, Ok, Err}
use Rattle.std.specs.Option.{ok_or}
use Rattle.refusals.specs.Numbers.{number, numbered, unless}
use Rattle.refusals.specs.declared.Refusal.{Refusal}
use Rattle.refusals.specs.declared.Refusal.TheVariants.{Areas, Frame, Limits, Layout, GateInputs, Absent, Unsorted, Looped, Repeated, Flattened, Pairs, Grown, Room, Bytes}

pub number_above : (e : Refusal) → 0 < number e
number_above Areas = omega arith
number_above Frame = omega arith
number_above Limits = omega arith
number_above Layout = omega arith
number_above GateInputs = omega arith
number_above Absent = omega arith
number_above Unsorted = omega arith
number_above Looped = omega arith
number_above Repeated = omega arith
number_above Flattened = omega arith
number_above Pairs = omega arith
number_above Grown = omega arith
number_above Room = omega arith
number_above Bytes = omega arith

-- the refusal of a number
abbrev named : ℕ → Refusal
named zero = Areas
named (suc zero) = Areas
named (suc (suc zero)) = Frame
named (suc (suc (suc zero))) = Limits
named (suc (suc (suc (suc zero)))) = Layout
named (suc (suc (suc (suc (suc zero))))) = GateInputs
named (suc (suc (suc (suc (suc (suc zero)))))) = Absent
named (suc (suc (suc (suc (suc (suc (suc zero))))))) = Unsorted
named (suc (suc (suc (suc (suc (suc (suc (suc zero)))))))) = Looped
named (suc (suc (suc (suc (suc (suc (suc (suc (suc zero))))))))) = Repeated
named (suc (suc (suc (suc (suc (suc (suc (suc (suc (suc zero)))))))))) = Flattened
named (suc (suc (suc (suc (suc (suc (suc (suc (suc (suc (suc zero))))))))))) = Pairs
named (suc (suc (suc (suc (suc (suc (suc (suc (suc (suc (suc (suc zero)))))))))))) = Grown
named (suc (suc (suc (suc (suc (suc (suc (suc (suc (suc (suc (suc (suc zero))))))))))))) = Room
named (suc (suc (suc (suc (suc (suc (suc (suc (suc (suc (suc (suc (suc (suc n)))))))))))))) = Bytes

named_number : (e : Refusal) → named (number e) ≡ e
named_number Areas = refl
named_number Frame = refl
named_number Limits = refl
named_number Layout = refl
named_number GateInputs = refl
named_number Absent = refl
named_number Unsorted = refl
named_number Looped = refl
named_number Repeated = refl
named_number Flattened = refl
named_number Pairs = refl
named_number Grown = refl
named_number Room = refl
named_number Bytes = refl

pub same_number : (d e : Refusal) → number d ≡ number e → d ≡ e
same_number d e h = sym (named_number d) ∙ ap named h ∙ named_number e

module _ {A : Type 0} where
  abbrev renamed : Result A ℕ → Result A Refusal
  renamed (Ok a) = Ok a
  renamed (Err n) = Err (named n)

  renamed_numbered : (r : Result A Refusal) → renamed (numbered r) ≡ r
  renamed_numbered (Ok a) = refl
  renamed_numbered (Err e) = ap Err (named_number e)

  -- no second result is counted alike
  pub same_numbered : (r s : Result A Refusal) → numbered r ≡ numbered s → r ≡ s
  same_numbered r s h = sym (renamed_numbered r) ∙ ap renamed h ∙ renamed_numbered s

  pub numbered_ok : (r : Result A Refusal) (a : A) → numbered r ≡ Ok a → r ≡ Ok a
  numbered_ok r a h = same_numbered r (Ok a) h

  pub numbered_err : (r : Result A Refusal) (e : Refusal) → numbered r ≡ Err (number e) → r ≡ Err e
  numbered_err r e h = same_numbered r (Err e) h

  -- what a caller learns where it goes on, and where it passes a refusal up
  abbrev number_in : Result A ℕ → ℕ
  number_in (Ok a) = 0
  number_in (Err n) = n

  abbrev value_in : A → Result A ℕ → A
  value_in d (Ok a) = a
  value_in d (Err n) = d

  number_in_unless : (n : ℕ) (a : A) → number_in (unless n a) ≡ n
  number_in_unless zero a = refl
  number_in_unless (suc n) a = refl

  value_in_unless : (n : ℕ) (a : A) → value_in a (unless n a) ≡ a
  value_in_unless zero a = refl
  value_in_unless (suc n) a = refl

  pub unless_ok_number : (r : Result A Refusal) (n : ℕ) (a b : A) → numbered r ≡ unless n a → r ≡ Ok b → n ≡ 0
  unless_ok_number r n a b h e = sym (number_in_unless n a) ∙ ap number_in (sym h ∙ ap numbered e)

  pub unless_ok_value : (r : Result A Refusal) (n : ℕ) (a b : A) → numbered r ≡ unless n a → r ≡ Ok b → b ≡ a
  unless_ok_value r n a b h e = ap (value_in a) (sym (ap numbered e) ∙ h) ∙ value_in_unless n a

  pub unless_err : (r : Result A Refusal) (n : ℕ) (a : A) (e : Refusal) → numbered r ≡ unless n a → r ≡ Err e → number e ≡ n
  unless_err r n a e h q = ap number_in (sym (ap numbered q) ∙ h) ∙ number_in_unless n a

-- refused by the number of what was refused before: another value would be given, and is not
pub unless_number : {A : Type 0} (e : Refusal) (a : A) → unless (number e) a ≡ Err (number e)
unless_number Areas a = refl
unless_number Frame a = refl
unless_number Limits a = refl
unless_number Layout a = refl
unless_number GateInputs a = refl
unless_number Absent a = refl
unless_number Unsorted a = refl
unless_number Looped a = refl
unless_number Repeated a = refl
unless_number Flattened a = refl
unless_number Pairs a = refl
unless_number Grown a = refl
unless_number Room a = refl
unless_number Bytes a = refl

-- what `ok_or` and then `?` refuse with
pub refused_ok_or : {A T : Type 0} (o : Option T) (e d x : Refusal) (r : Result A Refusal) → Err d ≡ ok_or o e → o ≡ None → r ≡ Err x → x ≡ d → numbered r ≡ Err (number e)
refused_ok_or {A} {T} o e d x r v n p q =
    let w : ◌≡◌ {A = Result T Refusal} (Err d) (Err e) = v ∙ ap (λ (y : Option T). ok_or y e) n in
    let z : d ≡ e = cc in
    rw (p, q, z) refl
