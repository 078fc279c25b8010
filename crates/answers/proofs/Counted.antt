-- What `number` and `length` say of an answer: it is as document 01 counts it. And of a result that is refused with a number itself.
use mathlib.Core.Path.{◌≡◌, refl}
use Prim.Native.Nat.{ℕ}
use Rattle.std.specs.Prelude.{Result, Ok, Err}
use Rattle.refusals.specs.Numbers.{number, numbered}
use Rattle.refusals.specs.declared.Refusal.{Refusal}
use Rattle.answers.specs.Numbers.{number_of, IsNumberOf, length_of}

pub number_numbered : (a : Result ℕ Refusal) (n : ℕ) → IsNumberOf (λ e k. k ≡ number e) a n → n ≡ number_of (numbered a)
number_numbered (Ok len) n h = h
number_numbered (Err e) n h = h

pub number_itself : (a : Result ℕ ℕ) (n : ℕ) → IsNumberOf (λ e k. k ≡ e) a n → n ≡ number_of a
number_itself (Ok len) n h = h
number_itself (Err e) n h = h

pub length_numbered : (a : Result ℕ Refusal) → length_of a ≡ length_of (numbered a)
length_numbered (Ok len) = refl
length_numbered (Err e) = refl
