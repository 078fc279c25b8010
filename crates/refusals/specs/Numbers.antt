-- Document 01's numbers: of a refusal, and of a result that may be one.
use Rattle.std.specs.Prelude.{ℕ, zero, suc, Result, Ok, Err}
use Rattle.refusals.specs.declared.Refusal.{Refusal}
use Rattle.refusals.specs.declared.Refusal.TheVariants.{Areas, Frame, Limits, Layout, GateInputs, Absent, Unsorted, Looped, Repeated, Flattened, Pairs, Grown, Room, Bytes}

-- the table's numbers
abbrev pub number : Refusal → ℕ
number Areas = 1
number Frame = 2
number Limits = 3
number Layout = 4
number GateInputs = 5
number Absent = 6
number Unsorted = 7
number Looped = 8
number Repeated = 9
number Flattened = 10
number Pairs = 11
number Grown = 12
number Room = 13
number Bytes = 14

-- a result as document 01 counts it: the refusal by its number
abbrev pub numbered : {A : Type 0} → Result A Refusal → Result A ℕ
numbered (Ok a) = Ok a
numbered (Err e) = Err (number e)

-- refused with a number, unless it is 0
abbrev pub unless : {A : Type 0} → ℕ → A → Result A ℕ
unless zero a = Ok a
unless (suc n) a = Err (suc n)
