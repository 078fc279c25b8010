-- `table_ok`: each need by its law.
use native.Mathlib.Omega.{arith}
use Rattle.records.proofs.Fits.{table_low, table_five, table_six, table_high}
use Rattle.records.proofs.table_ok.Goals as goal

pub returns-then-n-eq6 : goal.returns-then-n-eq6
returns-then-n-eq6 c = table_six _ _ _ (omega arith) (omega arith) (omega arith)

pub returns-then-hi-ne0 : goal.returns-then-hi-ne0
returns-then-hi-ne0 c = table_high _ _ _ (omega arith) (omega arith)

pub returns-in-0 : goal.returns-in-0
returns-in-0 c = table_low _ _ _ 0 (omega arith) (omega arith)

pub returns-in-1 : goal.returns-in-1
returns-in-1 c = table_low _ _ _ 1 (omega arith) (omega arith)

pub returns-in-2 : goal.returns-in-2
returns-in-2 c = table_low _ _ _ 2 (omega arith) (omega arith)

pub returns-in-3 : goal.returns-in-3
returns-in-3 c = table_low _ _ _ 3 (omega arith) (omega arith)

pub returns-in-4 : goal.returns-in-4
returns-in-4 c = table_low _ _ _ 4 (omega arith) (omega arith)

pub returns-in_default : goal.returns-in_default
returns-in_default c = table_five _ _ _ (omega arith) (omega arith) (omega arith)
