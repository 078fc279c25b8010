-- `size_of`: each need by its law.
use native.Mathlib.Omega.{arith}
use borrow.Author.Tests.{eq-eqb, ne_eqb}
use Rattle.records.specs.Layouts.{size_of}
use Rattle.records.proofs.size_of.Goals as goal

pub returns-then-h : goal.returns-then-h
unfolding size_of
returns-then-h c = simp (eq-eqb _ _ c.if-h.true) (omega arith)

pub returns-else-h : goal.returns-else-h
unfolding size_of
returns-else-h c = simp (ne_eqb _ _ c.if-h.false) (omega arith)
