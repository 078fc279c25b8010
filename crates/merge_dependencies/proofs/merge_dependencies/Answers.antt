use native.Mathlib.Omega.{arith}
use mathlib.Core.Path.{refl}
use Rattle.merge_dependencies.proofs.Dependencies.{gather_becoming, gather_end, gather_full, gather_next}
use Rattle.merge_dependencies.proofs.merge_dependencies.Goals as goal

pub merge_one-requires : goal.merge_one-requires
merge_one-requires c = gather_becoming _ _ _ _ _ _ c.requires _ _ _ c.loop-j.invariant _ c.count_at-n.ensures c.loop-j-test.true _ c.first_at-first.ensures _ c.input_at-s.ensures _ (omega arith)

pub returns-in_err-at : goal.returns-in_err-at
returns-in_err-at c = rw c.from_residual.ensures (gather_full _ _ _ _ _ _ c.requires _ _ _ c.loop-j.invariant _ c.count_at-n.ensures c.loop-j-test.true _ c.first_at-first.ensures _ c.input_at-s.ensures _ _ c.in_err-at.ensures refl)

pub loop-j-preserved : goal.loop-j-preserved
loop-j-preserved c = gather_next _ _ _ _ _ _ c.requires _ _ _ c.loop-j.invariant _ c.count_at-n.ensures c.loop-j-test.true _ c.first_at-first.ensures _ c.input_at-s.ensures _ _ c.in_ok-at.ensures _ refl c.merge_one.auto.to

pub returns : goal.returns
returns c = gather_end _ _ _ _ _ _ c.requires _ _ _ c.loop-j.invariant _ c.count_at-n.ensures c.loop-j-test.false
