-- `merge_gate`: each need by its law.
use mathlib.Core.Path.{refl}
use Rattle.flatten_gate.proofs.Gated.{merge_count, merge_done, merge_from, merge_full}
use Rattle.flatten_gate.proofs.merge_gate.Goals as goal

pub returns-in_err-end : goal.returns-in_err-end
returns-in_err-end c = rw c.from_residual.ensures (merge_full _ _ _ _ _ _ c.requires _ _ c.in_err-end.ensures refl)

pub overflow_sub-end : goal.overflow_sub-end
overflow_sub-end c = merge_from _ _ _ _ _ _ c.requires _ _ c.in_ok-end.ensures _ refl

pub overflow_cast-end : goal.overflow_cast-end
overflow_cast-end c = merge_count _ _ _ _ _ _ c.requires _ _ c.in_ok-end.ensures _ refl

pub returns : goal.returns
returns c = merge_done _ _ _ _ _ _ c.requires _ _ c.in_ok-end.ensures _ refl _ _ _ _ c.wide.ensures c.from.ensures c.put_gate.ensures c.put_table.ensures
