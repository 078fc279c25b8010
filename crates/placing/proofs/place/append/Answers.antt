-- `append`: each need by its law.
use mathlib.Core.Path.{refl}
use Rattle.placing.proofs.Standing.{appended}
use Rattle.placing.proofs.place.append.Goals as goal

pub returns : goal.returns
returns c = appended _ _ _ _ _ c.args.b _ c.args.g _ c.append_inputs.ensures c.put_gate.ensures c.put_table.ensures c.join.ensures refl refl
