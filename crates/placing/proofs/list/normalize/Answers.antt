-- `normalize`: each need by its law.
use Rattle.gates.specs.Normals.{normal_of}
use Rattle.placing.proofs.list.normalize.Goals as goal

pub returns-then-canonical : goal.returns-then-canonical
returns-then-canonical c = rw c.if-canonical.true c.make_canonical.ensures

pub returns : goal.returns
unfolding normal_of
returns c = rw c.if-canonical.false
