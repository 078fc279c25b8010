-- `put_table`: each need by its law.
use mathlib.Core.Path.{refl}
use lib.ListN.{length-set}
use native.Mathlib.Omega.{arith}
use Rattle.tables.specs.Layout.{put_table}
use Rattle.tables.proofs.layout.put_table.Goals as goal

pub bounds-net-v-2 : goal.bounds-net-v-2
bounds-net-v-2 c = simp length-set (omega arith)

pub returns : goal.returns
unfolding put_table
returns c = refl
