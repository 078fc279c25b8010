-- `a if s, else b` by its table.
use Rattle.mux_and_lut.proofs.Choosing.{mux_is}
use Rattle.mux_and_lut.proofs.mux.Goals as goal

pub returns : goal.returns
returns c = rw (← c.value-s.ensures, ← c.value-a.ensures, ← c.value-b.ensures) (mux_is c.value-s.result c.value-a.result c.value-b.result)
