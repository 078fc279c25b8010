-- What falls from call to call. Inversions left, of the select before the last input.
use Rattle.mux_gate.proofs.Turns.{mux_left}
use Rattle.mux_gate.proofs.+make_mux.Given as goal

abbrev pub decreases-make_mux : goal.decreases-make_mux
decreases-make_mux l = mux_left l.s.a l.b.a
