-- What falls from call to call: the inversion of the least signal.
use Rattle.maj_gate.proofs.Turns.{maj_left}
use Rattle.maj_gate.proofs.+make_maj.Given as goal

abbrev pub decreases-make_maj : goal.decreases-make_maj
decreases-make_maj l = maj_left l.a.a l.b.a l.c.a
