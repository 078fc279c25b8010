-- `print_all`: what is left falls.
use lib.ListN.{length}
use Rattle.normal_forms.proofs.print_all.Given as goal

abbrev pub decreases-loop-size : goal.decreases-loop-size
decreases-loop-size g l = length l.rest
