-- What falls from call to call. The number falls.
use Rattle.listing.proofs.text.+put_number.Given as goal

abbrev pub decreases-put_number : goal.decreases-put_number
decreases-put_number l = l.n
