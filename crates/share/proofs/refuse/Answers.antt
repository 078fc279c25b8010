-- `refuse`: what is shown, from its three parts.
use borrow.Author.Rules.{rules}
use native.Mathlib.Omega.{arith}
use Rattle.text_parts.proofs.Puts.{put_back}
use Rattle.share.proofs.Shows.{refused_wrote, refused_shown}
use Rattle.share.proofs.refuse.Goals as goal

pub returns : goal.returns
returns c = refused_shown _ (omega arith) (omega arith)
    (put_back (refused_wrote _ c.put_all.ensures (rw (← c.from.ensures) c.put_number.ensures) c.put.ensures) (search rules))
