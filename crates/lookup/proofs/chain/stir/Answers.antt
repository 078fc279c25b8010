-- `stir`: each need by its law.
use Rattle.lookup.specs.Chains.{stir}
use Rattle.lookup.proofs.chain.stir.Goals as goal

pub returns : goal.returns
unfolding stir
returns c = cc
