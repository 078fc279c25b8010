-- `bucket`: each need by its law.
use native.Mathlib.Omega.{arith}
use Rattle.lookup.proofs.Chains.{stirred_small, bucket_listed}
use Rattle.lookup.proofs.chain.bucket.Goals as goal

pub stir-requires : goal.stir-requires
stir-requires c = rw c.stir_inputs.ensures (stirred_small _ _ _ (omega arith))

pub returns : goal.returns
returns c = rw (c.stir.ensures, c.stir_inputs.ensures) (bucket_listed _ _)
