-- `place`: each need by its law.
use mathlib.Core.Path.{refl}
use Rattle.lookup.proofs.Chains.{bucket_small}
use Rattle.placing.proofs.Standing.{place_found, place_new}
use Rattle.placing.proofs.place.place.Goals as goal

pub append-more-requires : goal.append-more-requires
append-more-requires c = (c.requires, rw c.bucket-h.ensures (bucket_small _))

pub returns-in-Some : goal.returns-in-Some
returns-in-Some c = place_found _ _ _ c.requires _ _ _ c.find_gate.ensures c.in-Some.is refl refl

pub returns-in-None : goal.returns-in-None
returns-in-None c = place_new _ _ _ c.requires _ _ _ _ _ c.bucket-h.ensures c.find_gate.ensures c.in-None.is c.append-more.ensures refl refl
