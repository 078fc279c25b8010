-- A pass that 11 and 12 let in, and factor as a whole: the result is valid and sorted.
use Prim.Native.Nat.{◌≤◌}
use mathlib.Core.Path.{◌≡◌}
use mathlib.Core.Bool.{true}
use native.Mathlib.Omega.{arith}
use native.Mathlib.Decide.{dec_lt}
use lib.ListN.{length}
use lib.Dec.{eqb}
use borrow.Author.Tests.{eqb-false, eqb-true}
use Rattle.model.specs.Gate.{Net, Valid, is_topo_sorted}
use Rattle.model.specs.Network.{sorts, topo_sort}
use Rattle.model.specs.Normal.{make_canonical}
use Rattle.model.specs.Sharing.{factor_gates, factor_nary, factor_refusal, grown, pair_places, pass_refusal}
use Rattle.shape.specs.Room.{room_of}
use Rattle.laws.proofs.Choices.{by_bool}
use Rattle.shape.proofs.Dedup.{dedup_sorted, dedup_valid}
use Rattle.shape.proofs.DedupNormal.{canonical_law}
use Rattle.shape.proofs.FactoringGrown.{ended, refusal_pairs, refusal_room, valid_grown}
use Rattle.shape.proofs.FactoringRank.{grown_sorts}
use Rattle.shape.proofs.Sort.{sort_sorted, sort_valid}
use Rattle.kinds.specs.declared.Family.{Family}
use Rattle.kinds.specs.declared.Family.TheVariants.{And, Xor}

-- what is not refused has room
pub pass_room : (f : Family) (N : Net) → Valid N → pass_refusal f N ≡ 0 → length (ended f N).built ≤ room_of f N.nodes
pass_room f N ok none = elim (dec_lt 4096 (pair_places f N)) [
  | yes h ↦ absurd (omega (arith, refusal_pairs f N ok.nodes_few ok.ins_few h))
  | no h ↦ elim (dec_lt (room_of f N.nodes) (length (ended f N).built)) [
    | yes k ↦ absurd (omega (arith, refusal_room f N ok.nodes_few ok.ins_few (omega arith) k))
    | no k ↦ omega arith
  ]
]

module _ (f : Family) (N : Net) (ok : Valid N) (sorted : is_topo_sorted N ≡ true) (none : pass_refusal f N ≡ 0) where
  -- 8 cannot be met
  pub pass_sorts : sorts (grown f N) ≡ true
  pass_sorts = grown_sorts f N ok sorted (pass_room f N ok none)

  pub pass_grown : Valid (grown f N)
  pass_grown = valid_grown f N ok (pass_room f N ok none)

  pub pass_source : Valid (topo_sort (grown f N))
  pass_source = sort_valid (grown f N) pass_grown pass_sorts

  pub pass_valid : Valid (factor_gates f N)
  unfolding factor_gates
  pass_valid = dedup_valid make_canonical canonical_law (topo_sort (grown f N)) pass_source (sort_sorted (grown f N) pass_grown pass_sorts)

  pub pass_sorted : is_topo_sorted (factor_gates f N) ≡ true
  unfolding factor_gates
  pass_sorted = dedup_sorted make_canonical canonical_law (topo_sort (grown f N)) pass_source (sort_sorted (grown f N) pass_grown pass_sorts)

-- ---- factor: the And pass, then the Xor pass

pub factor_refusals : (N : Net) → factor_refusal N ≡ 0 → (pass_refusal And N ≡ 0) × (pass_refusal Xor (factor_gates And N) ≡ 0)
unfolding factor_refusal
factor_refusals N h = by_bool (eqb (pass_refusal And N) 0)
    (λ e. (eqb-true _ _ e, rw e at h))
    (λ e. absurd (eqb-false _ _ e (rw e at h)))

module _ (N : Net) (ok : Valid N) (sorted : is_topo_sorted N ≡ true) (none : factor_refusal N ≡ 0) where
  and_none : pass_refusal And N ≡ 0
  and_none = (factor_refusals N none).0

  pub factor_valid : Valid (factor_nary N)
  unfolding factor_nary
  factor_valid = pass_valid Xor (factor_gates And N) (pass_valid And N ok sorted and_none) (pass_sorted And N ok sorted and_none) (factor_refusals N none).1

  pub factor_sorted : is_topo_sorted (factor_nary N) ≡ true
  unfolding factor_nary
  factor_sorted = pass_sorted Xor (factor_gates And N) (pass_valid And N ok sorted and_none) (pass_sorted And N ok sorted and_none) (factor_refusals N none).1
