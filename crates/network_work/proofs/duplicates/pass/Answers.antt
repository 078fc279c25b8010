-- `pass`: each need by its law.
use borrow.Author.Rules.{rules}
use Rattle.network_work.proofs.Merging.{merges}
use Rattle.network_work.proofs.duplicates.pass.Goals as goal

pub dedup-d-requires : goal.dedup-d-requires
dedup-d-requires c = search (rules, merges)

pub write_mapped-requires : goal.write_mapped-requires
write_mapped-requires c = search (rules, merges)

pub shape_of-to : goal.shape_of-to
shape_of-to c = search (rules, merges)

pub shape_of-out : goal.shape_of-out
shape_of-out c = search (rules, merges)

pub shape_of-map : goal.shape_of-map
shape_of-map c = search (rules, merges)

pub returns : goal.returns
returns c = search (rules, merges)
