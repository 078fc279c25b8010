-- `cleanup_pass`: each need by its law.
use borrow.Author.Rules.{rules}
use Rattle.network_passes.proofs.Passing.{passes, cleanup_written}
use Rattle.network_passes.proofs.cleanup_pass.Goals as goal

pub cleanup-d-requires : goal.cleanup-d-requires
cleanup-d-requires c = search (rules, passes)

pub write_mapped-requires : goal.write_mapped-requires
write_mapped-requires c = search (rules, passes)

pub shape_of-to : goal.shape_of-to
shape_of-to c = search (rules, passes)

pub shape_of-out : goal.shape_of-out
shape_of-out c = search (rules, passes)

pub shape_of-map : goal.shape_of-map
shape_of-map c = search (rules, passes)

pub returns : goal.returns
returns c = cleanup_written _ _ _ c.requires _ _ c.cleanup-d.ensures _ _ _ _ _ c.write_mapped.ensures
