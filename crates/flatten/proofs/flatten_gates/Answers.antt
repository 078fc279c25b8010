-- `flatten_gates`: each need by its law.
use Rattle.std.proofs.lemmas.Result.{err_from_is_err_and}
use Rattle.flatten.proofs.Wholes.{whole_full, whole_outs, whole_long, whole_done}
use Rattle.flatten.proofs.flatten_gates.Goals as goal

pub returns-in_err-flatten_nodes : goal.returns-in_err-flatten_nodes
returns-in_err-flatten_nodes c =
    let p = err_from_is_err_and c.from_residual.result c.from_residual.ensures.1 in
    whole_full _ _ _ _ c.requires _ _ _ _ c.in_err-flatten_nodes.ensures p.1 p.2

pub copy_outputs-requires : goal.copy_outputs-requires
copy_outputs-requires c = (whole_outs _ _ _ c.args.limit c.requires, c.requires.held.long, whole_long _ _ _ c.args.limit c.requires _ c.flatten_nodes.auto.to)

pub returns : goal.returns
returns c = whole_done _ _ _ _ c.requires _ c.in_ok-flatten_nodes.ensures _ c.copy_outputs.ensures
