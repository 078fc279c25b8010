-- `ll_record_len`: each need by its law.
use Rattle.exports.proofs.ll_record_len.Goals as goal

pub returns : goal.returns
returns c = cc
