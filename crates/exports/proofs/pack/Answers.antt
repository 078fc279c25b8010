-- `pack`: each need by its law.
use Rattle.answers.proofs.Counted.{number_numbered, length_numbered}
use Rattle.exports.specs.Packed.{packed}
use Rattle.exports.proofs.pack.Goals as goal

pub returns : goal.returns
unfolding packed
returns c =
    let n = number_numbered _ _ c.number.ensures in
    let l = length_numbered c.args.a in cc
