-- The buffer is filled from the front.
use Rattle.flip_flops.proofs.Filling.{Filled}
use Rattle.evaluate.specs.Passes.{output_byte}
use Rattle.evaluate.proofs.passes.put_outputs.Given as goal

abbrev pub invariant-loop-j : goal.invariant-loop-j
invariant-loop-j l = Filled (output_byte l.from l.to) l.initial.outputs l.outputs l.j l.o
