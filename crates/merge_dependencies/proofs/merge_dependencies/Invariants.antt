-- `merge_dependencies`: what its loop keeps, and each need by its law.
use Rattle.merge_dependencies.proofs.Dependencies.{Gathered}
use Rattle.merge_dependencies.proofs.merge_dependencies.Given as goal

abbrev pub invariant-loop-j : goal.invariant-loop-j
invariant-loop-j l = Gathered l.f l.from l.initial.to l.to l.v l.limit l.start l.at l.j
