use Rattle.selection.specs.Eligible.{eligible}
use Rattle.selection.proofs.Choosing.{Comes}
use Rattle.selection.proofs.choose.Given as goal

abbrev pub invariant-loop-k : goal.invariant-loop-k
invariant-loop-k l = Comes (eligible l.day l.operator l.file) l.entry-items l.k l.best
