use Rattle.rows.specs.Inner.Standing.{stand}
use Rattle.lists.proofs.Lines.{Sofar}
use Rattle.lists.proofs.list.read.Given as goal

abbrev pub invariant-loop-k : goal.invariant-loop-k
invariant-loop-k l = Sofar l.bytes l.n l.c l.words l.count l.list l.judged l.spent (stand l.last) l.k
