use Rattle.bits.specs.Bits.{spread, cleared}
use Rattle.bits.proofs.Cutting.{Filled}
use Rattle.lab.proofs.run.margin.Given as goal

-- The loop's invariant: the words so far are those of the cut.
abbrev pub invariant-loop-k : goal.invariant-loop-k
invariant-loop-k g l = Filled 64 64 g.row.M (cleared l.end (spread 8 l.bytes)) l.k l.word-items
