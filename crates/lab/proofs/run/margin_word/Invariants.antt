use Rattle.std.proofs.Common.{◌≡◌}
use Rattle.bits.specs.Bits.{spread, cleared}
use Rattle.bits.proofs.Fronts.{part}
use Rattle.lab.proofs.run.margin_word.Given as goal

-- The loop's invariant: the number so far is that of the first k bits.
abbrev pub invariant-loop-k : goal.invariant-loop-k
invariant-loop-k l = l.word ≡ part l.k l.from (cleared l.end (spread 8 l.bytes))
