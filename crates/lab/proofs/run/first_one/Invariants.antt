use Rattle.std.proofs.Common.{◌≡◌, ◌+◌, drop}
use Rattle.bits.specs.Bits.{spread, cleared, leading}
use Rattle.lab.proofs.run.first_one.Given as goal

-- The loop's invariant: the bits from the first place up to this one are zeros.
abbrev pub invariant-loop-place : goal.invariant-loop-place
invariant-loop-place l =
    leading (cleared l.from (spread 8 l.bytes)) ≡ l.place + leading (drop l.place (spread 8 l.bytes))
