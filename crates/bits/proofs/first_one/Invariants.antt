use Prim.Native.Nat.{◌+◌, ◌*◌, max}
use mathlib.Core.Path.{◌≡◌}
use lib.ListN.{drop}
use Rattle.bits.specs.Bits.{spread, leading}
use Rattle.bits.proofs.first_one.Given as goal

-- The bits from the first place up to word k are zeros.
abbrev pub invariant-loop-k : goal.invariant-loop-k
invariant-loop-k l =
    l.from + leading (drop l.from (spread 64 l.whole)) ≡ max l.from (64 * l.k) + leading (drop (max l.from (64 * l.k)) (spread 64 l.whole))
