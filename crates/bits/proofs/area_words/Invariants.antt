use Prim.Native.Nat.{ℕ, ◌*◌, ◌<◌}
use mathlib.Core.Path.{◌≡◌}
use lib.ListN.{get_or}
use Rattle.bits.specs.Bits.{spread}
use Rattle.bits.proofs.Fronts.{part}
use Rattle.bits.proofs.area_words.Given as goal

-- The words so far are those of the cut.
abbrev pub invariant-loop-j : goal.invariant-loop-j
invariant-loop-j l = (k : ℕ) → k < l.j → get_or l.words k 0 ≡ part 64 (32 * k) (spread 8 l.bytes)
