use Prim.Native.Nat.{ℕ, ◌*◌, ◌<◌}
use mathlib.Core.List.{List}
use mathlib.Core.Bool.{Bool}
use mathlib.Core.Path.{◌≡◌}
use lib.ListN.{length, get_or}
use Rattle.bits.specs.Bits.{cut, cleared}
use Rattle.bits.proofs.Fronts.{part}
use Rattle.bits.proofs.rest.Given as goal

-- The words so far are those of the cut.
abbrev pub invariant-loop-k : goal.invariant-loop-k
invariant-loop-k l =
    (bs : List Bool) → l.words ≡ cut 32 64 (length l.words) bs → (i : ℕ) → i < l.k → get_or l.out i 0 ≡ part 64 (64 * i) (cleared l.at bs)
