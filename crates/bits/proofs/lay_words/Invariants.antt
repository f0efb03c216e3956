use Prim.Native.Nat.{◌*◌, ◌≤◌}
use mathlib.Core.List.{List}
use mathlib.Core.Bool.{Bool}
use mathlib.Core.Path.{◌≡◌}
use lib.ListN.{length}
use Rattle.bits.specs.Bits.{spread, cut, leading}
use Rattle.bits.proofs.Laying.{Over}
use Rattle.bits.proofs.lay_words.Given as goal

-- The loop's invariant: the words so far, two a whole word, are laid.
abbrev pub invariant-loop-k : goal.invariant-loop-k
invariant-loop-k l =
    (out : List Bool) → length out ≤ leading (spread 64 l.whole) → l.initial.draft ≡ cut 32 32 (length l.initial.draft) out
    → Over (length l.initial.draft) out (spread 64 l.whole) (2 * l.k) l.draft
