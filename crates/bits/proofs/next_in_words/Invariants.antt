use Prim.Native.Nat.{◌+◌, ◌*◌, min}
use mathlib.Core.List.{List}
use mathlib.Core.Bool.{Bool}
use mathlib.Core.Path.{◌≡◌}
use lib.ListN.{length, drop}
use Rattle.bits.specs.Bits.{cut, leading}
use Rattle.bits.proofs.next_in_words.Given as goal

-- The loop's invariant: the bits from the first word up to word j, or up to the end, are zeros.
abbrev pub invariant-loop-j : goal.invariant-loop-j
invariant-loop-j l =
    (bs : List Bool) → length bs ≡ l.end → l.words ≡ cut 32 64 (length l.words) bs
    → min (32 * l.from) l.end + leading (drop (32 * l.from) bs) ≡ min (32 * l.j) l.end + leading (drop (32 * l.j) bs)
