use Prim.Native.Nat.{ℕ, ◌*◌, ◌<◌}
use mathlib.Core.List.{List}
use mathlib.Core.Bool.{Bool}
use mathlib.Core.Path.{◌≡◌}
use lib.ListN.{length, get_or}
use Rattle.bits.specs.Bits.{cut}
use Rattle.bits.proofs.Fronts.{part}
use Rattle.bits.proofs.pack_words.Given as goal

-- The bytes so far, four a word, are those of the cut.
abbrev pub invariant-loop-j : goal.invariant-loop-j
invariant-loop-j l = (out : List Bool) → l.draft ≡ cut 32 32 (length l.draft) out → (k : ℕ) → k < 4 * l.j → get_or l.bytes k 0 ≡ part 8 (8 * k) out
