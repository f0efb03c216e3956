use Rattle.std.proofs.Common.{◌≡◌, ℕ, ◌<◌, ◌≤◌, get_or, bit_or}
use Rattle.gate.proofs.raise.Given as goal

abbrev pub invariant-loop-i : goal.invariant-loop-i
invariant-loop-i l =
    ((k : ℕ) → k < l.i → get_or l.«record» k 0 ≡ bit_or (get_or l.initial.«record» k 0) (get_or l.write k 0))
    × ((k : ℕ) → l.i ≤ k → get_or l.«record» k 0 ≡ get_or l.initial.«record» k 0)
