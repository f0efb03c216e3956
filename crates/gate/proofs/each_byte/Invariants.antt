use Rattle.std.proofs.Common.{ℕ, ◌<◌, get_or}
use Rattle.gate.proofs.each_byte.Given as goal

abbrev pub invariant-loop-i : goal.invariant-loop-i
invariant-loop-i g l = (k : ℕ) → k < l.i → goal.F-post g l.made (get_or l.a k 0) (get_or l.b k 0) (get_or l.out k 0)
