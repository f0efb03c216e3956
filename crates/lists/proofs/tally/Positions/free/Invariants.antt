use Prim.Native.Nat.{◌+◌, ◌-◌, ◌≤◌}
use mathlib.Core.Path.{◌≡◌}
use Rattle.lists.specs.Tally.{free_from, free_of}
use Rattle.lists.proofs.tally.Positions.free.Given as goal

abbrev pub invariant-loop-k : goal.invariant-loop-k
invariant-loop-k l = (l.free ≤ l.k) × (l.free + free_from l.above l.last l.self.used (8 - l.k) (l.k + 1) ≡ free_of l.above l.last l.self)
