use mathlib.Core.List.{◌∷◌, ◌++◌}
use mathlib.Core.Path.{◌≡◌}
use Prim.Native.Nat.{◌+◌, ◌*◌}
use lib.ListN.{take, drop, replicate}
use Rattle.lists.specs.Special.{entry_numbers}
use Rattle.lists.proofs.Rowing.{flat}
use Rattle.lists.proofs.special.SpecialList.numbers.Given as goal

abbrev pub invariant-loop-k : goal.invariant-loop-k
invariant-loop-k l = l.numbers ≡ (l.fn.self.count ∷ flat entry_numbers (take l.k l.entry-items)) ++ drop (1 + 5 * l.k) (replicate 21 0)
