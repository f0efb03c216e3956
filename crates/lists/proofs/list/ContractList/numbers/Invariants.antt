use mathlib.Core.List.{◌∷◌, ◌++◌}
use mathlib.Core.Path.{◌≡◌}
use Prim.Native.Nat.{◌+◌, ◌*◌}
use lib.ListN.{take, drop, replicate}
use Rattle.lists.specs.List.{entry_numbers}
use Rattle.lists.proofs.Rowing.{flat}
use Rattle.lists.proofs.list.ContractList.numbers.Given as goal

abbrev pub invariant-loop-k : goal.invariant-loop-k
invariant-loop-k l = l.numbers ≡ (l.fn.self.count ∷ flat entry_numbers (take l.k l.entry-items)) ++ drop (1 + 6 * l.k) (replicate 49 0)
