use Prim.Native.Nat.{◌≤◌}
use mathlib.Core.Path.{◌≡◌}
use Rattle.lists.specs.Entries.{counted}
use Rattle.lists.proofs.Entries.{Thinning, Clearing}
use Rattle.lists.proofs.list.ContractList.without.Given as goal

abbrev pub invariant-loop-i : goal.invariant-loop-i
invariant-loop-i l = (l.n ≤ 8) × Thinning l.pointer l.initial.self l.self.entries l.gone l.left l.i × (l.self.tally ≡ l.initial.self.tally)

-- Here the list at the start is the one with its new tally and count.
abbrev pub invariant-loop-k : goal.invariant-loop-k
invariant-loop-k l = Clearing (counted l.initial.self) l.initial.self.tally l.self l.k
