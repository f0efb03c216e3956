use Prim.Native.Nat.{◌≤◌}
use mathlib.Core.Path.{◌≡◌}
use lib.ListN.{length, take}
use Rattle.lists.specs.Tally.{tally_of}
use Rattle.lists.proofs.list.ContractList.fresh_tally.Given as goal

abbrev pub invariant-loop-entry : goal.invariant-loop-entry
invariant-loop-entry l = (length l.entry-items ≤ 8) × (l.tally ≡ tally_of l.c (take l.entry-index l.entry-items))
