use Prim.Native.Nat.{◌≤◌}
use lib.ListN.{length, take}
use Rattle.lists.specs.Inner.Judging.{Recounts}
use Rattle.lists.proofs.list.ContractList.recounted.Given as goal

abbrev pub invariant-loop-i : goal.invariant-loop-i
invariant-loop-i l = (length l.entry-items ≤ 8) × Recounts l.n l.c (take l.i l.entry-items) (record { judged = l.judged; spent = l.spent })
