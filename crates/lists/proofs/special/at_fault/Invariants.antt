use Prim.Native.Nat.{◌≤◌}
use lib.ListN.{length, take}
use Rattle.lists.specs.Inner.Judging.{Judges}
use Rattle.lists.proofs.special.Laws.{bitmaps, pointers}
use Rattle.lists.proofs.special.at_fault.Given as goal

abbrev pub invariant-loop-i : goal.invariant-loop-i
invariant-loop-i l = (length l.entry-items ≤ 4) × Judges 7 l.s (bitmaps (take l.i l.entry-items)) (pointers (take l.i l.entry-items)) l.judged
