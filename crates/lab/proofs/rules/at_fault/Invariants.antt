use Rattle.std.proofs.Common.{◌≡◌}
use Rattle.lists.specs.Listing.{at_fault}
use Rattle.lab.proofs.Faults.{fault_from}
use Rattle.lab.proofs.rules.at_fault.Given as goal

-- The loop's invariant: the first at fault is the first from here on.
abbrev pub invariant-loop-k : goal.invariant-loop-k
invariant-loop-k l = at_fault l.entries l.size l.full l.limit l.numbers ≡ fault_from l.entries l.size l.full l.limit l.numbers l.k
