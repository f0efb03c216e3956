use Rattle.std.proofs.Common.{◌≡◌, ◌+◌, ◌-◌, ◌*◌}
use Rattle.rows.specs.Row.{among}
use Rattle.lists.specs.Listing.{column}
use Rattle.lab.proofs.rules.repeated.Given as goal

-- The loop's invariant: none of the entries so far has the pointer.
abbrev pub invariant-loop-i : goal.invariant-loop-i
invariant-loop-i l =
    among l.pointer (column l.k l.size l.size l.numbers) ≡ among l.pointer (column (l.k - l.i) l.size (l.size + l.size * l.i) l.numbers)
