use mathlib.Core.Path.{◌≡◌}
use lib.ListN.{length}
use Rattle.rows.specs.Inner.Standing.{stand}
use Rattle.rows.specs.Table.Special.{entry}
use Rattle.lists.specs.Special.{entry_numbers}
use Rattle.lists.proofs.Rowing.{Taking}
use Rattle.lists.proofs.special.take_list.Given as goal

abbrev pub invariant-loop-k : goal.invariant-loop-k
invariant-loop-k l =
    (length l.list.entries ≡ 4) × (l.list.count ≡ l.count) × Taking entry entry_numbers l.words l.count (stand l.initial.last) l.list.entries (stand l.last) l.k
