use Rattle.rows.specs.Inner.Standing.{stand}
use Rattle.rows.specs.Table.Special.{entry}
use Rattle.lists.specs.Special.{entry_numbers}
use Rattle.lists.proofs.Rowing.{Putting}
use Rattle.lists.proofs.special.put_list.Given as goal

abbrev pub invariant-loop-k : goal.invariant-loop-k
invariant-loop-k l = Putting entry entry_numbers l.count l.entry-items l.initial.draft (stand l.initial.c) l.draft (stand l.c) l.k
