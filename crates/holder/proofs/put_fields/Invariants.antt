use Rattle.rows.specs.Inner.Standing.{stand}
use Rattle.holder.proofs.Profiles.{Putting}
use Rattle.holder.proofs.put_fields.Given as goal

abbrev pub invariant-loop-k : goal.invariant-loop-k
invariant-loop-k l = Putting l.fn.h l.room l.initial.draft (stand l.initial.c) l.draft (stand l.c) l.k
