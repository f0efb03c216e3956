use mathlib.Core.Path.{◌≡◌}
use Rattle.rows.specs.Inner.Standing.{stand}
use Rattle.records.specs.Answer.{from}
use Rattle.holder.specs.Holder.{numbers_of}
use Rattle.holder.proofs.Profiles.{Taking}
use Rattle.holder.proofs.take_profiles.Given as goal

abbrev pub invariant-loop-k : goal.invariant-loop-k
invariant-loop-k l =
    let front = from 0 82 (numbers_of l.fn.fields.value) in
    (from 0 82 (numbers_of l.h) ≡ front) × Taking l.words l.end front (stand l.initial.last) l.h.profiles (stand l.last) l.k
