use mathlib.Core.Path.{refl}
use native.Mathlib.Omega.{arith}
use Rattle.rows.specs.Inner.Line.{taken}
use Rattle.holder.proofs.Profiles.{flat_four, taking_more, taking_all}
use borrow.Author.Rules.{rules}
use Rattle.holder.proofs.take_profiles.Goals as goal

pub loop-k-init : goal.loop-k-init
loop-k-init c = (refl, record { upto = omega arith; four = search rules; ready = c.requires; takes = taken })

pub loop-k-preserved : goal.loop-k-preserved
loop-k-preserved c =
    let (kept, so) = c.loop-k.invariant in
    (kept, taking_more so _ _ _ refl refl (omega arith) c.take_profile-taken.ensures)

pub returns : goal.returns
returns c =
    let (kept, so) = c.loop-k.invariant in
    record { takes = rw (flat_four _ so.four) at (taking_all so kept (omega arith)); ready = so.ready }
