use Prim.Native.Nat.{◌<◌}
use mathlib.Core.List.{◌∷◌}
use mathlib.Core.Path.{◌≡◌, refl, sym, ◌∙◌}
use native.Mathlib.Omega.{arith}
use lib.ListN.{length, length-set}
use Rattle.rows.specs.Table.Special.{special_list}
use Rattle.rows.specs.Inner.Line.{taken, ◌▸◌}
use Rattle.lists.specs.Special.{entry_numbers, numbers_of}
use Rattle.lists.proofs.Rowing.{flat, taking_more, taking_all}
use Rattle.lists.proofs.special.Laws.{numbers_flat}
use Rattle.lists.proofs.special.take_list.Goals as goal

pub loop-k-init : goal.loop-k-init
loop-k-init c = (refl, refl, record { upto = omega arith; ready = c.at_most-head.ensures.ready; takes = taken })

pub loop-k-preserved : goal.loop-k-preserved
loop-k-preserved c =
    let l = c.loop-k in
    let more : l.k < length l.list.entries = omega (arith, l.invariant.0) in
    (length-set l.list.entries l.k _ ∙ l.invariant.0, l.invariant.1, taking_more l.invariant.2 5 (λ e. refl) _ _ more c.take_entry-taken.ensures)

pub returns : goal.returns
unfolding special_list
returns c =
    let l = c.loop-k in
    let all : l.k ≡ length l.list.entries = omega (arith, l.invariant.0, l.invariant.2.upto) in
    let rest = rw l.invariant.0 at (taking_all l.invariant.2 all) in
    let numbers : c.at_most-head.result.number ∷ flat entry_numbers l.list.entries ≡ numbers_of l.list = rw (← l.invariant.1) (sym (numbers_flat l.list l.invariant.0)) in
    record { takes = c.at_most-head.ensures ▸ (rw numbers at rest); ready = l.invariant.2.ready }
