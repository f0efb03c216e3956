use Rattle.std.proofs.Common.{◌≡◌, Err, rules, ◌∙◌}
use native.Mathlib.Omega.{arith}
use native.Mathlib.Numerals.{add-one}
use Rattle.loading.proofs.Marks.{passed_more, passed_refused, passed_all, added_as}
use Rattle.loading.proofs.blocking.mark_special.Goals as goal

pub returns-in_err-event : goal.returns-in_err-event
returns-in_err-event c =
    let is : c.from_residual.result ≡ Err c.in_err-event.field-0.0 = search rules in
    let so = c.loop-i.invariant in
    let step = c.in-Some.ensures.steps.0 in
    rw is (passed_refused _ _ _ _ _ _ _ _ so.1 step.1.0 (step.1.1 ∙ so.0) _ c.in_err-event.ensures)

pub loop-i-preserved : goal.loop-i-preserved
loop-i-preserved c =
    let so = c.loop-i.invariant in
    let counts = c.in-Some.ensures.steps in
    let step = counts.0 in
    let on = rw (counts.1, add-one c.loop-i.i-iterator.count) at c.listed.ensures in
    rw counts.2
    (step.0 ∙ so.0, passed_more _ _ _ _ _ _ _ _ so.1 step.1.0 (step.1.1 ∙ so.0) _ _ c.in_ok-event.ensures (added_as _ on c.mark.ensures))

pub returns : goal.returns
returns c =
    let so = c.loop-i.invariant in
    let step = c.in-None.ensures.steps.0 in
    passed_all _ _ _ _ _ _ so.1 (omega (arith, so.0, step.1.0))
