use Rattle.std.proofs.Common.{◌≡◌, Err, rules, ◌∙◌, [], ◌∷◌}
use native.Mathlib.Omega.{arith}
use lib.ListN.{length-append}
use Rattle.loading.proofs.Marks.{passed_more, passed_refused, passed_all, added_as}
use Rattle.loading.proofs.blocking.mark_journal.Goals as goal

pub returns-in_err-event : goal.returns-in_err-event
returns-in_err-event c =
    let is : c.from_residual.result ≡ Err c.in_err-event.field-0.0 = search rules in
    let so = c.loop-record.invariant in
    let step = c.in-Some.ensures.steps in
    rw is (passed_refused _ _ _ _ _ _ _ _ so.1 step.1.0 (step.1.1 ∙ so.0) _ c.in_err-event.ensures)

pub loop-record-preserved : goal.loop-record-preserved
loop-record-preserved c =
    let so = c.loop-record.invariant in
    let step = c.in-Some.ensures.steps in
    rw (length-append c.loop-record.yielded (c.in-Some.«record» ∷ []))
    (step.0 ∙ so.0, passed_more _ _ _ _ _ _ _ _ so.1 step.1.0 (step.1.1 ∙ so.0) _ _ c.in_ok-event.ensures (added_as _ c.is_blocking.ensures c.mark.ensures))

pub returns : goal.returns
returns c =
    let so = c.loop-record.invariant in
    let step = c.in-None.ensures.steps in
    passed_all _ _ _ _ _ _ so.1 (omega (arith, so.0, step.1.0))
