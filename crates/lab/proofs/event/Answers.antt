use Rattle.std.proofs.Common.{ap, rules, ◌≡◌, Err, Ok}
use Rattle.records.specs.Event.{event_told}
use Rattle.lab.proofs.Answers.{record_answers}
use Rattle.lab.proofs.Tables.{event_slots}
use Rattle.lab.proofs.event.Goals as goal

pub returns-in_err-numbers : goal.returns-in_err-numbers
returns-in_err-numbers c =
    let r = c.in_err-numbers.field-0.0 in
    let is : c.from_residual.result ≡ Err r = search rules in
    rw is (ap event_told (record_answers _ 36 (c.event.ensures 0) event_slots _ _ (Err r) c.if-bytes-ne-BYTES.false c.in_err-numbers.ensures))

pub returns : goal.returns
returns c =
    let got = c.in_ok-numbers in
    rw (c.of-2.ensures, c.of.ensures)
    (ap event_told (record_answers _ 36 (c.event.ensures 0) event_slots _ _ (Ok (got.numbers, got.margin)) c.if-bytes-ne-BYTES.false got.ensures))
