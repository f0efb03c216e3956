use Rattle.std.proofs.Common.{◌≡◌, Err, rules}
use mathlib.Core.Path.{ap, ◌∙◌}
use Rattle.rows.specs.Inner.Standing.{stand}
use native.Mathlib.Omega.{arith}
use Rattle.bits.specs.Bits.{spread}
use Rattle.rows.proofs.Tables.{event_rows}
use Rattle.records.proofs.Answering.{met_none, met_one, eight_words, record_read, record_refused, record_short}
use Rattle.records.specs.Event.{event_told}
use Rattle.records.proofs.event.read.Goals as goal

pub returns-then-bytes-ne-BYTES : goal.returns-then-bytes-ne-BYTES
returns-then-bytes-ne-BYTES c = ap event_told (record_short _ _ _ _ c.if-bytes-ne-BYTES.true)

pub slice_bounds-take-end : goal.slice_bounds-take-end
slice_bounds-take-end c = eight_words c.args.bytes.now _ c.words.ensures

pub returns-in_err-met : goal.returns-in_err-met
returns-in_err-met c =
    let last = stand c.take_fields-fields.result.last in
    let one = c.in_err-met.ensures in
    let is : c.from_residual.result ≡ Err c.in_err-met.field-0.0 = search rules in
    rw is (ap event_told (ap Err one ∙ record_refused _ _ _ c.args.bytes.now _ _ _ (omega (arith, event_rows)) c.if-bytes-ne-BYTES.false c.words.ensures c.take_fields-fields.ensures (met_one _ last one)))

pub returns : goal.returns
returns c =
    let bytes = c.args.bytes.now in
    ap event_told
    (record_read _ _ _ bytes _ _ _ (omega (arith, event_rows)) c.if-bytes-ne-BYTES.false c.words.ensures c.take_fields-fields.ensures (met_none (stand c.take_fields-fields.result.last) (c.in_ok-met.ensures))
    (c.take-value.ensures (spread 8 bytes) c.words.ensures))
