use Rattle.std.proofs.Common.{◌≡◌, Err, rules}
use mathlib.Core.Path.{refl}
use Rattle.rows.specs.Inner.Standing.{stand}
use native.Mathlib.Omega.{arith}
use Rattle.rows.specs.Table.Event.{event}
use Rattle.rows.proofs.Tables.{event_rows}
use Rattle.records.proofs.Answering.{met_none, met_one, record_unput, record_written, record_unwritten}
use Rattle.records.proofs.event.write.Goals as goal

pub returns-then-bytes-ne-BYTES : goal.returns-then-bytes-ne-BYTES
unfolding event
returns-then-bytes-ne-BYTES c = record_unwritten _ _ _ _ c.if-bytes-ne-BYTES.true

pub returns-in_err-met : goal.returns-in_err-met
unfolding event
returns-in_err-met c =
    let last = stand c.put_fields-last.result in
    let one = c.in_err-met.ensures in
    let is : c.from_residual.result ≡ Err c.in_err-met.field-0.0 = search rules in
    rw (is, one) (record_unput event _ _ _ _ _ _ _ (omega (arith, event_rows)) refl refl c.if-bytes-ne-BYTES.false c.put_fields-last.ensures.puts (met_one _ last one))

pub put-end-requires : goal.put-end-requires
put-end-requires c = (c.put_fields-last.ensures.ready, ((met_none (stand c.put_fields-last.result) (c.in_ok-met.ensures)), omega arith))

pub returns : goal.returns
unfolding event
returns c =
    rw c.met-2.ensures
    (record_written event _ _ _ _ _ _ _ (omega (arith, event_rows)) refl refl _ _ _ (met_none (stand c.put_fields-last.result) (c.in_ok-met.ensures)) c.end.ensures c.if-bytes-ne-BYTES.false c.put_fields-last.ensures.puts c.put-end.ensures)
