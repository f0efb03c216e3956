use Rattle.std.proofs.Common.{◌≡◌, Err, rules}
use mathlib.Core.Path.{refl, sym, ◌∙◌}
use Rattle.rows.specs.Inner.Standing.{stand}
use Rattle.records.proofs.Answering.{met_none, met_one}
use Rattle.contract.proofs.Writing.{contract_unput, contract_written_law}
use Rattle.contract.proofs.write.Goals as goal

pub returns-in_err-met : goal.returns-in_err-met
returns-in_err-met c =
    let there = sym c.known.ensures ∙ c.if-not-known.false in
    let one = c.in_err-met.ensures in
    let is : c.from_residual.result ≡ Err c.in_err-met.field-0.0 = search rules in
    rw (is, one) (contract_unput _ _ _ _ _ _ c.if-bytes-ne-BYTES.false there refl c.put_fields-last.ensures (met_one _ (stand c.put_fields-last.result) one))

pub returns : goal.returns
returns c =
    let there = sym c.known.ensures ∙ c.if-not-known.false in
    rw c.met-2.ensures (contract_written_law _ _ _ _ _ _ c.if-bytes-ne-BYTES.false there refl c.put_fields-last.ensures _ _ _ (met_none (stand c.put_fields-last.result) c.in_ok-met.ensures) c.put-end.ensures c.end.ensures)
