use Rattle.std.proofs.Common.{sym, refl, ap, ◌∙◌, rules, eq-eqb, ◌≡◌, Err, Ok}
use Rattle.contract.specs.Contract.{contract_told}
use Rattle.lab.proofs.Answers.{record_answers}
use Rattle.lab.proofs.Tables.{contract_slots, contract_own}
use Rattle.lab.proofs.contract.Goals as goal

pub returns-in_err-numbers : goal.returns-in_err-numbers
returns-in_err-numbers c =
    let r = c.in_err-numbers.field-0.0 in
    let is : c.from_residual.result ≡ Err r = search rules in
    rw (is, eq-eqb _ _ c.if-bytes-ne-BYTES.false, sym c.known.ensures ∙ c.if-not-known.false)
    (ap contract_told (record_answers _ _ refl (contract_slots c.args.kind) _ _ (Err r) c.if-bytes-ne-BYTES.false c.in_err-numbers.ensures))

pub returns : goal.returns
returns c =
    let got = c.in_ok-numbers in
    rw (c.of-2.ensures, c.of.ensures, eq-eqb _ _ c.if-bytes-ne-BYTES.false, sym c.known.ensures ∙ c.if-not-known.false)
    (ap contract_told
    (ap Ok (sym (contract_own c.args.kind got.numbers got.margin))
    ∙ record_answers _ _ refl (contract_slots c.args.kind) _ _ (Ok (got.numbers, got.margin)) c.if-bytes-ne-BYTES.false got.ensures))
