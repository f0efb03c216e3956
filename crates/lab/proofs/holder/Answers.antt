use Rattle.std.proofs.Common.{◌≡◌, true, length, sym, ◌∙◌, rules, Err, Ok, arith}
use Rattle.records.specs.Answer.{area_length}
use Rattle.records.proofs.Answering.{area_room}
use Rattle.lab.proofs.Answers.{area_answers}
use Rattle.lab.proofs.Tables.{holder_fits, holder_slots}
use Rattle.lab.proofs.holder.Goals as goal

pub with_margin-requires : goal.with_margin-requires
with_margin-requires c =
    let whole : area_length (length c.args.bytes.now) ≡ true = sym c.is_area.ensures ∙ c.if-not-is_area.false in
    (omega arith, (omega arith, (rw (c.holder.ensures 0) (holder_fits _ (area_room _ whole)), omega arith)))

pub returns-in_err-numbers : goal.returns-in_err-numbers
returns-in_err-numbers c =
    let whole : area_length (length c.args.bytes.now) ≡ true = sym c.is_area.ensures ∙ c.if-not-is_area.false in
    let r = c.in_err-numbers.field-0.0 in
    let is : c.from_residual.result ≡ Err r = search rules in
    rw is (area_answers _ 111 (c.holder.ensures 0) holder_slots _ _ (Err r) whole c.in_err-numbers.ensures)

pub returns : goal.returns
returns c =
    let whole : area_length (length c.args.bytes.now) ≡ true = sym c.is_area.ensures ∙ c.if-not-is_area.false in
    let got = c.in_ok-numbers in
    rw c.of.ensures (area_answers _ 111 (c.holder.ensures 0) holder_slots _ _ (Ok (got.numbers, got.margin)) whole got.ensures)
