use Rattle.std.proofs.Common.{Err}
use mathlib.Core.Path.{◌≡◌, ap, ◌∙◌}
use native.Mathlib.Omega.{arith}
use lib.ListN.{length}
use Rattle.bits.specs.Bits.{cut, spread}
use Rattle.bits.proofs.Cutting.{length-spread}
use Rattle.rows.proofs.Tables.{holder_rows}
use Rattle.records.proofs.Answering.{met_none, met_one, area_read, area_refused}
use Rattle.rows.specs.Inner.Standing.{stand}
use Rattle.holder.specs.Holder.{unread}
use Rattle.holder.proofs.Letters.{read_back}
use borrow.Author.Rules.{rules}
use Rattle.holder.proofs.read_area.Goals as goal

pub returns-in_err-met : goal.returns-in_err-met
returns-in_err-met c =
    let bytes = c.args.bytes.now in
    let words = c.area_words.new.words in
    let cuts : words ≡ cut 32 64 (length words) (spread 8 bytes) = rw c.area_words.auto.words c.area_words.ensures in
    let one = c.in_err-met.ensures in
    let is : c.from_residual.result ≡ Err c.in_err-met.field-0.0 = search rules in
    rw is (ap unread one ∙ area_refused _ _ _ bytes words _ _ (omega (arith, holder_rows)) c.requires cuts c.take_fields-fields.ensures (met_one _ (stand c.take_fields-fields.result.last) one))

pub returns : goal.returns
returns c =
    let bytes = c.args.bytes.now in
    let words = c.area_words.new.words in
    let cuts : words ≡ cut 32 64 (length words) (spread 8 bytes) = rw c.area_words.auto.words c.area_words.ensures in
    let left = c.take_area.ensures (spread 8 bytes) (length-spread 8 bytes) cuts in
    read_back
    (record {
      surname = search rules;
      forename = search rules;
      birth_place = search rules;
      birth_name = search rules;
      margin = ap length left;
    })
    (search rules)
    ∙ area_read _ _ _ bytes words _ _ (omega (arith, holder_rows)) c.requires cuts c.take_fields-fields.ensures (met_none (stand c.take_fields-fields.result.last) c.in_ok-met.ensures) left
