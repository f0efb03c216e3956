use Rattle.std.proofs.Common.{Err}
use mathlib.Core.Path.{◌≡◌, sym, ap, ◌∙◌}
use Rattle.rows.specs.Inner.Standing.{stand}
use Rattle.records.proofs.Answering.{met_none, met_one}
use native.Mathlib.Omega.{arith}
use lib.ListN.{length}
use borrow.Author.Tests.{lt-ltb, le-ltb}
use Rattle.rows.proofs.Tables.{special_rows}
use Rattle.lists.specs.Special.{special_fault, got_special, no_special}
use Rattle.lists.proofs.Listing.{length_of_map, list_read_law, list_refused, list_short, list_outside}
use Rattle.lists.proofs.special.Laws.{special_of_numbers}
use borrow.Author.Rules.{rules}
use Rattle.lists.proofs.Judging.{obeyed_rule}
use Rattle.lists.proofs.special.read.Goals as goal

pub returns-then-bytes-ne-BYTES : goal.returns-then-bytes-ne-BYTES
returns-then-bytes-ne-BYTES c = list_short _ _ (special_fault c.args.s) _ _ _ c.if-bytes-ne-BYTES.true

pub returns-then-s-gt-MOST : goal.returns-then-s-gt-MOST
returns-then-s-gt-MOST c = list_outside _ _ (special_fault c.args.s) _ _ _ c.if-bytes-ne-BYTES.false (lt-ltb _ _ c.if-s-gt-MOST.true)

pub returns-in_err-met : goal.returns-in_err-met
returns-in_err-met c =
    let a = c.args in
    let last = obeyed_rule _ _ c.obeyed-last.ensures c.at_fault.ensures in
    let one = c.in_err-met.ensures in
    let is : c.from_residual.result ≡ Err c.in_err-met.field-0.0 = search rules in
    rw is (ap no_special one ∙ list_refused _ _ (special_fault a.s) _ _ a.bytes.now _ _ _ _ _ (omega (arith, special_rows)) c.if-bytes-ne-BYTES.false (le-ltb _ _ c.if-s-gt-MOST.false) c.words.ensures c.take_list-taken.ensures c.end-end.ensures last (met_one _ (stand c.obeyed-last.result) one))

pub returns : goal.returns
returns c =
    let a = c.args in
    let last = obeyed_rule _ _ c.obeyed-last.ensures c.at_fault.ensures in
    let four : length c.take_list-taken.result.value.entries ≡ 4 = search (rules, length_of_map) in
    ap got_special (sym (special_of_numbers c.take_list-taken.result.value four)) ∙ list_read_law _ _ (special_fault a.s) _ _ a.bytes.now _ _ _ _ _ (omega (arith, special_rows)) c.if-bytes-ne-BYTES.false (le-ltb _ _ c.if-s-gt-MOST.false) c.words.ensures c.take_list-taken.ensures c.end-end.ensures last (met_none (stand c.obeyed-last.result) c.in_ok-met.ensures)
