use Rattle.std.proofs.Common.{◌≡◌, Err, Ok, rules, arith}
use Rattle.lists.specs.List.{list_fault}
use Rattle.lab.proofs.Answers.{list_answers}
use Rattle.lab.proofs.Tables.{list_fits, list_slots}
use Rattle.lab.proofs.list.Goals as goal

pub listed-requires : goal.listed-requires
listed-requires c =
    let n = c.args.n in
    let table = c.contract_list.ensures n in
    (omega arith, (rw (table, c.if-bytes-ne-BYTES.false) (list_fits n), rw table (list_slots n), c.if-bytes-ne-BYTES.false, omega arith, omega arith))

pub returns-in_err-numbers : goal.returns-in_err-numbers
returns-in_err-numbers c =
    let n = c.args.n in
    let r = c.in_err-numbers.field-0.0 in
    let is : c.from_residual.result ≡ Err r = search rules in
    rw is (list_answers _ _ _ (list_fault n) (Err r) (c.contract_list.ensures n) c.if-bytes-ne-BYTES.false (rw c.outside.ensures at c.if-outside.false) c.in_err-numbers.ensures)

pub returns : goal.returns
returns c =
    let n = c.args.n in
    let got = c.in_ok-numbers in
    rw c.of.ensures
    (list_answers _ _ _ (list_fault n) (Ok got.numbers) (c.contract_list.ensures n) c.if-bytes-ne-BYTES.false (rw c.outside.ensures at c.if-outside.false) got.ensures)
