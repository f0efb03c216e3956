use Rattle.std.proofs.Common.{le-ltb, ◌≡◌, Err, Ok, rules}
use Rattle.lists.specs.Special.{special_fault}
use Rattle.lab.proofs.Answers.{list_answers}
use Rattle.lab.proofs.special.Goals as goal

pub returns-in_err-numbers : goal.returns-in_err-numbers
returns-in_err-numbers c =
    let s = c.args.s in
    let r = c.in_err-numbers.field-0.0 in
    let is : c.from_residual.result ≡ Err r = search rules in
    rw is (list_answers _ _ _ (special_fault s) (Err r) (c.special_list.ensures s) c.if-bytes-ne-BYTES.false (le-ltb _ _ c.if-s-gt-MOST.false) c.in_err-numbers.ensures)

pub returns : goal.returns
returns c =
    let s = c.args.s in
    let got = c.in_ok-numbers in
    rw c.of.ensures
    (list_answers _ _ _ (special_fault s) (Ok got.numbers) (c.special_list.ensures s) c.if-bytes-ne-BYTES.false (le-ltb _ _ c.if-s-gt-MOST.false) got.ensures)
