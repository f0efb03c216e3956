use Rattle.std.proofs.Common.{◌≡◌, Ok, Err, rules}
use mathlib.Core.Path.{refl, sym}
use Rattle.rows.proofs.Stepping.{numbered}
use Rattle.contract.proofs.Telling.{contract_one}
use Rattle.loading.proofs.Marks.{rest_unread, rest_read_law}
use Rattle.loading.proofs.read_rest.Goals as goal

pub returns-in_err-mark_all : goal.returns-in_err-mark_all
returns-in_err-mark_all c =
    let is : c.from_residual.result ≡ Err c.in_err-mark_all.field-0.0 = search rules in
    rw is (rest_unread c.args.order _ c.in_err-mark_all.ensures (numbered _))

pub returns-in_err-read : goal.returns-in_err-read
returns-in_err-read c =
    let is : c.from_residual-in_err-read.result ≡ Err c.in_err-read.field-0.0 = search rules in
    rw is (rest_read_law c.args.order _ c.in_ok-mark_all.ensures refl (sym (contract_one (Err _) _ c.in_err-read.ensures)))

pub returns : goal.returns
returns c = rest_read_law c.args.order _ c.in_ok-mark_all.ensures refl (sym (contract_one (Ok _) _ c.in_ok-read.ensures))
