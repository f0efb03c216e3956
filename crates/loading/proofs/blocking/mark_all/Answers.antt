use Rattle.std.proofs.Common.{◌≡◌, Err, rules}
use mathlib.Core.Path.{refl}
use Rattle.rows.proofs.Stepping.{numbered}
use Rattle.loading.proofs.Marks.{at_time, blocking_unlisted, blocking_unread, blocking_read}
use Rattle.loading.proofs.blocking.mark_all.Goals as goal

pub returns-in_err-list : goal.returns-in_err-list
returns-in_err-list c =
    let is : c.from_residual.result ≡ Err c.in_err-list.field-0.0 = search rules in
    rw is (blocking_unlisted c.args.order _ _ _ _ c.in_err-list.ensures (numbered _))

pub returns-in_err-mark_journal : goal.returns-in_err-mark_journal
returns-in_err-mark_journal c =
    let a = c.args in
    let is : c.from_residual-in_err-mark_journal.result ≡ Err c.in_err-mark_journal.field-0.0 = search rules in
    rw is (blocking_unread a.order _ _ _ _ c.in_ok-list.ensures refl (at_time _ a.lent.codes.now a.order.hours c.moment-time.ensures c.in_err-mark_journal.ensures) (numbered _))

pub returns : goal.returns
returns c =
    let a = c.args in
    blocking_read a.order _ _ _ _ c.in_ok-list.ensures refl (at_time _ a.lent.codes.now a.order.hours c.moment-time.ensures c.in_ok-mark_journal.ensures) refl c.requires.1 c.mark_special.ensures
