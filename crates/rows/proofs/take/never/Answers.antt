use Rattle.std.proofs.Common.{refl, arith}
use Rattle.rows.proofs.Stepping.{halted, clear, on, off}
use Rattle.rows.proofs.Taking.{took_refused, took_absent, took_past}
use Rattle.rows.proofs.take.never.Goals as goal

pub returns-then-is_refused : goal.returns-then-is_refused
returns-then-is_refused c = λ words covered. took_refused _ _ _ _ _ _ _ (record { within = c.requires.0; covered = covered }) (halted c.is_refused.ensures c.if-is_refused.true)

pub returns-then-not-there : goal.returns-then-not-there
returns-then-not-there c = λ words covered. took_absent _ _ _ _ _ _ _ _ (record { within = c.requires.0; covered = covered }) (clear c.is_refused.ensures c.if-is_refused.false) (off _ c.args.when c.there.ensures c.if-not-there.true) refl c.absent.ensures

pub returns : goal.returns
returns c = λ words covered. took_past _ _ _ _ _ _ _ _ (record { within = c.requires.0; covered = covered }) (clear c.is_refused.ensures c.if-is_refused.false) (rw (on _ c.args.when c.there.ensures c.if-not-there.false) (omega arith)) c.past.ensures
