use Rattle.std.proofs.Common.{false, refl}
use Rattle.rows.proofs.Stepping.{halted, clear, on, off}
use Rattle.rows.proofs.Giving.{gave_refused, gave_absent, gave_past}
use Rattle.rows.proofs.put.never.Goals as goal

pub returns-then-is_refused : goal.returns-then-is_refused
returns-then-is_refused c = λ draft longer. gave_refused _ _ _ _ _ _ _ (record { within = c.requires.0; longer = longer }) (halted c.is_refused.ensures c.if-is_refused.true)

pub returns-then-not-there : goal.returns-then-not-there
returns-then-not-there c = λ draft longer. gave_absent _ _ _ _ _ _ _ false _ (record { within = c.requires.0; longer = longer }) refl (clear c.is_refused.ensures c.if-is_refused.false) (off _ c.args.when c.there.ensures c.if-not-there.true) refl c.absent.ensures

pub returns : goal.returns
returns c = λ draft longer. gave_past _ _ _ _ _ _ (record { within = c.requires.0; longer = longer }) c.requires.1 (clear c.is_refused.ensures c.if-is_refused.false) (on _ c.args.when c.there.ensures c.if-not-there.false) c.past.ensures
