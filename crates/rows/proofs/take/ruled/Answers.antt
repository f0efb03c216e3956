use Rattle.std.proofs.Common.{[], ◌∷◌, ap, arith}
use Rattle.rows.specs.Inner.Standing.{Standing}
use Rattle.rows.proofs.Stepping.{halted, clear, on, off}
use Rattle.rows.proofs.Taking.{took_refused, took_absent, took_past, took_box}
use Rattle.rows.proofs.take.ruled.Goals as goal

pub returns-then-is_refused : goal.returns-then-is_refused
returns-then-is_refused c = took_refused _ _ _ _ _ _ _ c.requires.0 (halted c.is_refused.ensures c.if-is_refused.true)

pub returns-then-not-there : goal.returns-then-not-there
returns-then-not-there c = took_absent _ _ _ _ _ _ _ _ c.requires.0 (clear c.is_refused.ensures c.if-is_refused.false) (off _ c.args.when c.there.ensures c.if-not-there.true) (ap (λ (d : Standing). d.number ∷ []) c.absent.ensures) c.absent.ensures

pub returns-then-end-c : goal.returns-then-end-c
returns-then-end-c c = took_past _ _ _ _ _ _ _ _ c.requires.0 (clear c.is_refused.ensures c.if-is_refused.false) (rw (on _ c.args.when c.there.ensures c.if-not-there.false) (omega arith)) c.past.ensures

pub returns : goal.returns
returns c = took_box _ _ _ _ _ _ _ _ _ c.requires.0 c.requires.1 (on _ c.args.when c.there.ensures c.if-not-there.false) c.number-v.ensures c.ruled-broken.ensures c.admit.ensures
