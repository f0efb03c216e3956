use Rattle.std.proofs.Common.{◌+◌, ◌<◌, ◌≤◌, arith, le-ltb, lt-ltb, eq-eqb, ne_eqb}
use Rattle.rows.proofs.Stepping.{halted, clear, numbered}
use Rattle.rows.proofs.step.admit.Goals as goal

pub returns-then-is_refused : goal.returns-then-is_refused
returns-then-is_refused c = rw (ne_eqb _ _ (halted c.is_refused.ensures c.if-is_refused.true))

pub returns-then-wide : goal.returns-then-wide
returns-then-wide c = rw (eq-eqb _ _ (clear c.is_refused.ensures c.if-is_refused.false), c.if-wide.true) c.stay.ensures

pub returns-then-room-c : goal.returns-then-room-c
returns-then-room-c c =
    let a = c.args in
    let past : a.room < a.c.at + a.width = omega arith in
    rw (eq-eqb _ _ (clear c.is_refused.ensures c.if-is_refused.false), c.if-wide.false, lt-ltb _ _ past) c.stay-then-room-c.ensures

pub returns-in-Some : goal.returns-in-Some
returns-in-Some c =
    let a = c.args in
    let within : a.c.at + a.width ≤ a.room = omega arith in
    rw (eq-eqb _ _ (clear c.is_refused.ensures c.if-is_refused.false), c.if-wide.false, le-ltb _ _ within, c.in-Some.is, ne_eqb _ _ (numbered c.in-Some.why)) c.stay-in-Some.ensures
