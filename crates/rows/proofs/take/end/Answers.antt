use Rattle.rows.proofs.Stepping.{halted, clear}
use Rattle.rows.proofs.Taking.{ended_refused, ended_done, ended_five}
use Rattle.rows.proofs.take.end.Goals as goal

pub returns-then-is_refused : goal.returns-then-is_refused
returns-then-is_refused c = ended_refused _ _ _ (halted c.is_refused.ensures c.if-is_refused.true)

pub returns-then-one-end : goal.returns-then-one-end
returns-then-one-end c = ended_done _ _ _ _ (clear c.is_refused.ensures c.if-is_refused.false) c.requires.0.within c.next_one-one.ensures c.if-one-end.true

pub returns : goal.returns
returns c = ended_five _ _ _ _ (clear c.is_refused.ensures c.if-is_refused.false) c.requires.0.within c.next_one-one.ensures c.if-one-end.false
