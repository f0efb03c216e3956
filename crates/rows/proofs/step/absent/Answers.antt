use Rattle.rows.proofs.step.absent.Goals as goal

pub returns-then-wide : goal.returns-then-wide
returns-then-wide c = rw c.if-wide.true c.stay.ensures

pub returns : goal.returns
returns c = rw c.if-wide.false c.passed.ensures
