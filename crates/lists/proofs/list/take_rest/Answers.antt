use Rattle.rows.specs.Inner.Standing.{stand}
use Rattle.lists.proofs.Lines.{rest_took, test_all}
use Rattle.lists.proofs.list.take_rest.Goals as goal

pub returns-then-priority-ne-UNDEFINED : goal.returns-then-priority-ne-UNDEFINED
returns-then-priority-ne-UNDEFINED c =
    let a = c.args in
    let test = test_all a.marks _ a.c.at c.is_refused.ensures c.if-marks-is_refused.true in
    rw c.passed-last.ensures (rest_took a.words.now (stand a.c) a.marks _ c.requires test.0 test.1 test.2 c.number-v.ensures c.if-priority-ne-UNDEFINED.true)
