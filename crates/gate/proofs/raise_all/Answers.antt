use mathlib.Core.Path.{◌≡◌, ◌∙◌}
use lib.ListN.{length}
use Rattle.gate.proofs.Bytewise.{writes_more}
use Rattle.gate.proofs.raise_all.Goals as goal

pub loop-write-preserved : goal.loop-write-preserved
loop-write-preserved c =
    let so = c.loop-write.invariant in
    let step = c.in-Some.ensures.steps in
    let long : length c.in-Some.write.now ≡ 29 = step.1.1 ∙ so.0 in
    (step.0 ∙ so.0, c.raise.auto.«record» ∙ so.1, rw c.raise.ensures (rw (step.1.0, writes_more _ _ long) at so.2))
