use Rattle.selection.proofs.Choosing.{begun, turn, ended}
use Rattle.selection.proofs.choose.Goals as goal

pub loop-k-init : goal.loop-k-init
loop-k-init c = begun _ _

pub loop-k-preserved : goal.loop-k-preserved
loop-k-preserved c = turn _ _ _ _ _ _ c.loop-k-test.true c.better-best.ensures c.loop-k.invariant

pub returns : goal.returns
returns c = let a = c.args in ended a.day a.operator a.file.now a.list _ _ _ c.len.ensures c.loop-k-test.false c.loop-k.invariant
