use Prim.Native.Nat.{◌-◌, ◌/◌, ◌^◌}
use mathlib.Core.Path.{◌∙◌}
use Rattle.loading.proofs.Counted.{lowest_more}
use Rattle.loading.proofs.Used.{bit_on}
use Rattle.loading.proofs.place.lowest_zero.Goals as goal

pub loop-p-preserved : goal.loop-p-preserved
loop-p-preserved c =
    let l = c.loop-p in
    let a = c.args in
    let on = bit_on (a.used / 2 ^ (l.p - 1)) c.if-used-p-eq0.false in
    l.invariant ∙ rw on at (lowest_more a.used a.n a.first l.p c.loop-p-test.true)
