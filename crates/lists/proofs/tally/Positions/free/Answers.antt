use Prim.Native.Nat.{◌-◌}
use mathlib.Core.Path.{◌≡◌}
use native.Mathlib.Omega.{arith}
use Rattle.lists.proofs.Tallying.{free_turn}
use Rattle.lists.proofs.tally.Positions.free.Goals as goal
use Rattle.lists.proofs.tally.Positions.free.Goals.{then-above-pointer, else-above-pointer}

pub loop-k-preserved : goal.loop-k-preserved
loop-k-preserved c =
    let a = c.args in
    let turn = free_turn a.above a.last a.self.used c.loop-k.k (omega arith) in
    elim c.if-above-pointer.branch [
      | then-above-pointer w ↦ (omega arith, omega (arith, rw w.if-above-pointer.true at turn))
      | else-above-pointer w ↦ (omega arith, omega (arith, rw w.if-above-pointer.false at turn))
    ]

pub returns : goal.returns
returns c =
    let none : 8 - c.loop-k.k ≡ 0 = omega arith in
    omega (arith, rw none at c.loop-k.invariant.1)
