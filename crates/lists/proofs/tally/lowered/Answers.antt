use Prim.Native.Nat.{◌-◌}
use native.Mathlib.Omega.{arith}
use Rattle.lists.proofs.Masks.{shifted, bit_le, inside}
use Rattle.lists.proofs.tally.lowered.Goals as goal

pub overflow_sub-k : goal.overflow_sub-k
overflow_sub-k c = (inside 8 c.args.pointer c.if-pointer.true).0

pub overflow_shr-used : goal.overflow_shr-used
overflow_shr-used c = omega (arith, inside 8 c.args.pointer c.if-pointer.true)

pub overflow_shl-result : goal.overflow_shl-result
overflow_shl-result c = omega (arith, inside 8 c.args.pointer c.if-pointer.true)

pub overflow_sub-result : goal.overflow_sub-result
overflow_sub-result c =
    let a = c.args in
    rw (shifted (a.pointer - 1) (overflow_shl-result c)) (bit_le a.used (a.pointer - 1) c.if-used-k-eq1.true)
