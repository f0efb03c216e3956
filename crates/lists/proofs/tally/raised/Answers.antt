use Prim.Native.Nat.{◌-◌}
use native.Mathlib.Omega.{arith}
use Rattle.lists.proofs.Masks.{shifted, inside, bit_fits}
use Rattle.lists.proofs.tally.raised.Goals as goal

pub overflow_sub-k : goal.overflow_sub-k
overflow_sub-k c = (inside 8 c.args.pointer c.if-pointer.true).0

pub overflow_shr-used : goal.overflow_shr-used
overflow_shr-used c = omega (arith, inside 8 c.args.pointer c.if-pointer.true)

pub overflow_shl-result : goal.overflow_shl-result
overflow_shl-result c = omega (arith, inside 8 c.args.pointer c.if-pointer.true)

pub overflow_add-result : goal.overflow_add-result
overflow_add-result c =
    let a = c.args in
    omega (arith, shifted (a.pointer - 1) (overflow_shl-result c), bit_fits 32 a.used (a.pointer - 1) (overflow_shl-result c) c.if-used-k-eq0.true (omega arith))
