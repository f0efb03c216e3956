use Prim.Native.Nat.{◌%◌}
use native.Mathlib.Omega.{arith}
use Rattle.bits.proofs.Laying.{shift_lt, laid}
use Rattle.bits.proofs.lay.Goals as goal

-- Two stores lay the bits.
pub overflow_mul-x : goal.overflow_mul-x
overflow_mul-x c = omega (arith, shift_lt (c.args.at % 32) c.args.w c.args.v (omega arith) c.requires.1.1)

pub returns : goal.returns
returns c out l e = laid _ _ out c.args.at c.args.w c.args.v e l c.requires.0 c.requires.1.0 c.requires.1.1
