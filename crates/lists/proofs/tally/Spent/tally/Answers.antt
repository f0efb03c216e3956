use native.Mathlib.Omega.{arith}
use native.Mathlib.Nat.{mod-le}
use lib.Pow.{pow_pos}
use Rattle.lists.proofs.Masks.{shifted}
use Rattle.lists.proofs.tally.Spent.tally.Goals as goal

pub nonzero_rem-counter : goal.nonzero_rem-counter
nonzero_rem-counter c = rw (shifted c.args.c (omega arith)) (pow_pos c.args.c)

pub overflow_sub-result : goal.overflow_sub-result
overflow_sub-result c = mod-le c.args.used _

pub returns : goal.returns
returns c = rw (shifted c.args.c (omega arith))
