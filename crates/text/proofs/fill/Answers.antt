use Prim.Native.Nat.{◌<◌, ◌+◌, ◌*◌}
use lib.ListN.{length}
use native.Mathlib.Omega.{arith}
use Rattle.text.proofs.Digits.{digit_at, spelt_more}
use Rattle.text.proofs.fill.Goals as goal

pub pair-requires : goal.pair-requires
pair-requires c = let text = c.args.text.now in
    let i = c.loop-i.i in
    let second : 2 * i + 1 < length text = omega arith in
    let first : 2 * i < length text = omega arith in
    (rw c.digit-high.ensures (digit_at text (2 * i) c.requires.1 first), rw c.digit-low.ensures (digit_at text (2 * i + 1) c.requires.1 second))

pub loop-i-preserved : goal.loop-i-preserved
loop-i-preserved c = let l = c.loop-i in
    rw c.pair.ensures (spelt_more c.args.text.now l.out (length c.args.out.now) l.i _ _ (omega arith) l.auto.out c.digit-high.ensures c.digit-low.ensures l.invariant)
