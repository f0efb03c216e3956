use Prim.Native.Nat.{ℕ, ◌+◌, ◌*◌, ◌^◌, ◌≤◌, ◌<◌}
use mathlib.Core.Path.{refl}
use native.Mathlib.Omega.{arith}
use lib.ListN.{length, get_or}
use Rattle.bits.specs.Bits.{spread}
use Rattle.bits.proofs.Cutting.{length-spread}
use Rattle.bits.proofs.Laying.{over_none, over_more, over_all, high_half, low_half}
use Rattle.bits.proofs.lay_words.Goals as goal

pub loop-k-init : goal.loop-k-init
loop-k-init c out clear drafted = over_none _ out _ _ refl drafted

pub loop-k-preserved : goal.loop-k-preserved
loop-k-preserved c out clear drafted =
    let k = c.loop-k.k in
    let xs = c.args.whole.now in
    let fits : (i : ℕ) → get_or xs i 0 < 2 ^ 64 = λ i. (c.type_inv.whole i).fits in
    let first = over_more (2 * k + 1) refl (c.loop-k.invariant out clear drafted) clear (omega arith) (high_half xs fits k) in
    over_more (2 * (k + 1)) (omega arith) first clear (omega arith) (low_half xs fits k)

pub returns : goal.returns
returns c out clear drafted =
    let all : length (spread 64 c.args.whole.now) ≤ 32 * (2 * c.loop-k.k) = rw length-spread (omega arith) in
    over_all (c.loop-k.invariant out clear drafted) clear all
