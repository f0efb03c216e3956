use Prim.Native.Nat.{◌+◌, ◌*◌, ◌/◌, ◌≤◌, max}
use mathlib.Core.Path.{◌≡◌, ◌∙◌}
use native.Mathlib.Omega.{arith}
use lib.ListN.{length, drop_of_length-le}
use Rattle.bits.specs.Bits.{spread}
use Rattle.bits.proofs.Cutting.{length-spread}
use Rattle.bits.proofs.Ones.{one_ahead, none_ahead}
use Rattle.bits.proofs.first_one.Goals as goal

pub returns-then-ahead-ne0 : goal.returns-then-ahead-ne0
returns-then-ahead-ne0 c =
    let at = c.max-at.result in
    let here : at / 64 ≡ c.loop-k.k = omega arith in
    let one = rw here at (one_ahead c.args.whole.now (λ i. (c.type_inv.whole i).fits) at) in
    omega (arith, one c.if-ahead-ne0.true, rw (← c.max-at.ensures) at c.loop-k.invariant)

pub loop-k-preserved : goal.loop-k-preserved
loop-k-preserved c =
    let at = c.max-at.result in
    let k = c.loop-k.k in
    let here : at / 64 ≡ k = omega arith in
    let next : (k + 1) * 64 ≡ max c.args.from (64 * (k + 1)) = omega arith in
    let none = rw (here, next) at (none_ahead c.args.whole.now (λ i. (c.type_inv.whole i).fits) at) in
    rw (← c.max-at.ensures) at c.loop-k.invariant ∙ none c.if-ahead-ne0.false (omega arith)

pub returns : goal.returns
returns c =
    let m = spread 64 c.args.whole.now in
    let past : length m ≤ max c.args.from (64 * c.loop-k.k) = rw length-spread (omega arith) in
    omega (arith, rw (drop_of_length-le m past) at c.loop-k.invariant)
