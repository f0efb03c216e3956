use Prim.Native.Nat.{ℕ, ◌+◌, ◌*◌, ◌/◌, ◌-◌, ◌≤◌, ◌<◌}
use mathlib.Core.List.{List}
use mathlib.Core.Bool.{Bool}
use mathlib.Core.Path.{◌≡◌, ◌∙◌}
use native.Mathlib.Omega.{arith}
use lib.Count.{count_leading_zeros}
use lib.ListN.{length, drop, length-drop}
use lib.Seq.{drop-drop}
use Rattle.bits.specs.Bits.{cut, leading}
use Rattle.bits.specs.Inner.Words.{number_at}
use Rattle.bits.proofs.Fronts.{front}
use Rattle.bits.proofs.Cutting.{part_at}
use Rattle.bits.proofs.Ones.{leading_front, leading_here, leading_less, leading_past}
use Rattle.bits.proofs.next_one.Goals as goal

-- The first 32 bits hold the first one, or all bits up to the next word are zeros.
-- What the code skips are the zeros in front of the first one of 32 bits.
skip : (words : List ℕ) (at number : ℕ) → number ≡ number_at words at 32 → at / 32 < length words → (bs : List Bool)
    → words ≡ cut 32 64 (length words) bs → count_leading_zeros 32 number ≡ leading (front 32 (drop at bs))
skip words at number is h bs e = rw (is ∙ part_at _ bs _ e at 32 h (omega arith)) (leading_front 32 (drop at bs))

pub returns-then-skip-lt32 : goal.returns-then-skip-lt32
returns-then-skip-lt32 c bs l e =
    let z = skip _ _ _ c.number-skip.ensures (omega arith) bs e in
    let here = leading_here 32 (drop c.args.at bs) (omega arith) in
    omega arith

pub returns : goal.returns
returns c bs l e =
    let at = c.args.at in
    let next = 32 * (at / 32 + 1) in
    let z = skip _ _ _ c.number-skip.ensures (omega arith) bs e in
    let clear : next - at ≤ leading (front (next - at) (drop at bs)) = leading_less (next - at) 32 (drop at bs) (omega arith) (omega arith) in
    let up : at + (next - at) ≡ next = omega arith in
    let past = rw (length-drop, drop-drop, up) at (leading_past (next - at) (drop at bs) clear) in
    omega (arith, c.next_in_words.ensures bs l e)
