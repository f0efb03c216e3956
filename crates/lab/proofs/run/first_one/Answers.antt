use Rattle.std.proofs.Common.{◌≡◌, ℕ, ◌*◌, List, get_or, ◌+◌, ◌<◌, ◌≤◌, Bool, true, false, [], ◌∷◌, length, drop, add-one, arith, drop_of_length-le, drop-cons}
use Rattle.bits.specs.Bits.{spread, cleared, leading}
use Rattle.bits.proofs.Cutting.{length-spread}
use Rattle.bits.proofs.Clearing.{leading-cleared}
use Rattle.lab.proofs.Running.{length_cleared}
use Rattle.lab.proofs.run.first_one.Goals as goal

pub loop-place-init : goal.loop-place-init
loop-place-init c = leading-cleared _ _

-- The bit at this place, and those behind it.
ahead : (bytes : List ℕ) (place : ℕ) → place < 8 * length bytes →
    let bits = spread 8 bytes in
    drop place bits ≡ get_or bits place false ∷ drop (place + 1) bits
ahead bytes place h =
    let bits = spread 8 bytes in
    let inside : place < length bits = rw length-spread (omega arith) in
    rw (add-one, drop-cons bits place false inside)

pub loop-place-preserved : goal.loop-place-preserved
loop-place-preserved c = rw (c.loop-place.invariant, ahead c.args.bytes.now c.loop-place.place (omega arith), ← c.bit_at.ensures, c.if-bit_at.false) (omega arith)

-- There are at most as many zeros in front as bits.
leading_most : (bs : List Bool) → leading bs ≤ length bs
leading_most [] = omega arith
leading_most (true ∷ bs) = omega arith
leading_most (false ∷ bs) = let rest = leading_most bs in omega arith

pub returns : goal.returns
returns c =
    let a = c.args in
    let bits = spread 8 a.bytes.now in
    let past : length bits ≤ c.loop-place.place = rw length-spread (omega arith) in
    let here = rw (drop_of_length-le bits past) at c.loop-place.invariant in
    omega (arith, length_cleared a.from a.bytes.now, leading_most (cleared a.from bits))
