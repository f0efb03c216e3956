use Prim.Native.Nat.{ℕ, ◌+◌, ◌*◌, ◌/◌, ◌%◌, ◌^◌, ◌-◌}
use mathlib.Core.Path.{◌≡◌, sym, ap, ◌∙◌}
use native.Mathlib.Omega.{arith}
use lib.Pow.{shl-shr, field}
use Rattle.bits.specs.Bits.{cleared}
use Rattle.bits.proofs.Fronts.{part_padded}
use Rattle.bits.proofs.Clearing.{part_behind, part_before, part_across}
use Rattle.bits.proofs.cleared.Goals as goal

-- All of the word is kept, or its low bits, or none.
-- A word that is moved up and down again loses its high bits.
low : (x o r : ℕ) → r + o ≡ 64 → x * 2 ^ o % 2 ^ 64 / 2 ^ o ≡ x % 2 ^ r
low x o r e = ap (λ (k : ℕ). x * 2 ^ o % 2 ^ k / 2 ^ o) (sym e) ∙ field (x * 2 ^ o) r o ∙ ap (λ (k : ℕ). k % 2 ^ r) (shl-shr x o)

pub returns-then-at-start : goal.returns-then-at-start
returns-then-at-start c bs e =
    let a = c.args in
    e
    ∙ sym (part_padded 64 a.start bs)
    ∙ sym (part_behind 64 a.at a.start bs c.if-at-start.true)
    ∙ part_padded 64 a.start (cleared a.at bs)

pub returns-then-at-start-lt64 : goal.returns-then-at-start-lt64
returns-then-at-start-lt64 c bs e =
    let a = c.args in
    let o = a.at - a.start in
    low a.word o (64 - o) (omega arith)
    ∙ ap (λ (k : ℕ). k % 2 ^ (64 - o)) (e ∙ sym (part_padded 64 a.start bs))
    ∙ sym (part_across o (64 - o) 64 a.at a.start bs (omega arith) (omega arith))
    ∙ part_padded 64 a.start (cleared a.at bs)

pub returns : goal.returns
returns c bs e =
    let a = c.args in
    sym (part_before 64 a.at a.start bs (omega arith)) ∙ part_padded 64 a.start (cleared a.at bs)
