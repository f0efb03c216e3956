use Rattle.std.proofs.Common.{◌≡◌, ◌+◌, ◌-◌, ◌*◌, ◌<◌, ◌≤◌, length, sym, refl, ◌∙◌, append-nil, mul-le-mul_left, arith, length-set, take_all, rules}
use native.Mathlib.Nat.{sub-zero}
use Rattle.rows.proofs.Taking.{spelt_more}
use Rattle.rows.proofs.take.spell.Goals as goal

pub loop-letter-init : goal.loop-letter-init
loop-letter-init c = (search rules, refl, omega arith, rw sub-zero)

pub number-requires : goal.number-requires
number-requires c = let a = c.args in
    let inside : a.w * c.loop-letter.letter-index ≤ a.w * length a.letters.now = mul-le-mul_left a.w (omega arith) in
    (omega (arith, c.requires.covered, c.loop-letter.invariant.2), c.requires.narrow)

pub overflow_add-place : goal.overflow_add-place
overflow_add-place c = let a = c.args in
    let inside : a.w * (c.loop-letter.letter-index + 1) ≤ a.w * length a.letters.now = mul-le-mul_left a.w (omega arith) in
    omega (arith, c.requires.small, c.loop-letter.invariant.2)

pub loop-letter-preserved : goal.loop-letter-preserved
loop-letter-preserved c = let a = c.args in
    let l = c.loop-letter in
    let inside : l.letter-index < length a.letters.now = omega (arith, l.invariant.1) in (
      omega arith,
      simp length-set l.invariant.1,
      omega (arith, l.invariant.2),
      rw c.number.ensures (spelt_more a.words.now a.at a.w (length a.letters.now) l.letters l.letter-index l.place inside l.invariant.1 l.invariant.3),
    )

pub returns : goal.returns
returns c = let l = c.loop-letter in
    let a = c.args in
    let none : length a.letters.now - l.letter-index ≡ 0 = omega (arith, l.invariant.1) in
    let all : length l.letters ≤ l.letter-index = omega (arith, l.invariant.1, c.loop-letter-test.false) in
    let so = rw none at l.invariant.3 in
    sym (so ∙ append-nil _ ∙ take_all l.letter-index l.letters all)
