use Rattle.std.proofs.Common.{◌+◌, ◌*◌, ◌≤◌, length, ◌∙◌, mul-le-mul_left, arith, take_all}
use Rattle.rows.proofs.Giving.{fits_at, laid_more}
use Rattle.rows.proofs.put.lay_all.Goals as goal

pub lay-requires : goal.lay-requires
lay-requires c = let a = c.args in
    let l = c.loop-v in
    let p = c.requires in
    let inside : a.w * l.v-index ≤ a.w * length a.letters.now = mul-le-mul_left a.w l.invariant.0 in
    (omega (arith, p.longer, l.invariant.1, l.invariant.2), (p.narrow, fits_at a.w a.letters.now l.v-index p.fit c.loop-v-test.true))

pub overflow_add-place : goal.overflow_add-place
overflow_add-place c = let a = c.args in
    let l = c.loop-v in
    let inside : a.w * (l.v-index + 1) ≤ a.w * length a.letters.now = mul-le-mul_left a.w (omega arith) in
    omega (arith, c.requires.small, l.invariant.2)

pub loop-v-preserved : goal.loop-v-preserved
loop-v-preserved c = let a = c.args in
    let l = c.loop-v in (
      omega arith,
      c.lay.auto.draft ∙ l.invariant.1,
      omega (arith, l.invariant.2),
      laid_more a.draft.now l.draft _ a.at a.w a.letters.now l.v-index l.place c.loop-v-test.true l.invariant.1 l.invariant.2 l.invariant.3 c.lay.ensures,
    )

pub returns : goal.returns
returns c = rw (take_all c.loop-v.v-index c.args.letters.now c.loop-v-test.false) at c.loop-v.invariant.3
