use Prim.Native.Nat.{ℕ, ◌+◌, ◌-◌, ◌/◌, ◌%◌, ◌^◌}
use mathlib.Core.Path.{◌≡◌, ap}
use native.Mathlib.Omega.{arith}
use Rattle.lists.proofs.Masks.{shifted, bit_fits}
use Rattle.lists.proofs.Judging.{judges_faulty, judges_kept, judges_broken, keeps_not, keeps_taken, tested}
use Rattle.lists.proofs.rules.Judged.with.Goals as goal

pub returns-then-self-ne0 : goal.returns-then-self-ne0
returns-then-self-ne0 c = λ bs ps so counted. judges_faulty _ _ bs ps _ so _ _ _ counted c.if-self-ne0.true

pub overflow_sub-place : goal.overflow_sub-place
overflow_sub-place c =
    let a = c.args in
    (tested a.bitmap a.full a.pointer a.limit c.if-bitmap-full.true).0

pub overflow_shr-self : goal.overflow_shr-self
overflow_shr-self c =
    let a = c.args in
    omega (arith, tested a.bitmap a.full a.pointer a.limit c.if-bitmap-full.true, c.requires)

pub overflow_shl-result : goal.overflow_shl-result
overflow_shl-result c =
    let a = c.args in
    omega (arith, tested a.bitmap a.full a.pointer a.limit c.if-bitmap-full.true, c.requires)

pub overflow_add-result : goal.overflow_add-result
overflow_add-result c =
    let a = c.args in
    omega (arith, shifted (a.pointer - 1) (overflow_shl-result c.before), bit_fits 32 a.self.used (a.pointer - 1) (overflow_shl-result c.before) c.if-self-place-eq0.true (omega arith))

pub returns-then-self-place-eq0 : goal.returns-then-self-place-eq0
returns-then-self-place-eq0 c = λ bs ps so counted.
    let more = ap (λ (x : ℕ). c.args.self.used + x) (shifted (c.args.pointer - 1) (overflow_shl-result c.before)) in
    judges_kept _ _ bs ps _ so _ _ _ counted c.requires c.if-self-ne0.false c.if-bitmap-full.true _ more c.if-self-place-eq0.true

pub returns-else-self-place-eq0 : goal.returns-else-self-place-eq0
returns-else-self-place-eq0 c = λ bs ps so counted.
    let clear = c.if-self-ne0.false in
    let on : c.args.self.used / 2 ^ (c.args.pointer - 1) % 2 ≡ 1 = omega (arith, c.if-self-place-eq0.false) in
    judges_broken _ _ bs ps _ so _ _ _ counted clear (keeps_taken _ _ bs ps _ so c.args.bitmap c.args.pointer _ counted c.requires clear c.if-bitmap-full.true on)

pub returns-else-bitmap-full : goal.returns-else-bitmap-full
returns-else-bitmap-full c = λ bs ps so counted. judges_broken _ _ bs ps _ so _ _ _ counted c.if-self-ne0.false (keeps_not _ _ bs ps _ so c.args.bitmap c.args.pointer _ counted c.if-bitmap-full.false)
