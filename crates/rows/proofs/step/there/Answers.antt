use Rattle.std.proofs.Common.{◌≡◌, ℕ, ◌/◌, ◌^◌, ◌<◌, ◌≤◌, lt_of_lt_of_le, arith, pow_mono}
use native.Mathlib.Nat.{div-eq_of_lt}
use Rattle.rows.proofs.step.there.Goals as goal

past : (n e : ℕ) → n < 2 ^ 32 → 32 ≤ e → n / 2 ^ e ≡ 0
past n e small far = div-eq_of_lt (lt_of_lt_of_le small (pow_mono far))

pub returns-then-e-lt32 : goal.returns-then-e-lt32
returns-then-e-lt32 c = rw c.in-Bit.is

pub returns-else-e-lt32 : goal.returns-else-e-lt32
returns-else-e-lt32 c =
    let small : c.in-Bit.n < 2 ^ 32 = omega arith in
    rw (c.in-Bit.is, past _ _ small c.if-e-lt32.false)

pub returns-in-Above : goal.returns-in-Above
returns-in-Above c = rw c.in-Above.is
