use Prim.Native.Nat.{ℕ, ◌+◌, ◌*◌, ◌/◌, ◌%◌, ◌^◌, ◌-◌, ◌≤◌}
use mathlib.Core.Path.{◌≡◌, sym, ap, ◌∙◌}
use native.Mathlib.Omega.{arith}
use lib.Pow.{shl-shr, shr-shr, field}
use Rattle.bits.proofs.number.Goals as goal

-- The shifts give the number at its place.
-- A number that is moved to the top of a word loses what stood before it, and down again what stands behind it.
shifted : (x o w r : ℕ) → o + w + r ≡ 64 → w ≤ 32 → x * 2 ^ o % 2 ^ 64 / 2 ^ 32 / 2 ^ (32 - w) ≡ x / 2 ^ r % 2 ^ w
shifted x o w r e h =
    let down : 32 + (32 - w) ≡ o + r = omega arith in
    let all : 64 ≡ w + (o + r) = omega arith in
    shr-shr (x * 2 ^ o % 2 ^ 64) 32 (32 - w)
    ∙ ap (λ (k : ℕ). x * 2 ^ o % 2 ^ 64 / 2 ^ k) down
    ∙ ap (λ (k : ℕ). x * 2 ^ o % 2 ^ k / 2 ^ (o + r)) all
    ∙ field (x * 2 ^ o) w (o + r)
    ∙ ap (λ (k : ℕ). k % 2 ^ w) (sym (shr-shr (x * 2 ^ o) o r) ∙ ap (λ (k : ℕ). k / 2 ^ r) (shl-shr x o))

pub returns : goal.returns
returns c = let a = c.args in shifted _ (a.at % 32) a.w (64 - a.at % 32 - a.w) (omega arith) c.requires.1
