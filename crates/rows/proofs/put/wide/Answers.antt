use Rattle.std.proofs.Common.{◌≡◌, ℕ, ◌*◌, ◌/◌, ◌^◌, ◌<◌, Bool, true, false, not, eqb, ltb, refl, div-lt_iff_lt-mul, arith, pow_pos, ltb-false, ltb-true, ne_eqb}
use native.Mathlib.Nat.{div-eq_of_lt}
use Rattle.rows.specs.Row.{pick}
use Rattle.rows.proofs.put.wide.Goals as goal

-- A number is too wide where bits are left above its box.
fits-shift : (v w : ℕ) → not (eqb (v / 2 ^ w) 0) ≡ pick (ltb v (2 ^ w)) false true
fits-shift v w = go (ltb v (2 ^ w)) refl
  where
    go : (b : Bool) → ltb v (2 ^ w) ≡ b → not (eqb (v / 2 ^ w) 0) ≡ pick b false true
    go true e = rw (div-eq_of_lt (ltb-true v (2 ^ w) e))
    go false e =
        let above : v / 2 ^ w ≡ 0 → ⊥ = λ z.
        let below : v < 1 * 2 ^ w = (div-lt_iff_lt-mul (pow_pos w)).0 (omega arith) in
        omega (arith, ltb-false v (2 ^ w) e) in
        rw (ne_eqb (v / 2 ^ w) 0 above)

pub returns : goal.returns
returns c = fits-shift c.args.v c.args.w
