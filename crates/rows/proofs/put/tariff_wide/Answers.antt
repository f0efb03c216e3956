use Rattle.std.proofs.Common.{◌≡◌, ℕ, ◌^◌, Bool, true, false, ◌||◌, ltb, [], ◌∷◌, refl}
use Rattle.rows.specs.Row.{pick}
use Rattle.rows.specs.Walk.{exceeds}
use Rattle.rows.proofs.put.tariff_wide.Goals as goal

-- One of three numbers is too wide where the first, the second or the third is.
either : (a b d : Bool) → (pick a false true || pick b false true) || pick d false true ≡ pick a (pick b (pick d false true) true) true
either true true d = refl
either true false d = refl
either false b d = refl

one-wide : (u v w key kind priority : ℕ)
    → (exceeds (u ∷ []) (key ∷ []) || exceeds (v ∷ []) (kind ∷ [])) || exceeds (w ∷ []) (priority ∷ [])
    ≡ exceeds (u ∷ v ∷ w ∷ []) (key ∷ kind ∷ priority ∷ [])
one-wide u v w key kind priority = either (ltb key (2 ^ u)) (ltb kind (2 ^ v)) (ltb priority (2 ^ w))

pub returns-then-here : goal.returns-then-here
returns-then-here c = rw (c.wide.ensures, c.wide-then-here.ensures, c.wide-then-here-2.ensures, c.if-here.true) (let a = c.args in one-wide 4 8 4 a.key a.kind a.priority)

pub returns : goal.returns
returns c = rw (c.wide-2.ensures, c.wide-3.ensures, c.wide-4.ensures, c.if-here.false) (let a = c.args in one-wide 0 0 0 a.key a.kind a.priority)
