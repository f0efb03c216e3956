-- One step of a walk in code is one step of its meaning: what `admit` makes of a cursor stands for the same answer.
use Rattle.std.proofs.Common.{◌≡◌, ◌≢◌, ℕ, zero, suc, ◌+◌, ◌-◌, ◌*◌, ◌^◌, ◌<◌, ◌≤◌, Bool, not, true, false, eqb, ltb, List, [], ◌∷◌, ◌++◌, map, length, get_or, replicate, sym, refl, ap, ◌∙◌, mod-eq_of_lt, arith, ltb-false, le-ltb, lt-ltb, eq-eqb, eqb-true}
use native.Mathlib.Nat.{mod-le}
use borrow.Author.Tests.{eqb-false}
use Rattle.rows.specs.Why.{number_of}
use Rattle.rows.specs.declared.Why.{Why}
use Rattle.rows.specs.declared.Why.TheVariants.{WrongLength, PastEnd, Unknown, OutOfRange, LeftOver, ListRule, NoFit, NoneEligible, NoPosition, MustFall, OutsideLimits}
use Rattle.rows.specs.Row.{Row, Cond, pick, told, holds, broken}
use Rattle.rows.specs.Walk.{done, refused, and_then, Source, walk, field, total, there, exceeds, fault}
use Rattle.rows.specs.Inner.Step.{further, stays, passes, settled, admitted, resume}
use Rattle.rows.specs.Inner.Standing.{Standing}
use Rattle.rows.specs.declared.When.{When}
use Rattle.rows.specs.declared.Rule.{Rule}
use Rattle.rows.specs.declared.Rule.TheVariants.{Any, Most, Tariff, NoSecond}

-- A count that fits goes up by one, and any by at most that.
count_next : (i : ℕ) → suc i < 2 ^ 32 → further 1 i ≡ suc i
count_next i small = let next : i + 1 ≡ suc i = omega arith in rw next (mod-eq_of_lt small)

count_most : (i : ℕ) → further 1 i ≤ suc i
count_most i = let next : i + 1 ≡ suc i = omega arith in rw (← next) (mod-le (i + 1) (2 ^ 32))

pub count_twice : (i : ℕ) → further 2 i ≡ further 1 (further 1 i)
count_twice i = omega arith

-- After a refusal only the number is another.
abbrev kept : Standing → ℕ → Standing
kept c v = record { at = c.at; why = c.why; field = c.field; number = v }

module _ (room : ℕ) (from : Source) (rs : List Row) (seen : List ℕ) (c : Standing) (v : ℕ) (small : suc c.field < 2 ^ 32) where
  -- One field's outcome, and the cursor that stands for it. The numbers count only where there is no fault.
  settled_fault : (W n : ℕ) (us vs : List ℕ) (b : Bool) → eqb n 0 ≡ b → (b ≡ true → us ≡ vs)
      → and_then (pick b (done us (c.at + W)) (refused n c.at c.field)) (λ us end. walk room from rs (suc c.field) (seen ++ us) end)
      ≡ resume room from rs (seen ++ vs) (pick b (passes c 1 W v) (stays c n v))
  unfolding resume
  settled_fault W n us vs true e same = rw (same refl, count_next c.field small)
  settled_fault W n us vs false e same = let here : further 1 c.field - 1 ≡ c.field = omega (arith, count_next c.field small) in rw (e, here)

  settled_step : (W : ℕ) (us vs : List ℕ) (wide past : Bool) (m n : ℕ)
      → (wide ≡ false → past ≡ false → m ≡ n)
      → (wide ≡ false → past ≡ false → n ≡ 0 → us ≡ vs)
      → and_then (pick (eqb (pick wide 7 (pick past 2 m)) 0) (done us (c.at + W)) (refused (pick wide 7 (pick past 2 m)) c.at c.field)) (λ us end. walk room from rs (suc c.field) (seen ++ us) end)
      ≡ resume room from rs (seen ++ vs) (settled c W (pick wide 7 (pick past 2 n)) v)
  settled_step W us vs true past m n ruled same = settled_fault W 7 us vs false refl (λ e. cc)
  settled_step W us vs false true m n ruled same = settled_fault W 2 us vs false refl (λ e. cc)
  settled_step W us vs false false m n ruled same =
      rw (ruled refl refl) (settled_fault W n us vs (eqb n 0) refl (λ e. same refl refl (eqb-true n 0 e)))

-- What the source gives need agree with the code's numbers only where they count: the rule where the field has room, the
-- numbers where it has no fault.
pub admit_step : (room : ℕ) (from : Source) (c : Standing) (t : When) (ws : List ℕ) (rule : Rule) (vs : List ℕ) (wide : Bool) (n v : ℕ)
    (k : Cond) (rs : List Row) (seen : List ℕ)
    → told k seen ≡ t
    → suc c.field < 2 ^ 32
    → exceeds (there t ws) (from c.at (length seen) (there t ws)) ≡ wide
    → (c.at + total (there t ws) ≤ room → broken rule (from c.at (length seen) (there t ws)) ≡ n)
    → (c.at + total (there t ws) ≤ room → (admitted c room (total (there t ws)) wide n v).why ≡ 0 → from c.at (length seen) (there t ws) ≡ vs)
    → resume room from (record { boxes = ws; cond = k; rule = rule } ∷ rs) seen c
    ≡ resume room from rs (seen ++ vs) (admitted c room (total (there t ws)) wide n v)
unfolding resume field
admit_step room from c t ws rule vs wide n v k rs seen e small w ruled same = go (eqb c.why 0) refl
  where
    us : List ℕ
    us = from c.at (length seen) (there t ws)

    W : ℕ
    W = total (there t ws)

    clear : eqb c.why 0 ≡ true → wide ≡ false → ltb room (c.at + W) ≡ false → n ≡ 0 → (admitted c room W wide n v).why ≡ 0
    clear h x p z = rw (h, x, p, z)

    go : (b : Bool) → eqb c.why 0 ≡ b
        → pick b (walk room from (record { boxes = ws; cond = k; rule = rule } ∷ rs) c.field seen c.at) (refused c.why c.at (c.field - 1))
        ≡ resume room from rs (seen ++ vs) (pick b (settled c W (fault wide (c.at + W) room n) v) (kept c v))
    go false h = rw h
    go true h =
        rw (e, w)
        (settled_step room from rs seen c v small W us vs wide (ltb room (c.at + W)) (broken rule us) n
        (λ x p. ruled (ltb-false _ _ p))
        (λ x p z. same (ltb-false _ _ p) (clear h x p z)))

-- What a field without a fault tells.
pub record Clear (c : Standing) (room W : ℕ) (wide : Bool) (n at : ℕ) : Type 0 where
  pub before : c.why ≡ 0
  pub narrow : wide ≡ false
  pub inside : c.at + W ≤ room
  pub kept : n ≡ 0
  pub moved : at ≡ c.at + W

pub admitted_clear : (c : Standing) (room W : ℕ) (wide : Bool) (n v : ℕ)
    → (admitted c room W wide n v).why ≡ 0
    → Clear c room W wide n (admitted c room W wide n v).at
admitted_clear c room W wide n v = go (eqb c.why 0) wide (ltb room (c.at + W)) refl refl
  where
    last : (z : Bool) → eqb n 0 ≡ z → c.why ≡ 0 → c.at + W ≤ room
        → (pick {A = Standing} z (passes c 1 W v) (stays c n v)).why ≡ 0
        → Clear c room W false n (pick {A = Standing} z (passes c 1 W v) (stays c n v)).at
    last true e before inside h = record { before = before; narrow = refl; inside = inside; kept = eqb-true n 0 e; moved = refl }
    last false e before inside h = absurd (eqb-false n 0 e h)

    go : (b wide past : Bool) → eqb c.why 0 ≡ b → ltb room (c.at + W) ≡ past
        → (pick b (settled c W (pick wide 7 (pick past 2 n)) v) (kept c v)).why ≡ 0
        → Clear c room W wide n (pick b (settled c W (pick wide 7 (pick past 2 n)) v) (kept c v)).at
    go false wide past e p h = absurd (eqb-false _ _ e h)
    go true true past e p h = absurd (omega arith)
    go true false true e p h = absurd (omega arith)
    go true false false e p h = last (eqb n 0) refl (eqb-true _ _ e) (ltb-false _ _ p) h

-- A field is not passed by the end of its room.
pub admitted_within : (c : Standing) (room W : ℕ) (wide : Bool) (n v : ℕ) → c.at ≤ room → (admitted c room W wide n v).at ≤ room
admitted_within c room W wide n v h = go (eqb c.why 0) wide (ltb room (c.at + W)) refl
  where
    last : (m : ℕ) (b : Bool) → c.at + W ≤ room → (pick {A = Standing} b (passes c 1 W v) (stays c m v)).at ≤ room
    last m true l = l
    last m false l = h

    go : (b wide past : Bool) → ltb room (c.at + W) ≡ past
        → (pick b (settled c W (pick wide 7 (pick past 2 n)) v) (kept c v)).at ≤ room
    go false wide past e = h
    go true true past e = h
    go true false true e = h
    go true false false e = last n (eqb n 0) (ltb-false _ _ e)

-- What is the same of a cursor whatever becomes of a field: the number goes through as it is, the count rises by one at most.
admitted_any : (P : Standing → Type 0) (c : Standing) (room W : ℕ) (wide : Bool) (n v : ℕ)
    → P (passes c 1 W v)
    → ((m : ℕ) → P (stays c m v))
    → P (kept c v)
    → P (admitted c room W wide n v)
admitted_any P c room W wide n v on off before = go (eqb c.why 0) (eqb m 0)
  where
    m : ℕ
    m = fault wide (c.at + W) room n

    go : (a b : Bool) → P (pick {A = Standing} a (pick b (passes c 1 W v) (stays c m v)) (kept c v))
    go false b = before
    go true false = off m
    go true true = on

pub admitted_number : (c : Standing) (room W : ℕ) (wide : Bool) (n v : ℕ) → (admitted c room W wide n v).number ≡ v
admitted_number c room W wide n v = admitted_any (λ (d : Standing). d.number ≡ v) c room W wide n v refl (λ m. refl) refl

pub admitted_counted : (c : Standing) (room W : ℕ) (wide : Bool) (n v : ℕ) → (admitted c room W wide n v).field ≤ suc c.field
admitted_counted c room W wide n v =
    admitted_any (λ (d : Standing). d.field ≤ suc c.field) c room W wide n v (count_most c.field) (λ m. count_most c.field) (omega arith)

-- A field of no bits, and one that runs past the end.
pub admitted_none : (c : Standing) (room : ℕ) → c.at ≤ room → c.why ≡ 0 → passes c 1 0 0 ≡ admitted c room 0 false 0 0
admitted_none c room within clear =
    let here : c.at + 0 ≡ c.at = omega arith in
    rw (eq-eqb _ _ clear, here, le-ltb _ _ within)

pub admitted_past : (c : Standing) (room W : ℕ) → c.why ≡ 0 → room < c.at + W → stays c 2 0 ≡ admitted c room W false 0 0
admitted_past c room W clear long = rw (eq-eqb _ _ clear, lt-ltb _ _ long)

pub map_none : (n w : ℕ) → map {B = ℕ} (λ (x : ℕ). 0) (replicate n w) ≡ replicate n 0
map_none zero w = refl
map_none (suc n) w = ap (λ (l : List ℕ). 0 ∷ l) (map_none n w)

-- Boxes of no bits take no room, and zeros break no rule.
pub total_none : (ws : List ℕ) → total (map (λ (w : ℕ). 0) ws) ≡ 0
total_none [] = refl
total_none (w ∷ ws) = let rest = total_none ws in omega arith

get_or_none : (ws : List ℕ) (i : ℕ) → get_or (map {B = ℕ} (λ (w : ℕ). 0) ws) i 0 ≡ 0
get_or_none [] i = refl
get_or_none (w ∷ ws) zero = refl
get_or_none (w ∷ ws) (suc i) = get_or_none ws i

pub broken_none : (rule : Rule) (ws : List ℕ) → broken rule (map (λ (w : ℕ). 0) ws) ≡ 0
broken_none Any ws = refl
broken_none (Most m) ws = rw (get_or_none ws 0, le-ltb m 0 (omega arith))
broken_none Tariff ws = rw (get_or_none ws 2)
broken_none NoSecond ws = rw (get_or_none ws 0)

-- A field that code found to be there is, and one that it did not find is absent.
pub on : (b : Bool) (t : When) → b ≡ holds t → b ≡ true → holds t ≡ true
on b t e f = sym e ∙ f

pub off : (b : Bool) (t : When) → b ≡ holds t → b ≡ false → holds t ≡ false
off b t e f = sym e ∙ f

pub total_same : (n w : ℕ) → total (replicate n w) ≡ n * w
total_same zero w = omega arith
total_same (suc n) w = let rest = total_same n w in omega arith

-- What code tests of a walk's refusal.
pub numbered : (w : Why) → number_of w ≢ 0
numbered WrongLength = λ e. cc
numbered PastEnd = λ e. cc
numbered Unknown = λ e. cc
numbered OutOfRange = λ e. cc
numbered LeftOver = λ e. cc
numbered ListRule = λ e. cc
numbered NoFit = λ e. cc
numbered NoneEligible = λ e. cc
numbered NoPosition = λ e. cc
numbered MustFall = λ e. cc
numbered OutsideLimits = λ e. cc

pub halted : {b : Bool} {n : ℕ} → b ≡ not (eqb n 0) → b ≡ true → n ≢ 0
halted {b} {n} e t = eqb-false n 0 (go (eqb n 0) (sym e ∙ t))
  where
    go : (q : Bool) → not q ≡ true → q ≡ false
    go false h = refl
    go true h = cc

pub clear : {b : Bool} {n : ℕ} → b ≡ not (eqb n 0) → b ≡ false → n ≡ 0
clear {b} {n} e f = eqb-true n 0 (go (eqb n 0) (sym e ∙ f))
  where
    go : (q : Bool) → not q ≡ false → q ≡ true
    go true h = refl
    go false h = cc
