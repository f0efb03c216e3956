-- Laws about where a new contract goes.
use Prim.Native.Nat.{ℕ, zero, suc, ◌+◌, ◌-◌, ◌≤◌}
use mathlib.Core.Path.{◌≡◌, refl, sym, ap, ◌∙◌}
use mathlib.Core.List.{List, [], ◌∷◌, Memᴰ}
use mathlib.Core.Bool.{Bool, true, false, ◌&&◌, ◌||◌, not}
use mathlib.Core.Logic.{◌⊎◌, inl, inr}
use native.Mathlib.Omega.{arith}
use lib.Dec.{eqb}
use lib.ListN.{replicate, get_or-replicate}
use Rattle.rows.specs.Row.{pick}
use Rattle.records.specs.Order.{Attempt, got}
use Rattle.records.specs.Answer.{Answer}
use Rattle.lists.specs.declared.list.Entry.{Entry}
use Rattle.loading.specs.Inner.Marks.{marked, Marking}
use Rattle.loading.specs.Place.{free, erasable, lowest_free, within, first_erasable, or_else, counter_place, place}
use Rattle.loading.proofs.Counted.{upto}
use Rattle.loading.proofs.Told.{Stops, no_refusal}

-- Only the blocking of the card's own pointers counts.
module _ (b b' : ℕ → Bool) (n : ℕ) (same : (p : ℕ) → p ≤ n → b p ≡ b' p) where
  erasable_same : (first last : ℕ) (es : List Entry) → last ≤ n → first_erasable b first last es ≡ first_erasable b' first last es
  erasable_same first last [] h = refl
  erasable_same first last (e ∷ es) h = rw (erasable_same first last es h) (go (within first last e.pointer) refl)
    where
      rest : ℕ
      rest = first_erasable b' first last es

      go : (t : Bool) → within first last e.pointer ≡ t
          → pick (t && (eqb e.priority 15 && not (b e.pointer))) e.pointer rest ≡ pick (t && (eqb e.priority 15 && not (b' e.pointer))) e.pointer rest
      go true i =
          let most : e.pointer ≤ last = upto first last e.pointer i in
          rw (same e.pointer (omega arith))
      go false i = refl

  pub place_same : (c : ℕ) (counter : Bool) (es : List Entry) → c ≤ n → place b n c counter es ≡ place b' n c counter es
  place_same c counter es h = rw (erasable_same 1 c es h, erasable_same (suc c) n es (omega arith))

-- An erasable entry has the pointer.
pub record Erased (blocked : ℕ → Bool) (es : List Entry) (p : ℕ) : Type 0 where
  pub entry : Entry
  pub listed : Memᴰ entry es
  pub pointer : entry.pointer ≡ p
  pub may : erasable blocked entry ≡ true

-- None, or one up to a last one, that is free or that an erasable entry has.
pub record Named (blocked : ℕ → Bool) (last : ℕ) (es : List Entry) (p : ℕ) : Type 0 where
  pub most : p ≤ last
  pub how : (p ≡ 0 → ⊥) → (free es p ≡ true) ⊎ Erased blocked es p

module _ (blocked : ℕ → Bool) (last : ℕ) where
  lowest_named : (es : List Entry) (n first : ℕ) → first + n ≡ suc last → Named blocked last es (lowest_free es n first)
  lowest_named es zero first h = record { most = omega arith; how = λ any. absurd (any refl) }
  lowest_named es (suc n) first h = go (free es first) refl (λ h'. lowest_named es n (suc first) h')
    where
      go : (t : Bool) → free es first ≡ t → (suc first + n ≡ suc last → Named blocked last es (lowest_free es n (suc first)))
          → Named blocked last es (pick t first (lowest_free es n (suc first)))
      go true e more = record { most = omega arith; how = λ any. inl e }
      go false e more = more (omega arith)

  erased_more : {e : Entry} {es : List Entry} {p : ℕ} → Erased blocked es p → Erased blocked (e ∷ es) p
  erased_more x = record { entry = x.entry; listed = Memᴰ.tail x.listed; pointer = x.pointer; may = x.may }

  erasable_named : (first : ℕ) (es : List Entry)
      → (first_erasable blocked first last es ≤ last) × ((first_erasable blocked first last es ≡ 0 → ⊥) → Erased blocked es (first_erasable blocked first last es))
  erasable_named first [] = (omega arith, λ any. absurd (any refl))
  erasable_named first (e ∷ es) = go (within first last e.pointer) refl (erasable blocked e) refl (erasable_named first es)
    where
      rest : ℕ
      rest = first_erasable blocked first last es

      go : (t : Bool) → within first last e.pointer ≡ t → (u : Bool) → erasable blocked e ≡ u
          → (rest ≤ last) × ((rest ≡ 0 → ⊥) → Erased blocked es rest)
          → (pick (t && u) e.pointer rest ≤ last) × ((pick (t && u) e.pointer rest ≡ 0 → ⊥) → Erased blocked (e ∷ es) (pick (t && u) e.pointer rest))
      go true i true j more = (upto first last e.pointer i, λ any. record { entry = e; listed = Memᴰ.head refl; pointer = refl; may = j })
      go true i false j more = (more.0, λ any. erased_more (more.1 any))
      go false i u j more = (more.0, λ any. erased_more (more.1 any))

  or_named : {es : List Entry} {a b : ℕ} → Named blocked last es a → Named blocked last es b → Named blocked last es (or_else a b)
  or_named {es} {a} {b} x y = go (eqb a 0)
    where
      go : (t : Bool) → Named blocked last es (pick t b a)
      go true = y
      go false = x

  either : (es : List Entry) (n first : ℕ) → first + n ≡ suc last
      → Named blocked last es (or_else (lowest_free es n first) (first_erasable blocked first last es))
  either es n first h =
      let erased = erasable_named first es in
      or_named (lowest_named es n first h) record { most = erased.0; how = λ any. inr (erased.1 any) }

-- With a counter it is a counter pointer.
pub counter_named : (blocked : ℕ → Bool) (n c : ℕ) (es : List Entry) → Named blocked c es (place blocked n c true es)
counter_named blocked n c es = either blocked c es c 1 (omega arith)

-- The pointer for a new contract is one of the card's, and free or that of an erasable entry; or there is none.
pub placed_free_or_erasable : (blocked : ℕ → Bool) (n c : ℕ) (counter : Bool) (es : List Entry) → c ≤ n → Named blocked n es (place blocked n c counter es)
placed_free_or_erasable blocked n c counter es h = go counter
  where
    within_card : Named blocked n es (counter_place blocked c es)
    within_card =
        let x = counter_named blocked n c es in
        record { most = omega (arith, x.most); how = x.how }

    go : (t : Bool) → Named blocked n es (place blocked n c t es)
    go true = within_card
    go false = or_named blocked n (either blocked n es (n - c) (suc c) (omega arith)) within_card

-- Over fresh marks, reading and marking tells what is blocked, as far as the rule asks.
pub place_marked : {attempt : Attempt (ℕ → Bool)} {marks : List Bool} {r : Answer} → Stops attempt
    → Marking attempt (λ b. b) (replicate 9 false) marks r → r.number ≡ 0
    → (blocked : ℕ → Bool) × (attempt ≡ got blocked)
    × ((n c : ℕ) (counter : Bool) (es : List Entry) → n ≤ 8 → c ≤ n → place (marked marks) n c counter es ≡ place blocked n c counter es)
place_marked {attempt} {marks} {r} told m z =
    let all = no_refusal attempt told (sym (ap (λ (x : Answer). x.number) m.answer) ∙ z) in
    let blocked : ℕ → Bool = all.0 in
    let each : (p : ℕ) → p ≤ 8 → marked marks p ≡ blocked p =
    λ p few. (m.marks blocked all.1).each p few ∙ ap (λ (b : Bool). b || blocked p) (get_or-replicate 9 p false false (omega arith)) in
    (blocked, all.1, λ n c counter es few h. place_same (marked marks) blocked n (λ p le. each p (omega arith)) c counter es h)
