-- What a choice comes to: the best so far, or the least of the eligible entries, the earliest among equals.
use Prim.Native.Nat.{ℕ, zero, suc, ◌+◌, ◌≤◌, ◌<◌}
use mathlib.Core.Bool.{Bool, true, false, ◌&&◌, ◌||◌, true≢false}
use mathlib.Core.List.{List, [], ◌∷◌}
use mathlib.Core.Path.{◌≡◌, refl, sym, ◌∙◌}
use native.Mathlib.Omega.{arith}
use lib.Dec.{eqb, ltb}
use lib.ListN.{length, get_or}
use borrow.Author.Tests.{ltb-true, ltb-false, eqb-true, eqb-false}
use Rattle.rows.specs.Row.{pick}
use Rattle.lists.specs.List.{entry_of}
use Rattle.lists.specs.declared.list.Entry.{Entry}
use Rattle.selection.specs.Eligible.{Selection, chosen_at, goes_before, better, choose}

-- Entry k, from 0.
abbrev pub nth : List Entry → ℕ → Entry
nth es k = get_or es k (entry_of [] 0)

-- Each eligible entry has such a priority number at least, and no such index before k has the same one.
abbrev pub Least : (Entry → Bool) → List Entry → ℕ → ℕ → Type 0
Least ok es k priority =
    (j : ℕ) → j < length es → ok (nth es j) ≡ true
    → (priority ≤ (nth es j).priority) × (priority ≡ (nth es j).priority → k ≤ j)

-- What the choice s among entries from a position on is, with the best so far.
pub data Came (ok : Entry → Bool) (position : ℕ) (best : Selection) (es : List Entry) (s : Selection) : Type 0 where
  kept : s ≡ best
      → ((j : ℕ) → j < length es → ok (nth es j) ≡ true → (best.position ≡ 0 → ⊥) × (best.priority ≤ (nth es j).priority))
      → Came ok position best es s
  taken : (k : ℕ) → k < length es → s ≡ chosen_at (position + k) (nth es k) → ok (nth es k) ≡ true
      → ((best.position ≡ 0 → ⊥) → (nth es k).priority < best.priority)
      → Least ok es k (nth es k).priority
      → Came ok position best es s

before_true : (e : Entry) (best : Selection) → goes_before e best ≡ true → (best.position ≡ 0 → ⊥) → e.priority < best.priority
before_true e best h n = go (eqb best.position 0) refl h
  where
    go : (t : Bool) → eqb best.position 0 ≡ t → t || ltb e.priority best.priority ≡ true → e.priority < best.priority
    go true p h = absurd (n (eqb-true _ _ p))
    go false p h = ltb-true _ _ h

before_false : (e : Entry) (best : Selection) → goes_before e best ≡ false → (best.position ≡ 0 → ⊥) × (best.priority ≤ e.priority)
before_false e best h = go (eqb best.position 0) refl h
  where
    go : (t : Bool) → eqb best.position 0 ≡ t → t || ltb e.priority best.priority ≡ false
        → (best.position ≡ 0 → ⊥) × (best.priority ≤ e.priority)
    go true p h = absurd (true≢false h)
    go false p h = (eqb-false _ _ p, ltb-false _ _ h)

module _ (ok : Entry → Bool) (position : ℕ) (best : Selection) (e : Entry) (es : List Entry) (s : Selection) where
  -- An entry that is not eligible, or does not go before the best, is passed over.
  past : (ok e ≡ true → (best.position ≡ 0 → ⊥) × (best.priority ≤ e.priority))
      → Came ok (suc position) best es s
      → Came ok position best (e ∷ es) s
  past own (kept same none) = kept same over
    where
      over : (j : ℕ) → j < suc (length es) → ok (nth (e ∷ es) j) ≡ true → (best.position ≡ 0 → ⊥) × (best.priority ≤ (nth (e ∷ es) j).priority)
      over zero h f = own f
      over (suc j) h f = none j (omega arith) f
  past own (taken k h same good under least) =
      let place : suc position + k ≡ position + suc k = omega arith in
      taken (suc k) (omega arith) (rw place at same) good under all
    where
      all : Least ok (e ∷ es) (suc k) (nth es k).priority
      all zero h f = let (some, above) = own f in let lower = under some in (omega arith, λ e. absurd (omega arith))
      all (suc j) h f = let (low, early) = least j (omega arith) f in (low, λ e. let k≤j = early e in omega arith)

  -- One that is eligible and goes before it is the new best.
  newer : 1 ≤ position → ok e ≡ true → goes_before e best ≡ true
      → Came ok (suc position) (chosen_at position e) es s
      → Came ok position best (e ∷ es) s
  newer one good before (kept same none) =
      let place : position ≡ position + 0 = omega arith in
      taken 0 (omega arith) (rw place at same) good (before_true e best before) all
    where
      all : Least ok (e ∷ es) 0 e.priority
      all zero h f = (omega arith, λ e. omega arith)
      all (suc j) h f = ((none j (omega arith) f).1, λ e. omega arith)
  newer one good before (taken k h same fine under least) =
      let place : suc position + k ≡ position + suc k = omega arith in
      taken (suc k) (omega arith) (rw place at same) fine (λ some. let low = before_true e best before some in omega (arith, lower)) all
    where
      lower : (nth es k).priority < e.priority
      lower = under (λ z. omega arith)

      all : Least ok (e ∷ es) (suc k) (nth es k).priority
      all zero h f = (omega (arith, lower), λ e. absurd (omega (arith, lower)))
      all (suc j) h f = let (low, early) = least j (omega arith) f in (low, λ e. let k≤j = early e in omega arith)

pub choice_came : (ok : Entry → Bool) (position : ℕ) (best : Selection) (es : List Entry) → 1 ≤ position
    → Came ok position best es (choose ok position best es)
choice_came ok position best [] one = kept refl (λ j h. absurd (omega arith))
choice_came ok position best (e ∷ es) one =
    go (ok e) refl (goes_before e best) refl (choice_came ok (suc position) (better (ok e) position e best) es (omega arith))
  where
    s : Selection
    s = choose ok (suc position) (better (ok e) position e best) es

    go : (t : Bool) → ok e ≡ t → (g : Bool) → goes_before e best ≡ g
        → Came ok (suc position) (pick (t && g) (chosen_at position e) best) es s
        → Came ok position best (e ∷ es) s
    go true a true b rest = newer ok position best e es s one a b rest
    go true a false b rest = past ok position best e es s (λ f. before_false e best b) rest
    go false a g b rest = past ok position best e es s (λ f. absurd (true≢false (sym f ∙ a))) rest
