-- Places by the tally: the lowest pointer whose bit is zero is the lowest free one, and where no entry is used up none is erasable.
use Prim.Native.Nat.{ℕ, zero, suc, ◌+◌, ◌-◌, ◌%◌, ◌≤◌, ◌<◌}
use mathlib.Core.Path.{◌≡◌, refl, ap, ◌∙◌}
use mathlib.Core.List.{List, [], ◌∷◌}
use mathlib.Core.Bool.{Bool, true, false, not, ◌&&◌, ◌||◌}
use native.Mathlib.Omega.{arith}
use native.Mathlib.Numerals.{add-one}
use lib.Dec.{eqb, leb}
use borrow.Author.Tests.{eq-eqb, ne_eqb, leb-true, le-leb, lt-leb}
use Rattle.bits.specs.Bits.{bit, odd}
use Rattle.rows.specs.Row.{pick}
use Rattle.rows.proofs.Margins.{both}
use Rattle.lists.specs.Tally.{in_use, used_up, how_many, bit_of, tally_of}
use Rattle.lists.specs.declared.list.Entry.{Entry}
use Rattle.lists.specs.declared.tally.Positions.{Positions}
use Rattle.lists.specs.declared.tally.Tally.{Tally}
use Rattle.lists.proofs.Tallying.{used_bit}
use Rattle.loading.specs.Blocking.{some}
use Rattle.loading.specs.Place.{within, lowest_free, first_erasable, or_else, counter_place, plain_place}
use Rattle.loading.specs.Inner.Tallied.{Shows, lowest_zero}

-- The code's test of a bit.
pub bit_on : (x : ℕ) → (x % 2 ≡ 0 → ⊥) → odd x ≡ true
bit_on x other = let one : x % 2 ≡ 1 = omega arith in rw one

-- An entry has the pointer.
pub in_use_law : (es : List Entry) (p : ℕ) → in_use es p ≡ some (λ e. eqb e.pointer p) es
in_use_law [] p = refl
in_use_law (e ∷ es) p = ap (λ (t : Bool). eqb e.pointer p || t) (in_use_law es p)

-- Where none of a kind is used up, none is erasable.
none_spent : (blocked kind : ℕ → Bool) (first last : ℕ) (es : List Entry) → ((q : ℕ) → first ≤ q → q ≤ last → kind q ≡ true)
    → how_many (λ e. kind e.pointer && used_up e) es ≡ 0 → first_erasable blocked first last es ≡ 0
none_spent blocked kind first last [] covers none = refl
none_spent blocked kind first last (e ∷ es) covers none =
    go (within first last e.pointer) refl (used_up e) (none_spent blocked kind first last es covers (omega arith)) none
  where
    go : (t : Bool) → within first last e.pointer ≡ t → (u : Bool) → first_erasable blocked first last es ≡ 0
        → bit (kind e.pointer && u) + how_many (λ x. kind x.pointer && used_up x) es ≡ 0
        → pick (t && (u && not (blocked e.pointer))) e.pointer (first_erasable blocked first last es) ≡ 0
    go false w u rest z = rest
    go true w false rest z = rest
    go true w true rest z =
        let (low, high) = both (leb first e.pointer) _ w in
        let own : kind e.pointer ≡ true = covers e.pointer (leb-true _ _ low) (leb-true _ _ high) in
        absurd (omega (arith, rw own at z))

module _ (es : List Entry) (first last : ℕ) (p : Positions) (shown : Shows es first last p) (low : 1 ≤ first) (high : last ≤ 8) where
  lowest_from : (n q : ℕ) → first ≤ q → q + n ≤ last + 1 → lowest_zero p.used n q ≡ lowest_free es n q
  lowest_from zero q above below = refl
  lowest_from (suc n) q above below =
      let own : shown.kind q ≡ true = shown.covers q above (omega arith) in
      let shows : bit_of p.used q ≡ some (λ e. eqb e.pointer q) es =
      ap (λ (x : Positions). bit_of x.used q) shown.fresh ∙ used_bit shown.kind es q (omega arith) (omega arith) ∙ rw own (in_use_law es q) in
      rw (shows, lowest_from n (suc q) (omega arith) (omega arith)) (turned (some (λ e. eqb e.pointer q) es))
    where
      turned : (b : Bool) → pick b (lowest_free es n (suc q)) q ≡ pick (not b) q (lowest_free es n (suc q))
      turned true = refl
      turned false = refl

  -- The lowest free one of all, and that nothing is erasable.
  lowest_free_law : first ≤ last + 1 → lowest_zero p.used (last + 1 - first) first ≡ lowest_free es (last + 1 - first) first
  lowest_free_law some = lowest_from (last + 1 - first) first (omega arith) (omega arith)

  none_erasable : (blocked : ℕ → Bool) → p.spent ≡ 0 → first_erasable blocked first last es ≡ 0
  none_erasable blocked none = none_spent blocked shown.kind first last es shown.covers (rw shown.fresh at none)

  -- So the pointer is that of the place on these positions: a free one, none, or that of an erasable entry.
  module _ (blocked : ℕ → Bool) {r : ℕ} (found : r ≡ lowest_zero p.used (last + 1 - first) first) (some : first ≤ last + 1) where
    lowest : r ≡ lowest_free es (last + 1 - first) first
    lowest = found ∙ lowest_free_law some

    pub at_free : (r ≡ 0 → ⊥) → r ≡ or_else (lowest_free es (last + 1 - first) first) (first_erasable blocked first last es)
    at_free other = rw (← lowest, ne_eqb _ _ other)

    pub at_none : r ≡ 0 → p.spent ≡ 0 → 0 ≡ or_else (lowest_free es (last + 1 - first) first) (first_erasable blocked first last es)
    at_none full none = rw (← lowest, eq-eqb _ _ full, none_erasable blocked none)

    pub at_erasable : {e : ℕ} → r ≡ 0 → e ≡ first_erasable blocked first last es
        → e ≡ or_else (lowest_free es (last + 1 - first) first) (first_erasable blocked first last es)
    at_erasable full own = rw (← lowest, eq-eqb _ _ full) own

-- The two kinds of positions of a fresh tally.
module _ (es : List Entry) (n c : ℕ) (t : Tally) (even : t ≡ tally_of c es) where
  pub shows_counter : Shows es 1 c t.counter
  unfolding tally_of
  shows_counter = record { kind = λ p. leb p c; fresh = ap (λ (x : Tally). x.counter) even; covers = λ q low high. le-leb q c high }

  pub shows_plain : Shows es (c + 1) n t.plain
  unfolding tally_of
  shows_plain =
      record {
        kind = λ p. not (leb p c);
        fresh = ap (λ (x : Tally). x.plain) even;
        covers = λ q low high. let past : c < q = omega arith in rw (lt-leb q c past);
      }

-- The places of both kinds.
module _ (es : List Entry) (blocked : ℕ → Bool) (n c r : ℕ) (h : c ≤ n) where
  pub counter_place_law : r ≡ or_else (lowest_free es (c + 1 - 1) 1) (first_erasable blocked 1 c es) → r ≡ counter_place blocked c es
  counter_place_law e = let all : c + 1 - 1 ≡ c = omega arith in e ∙ rw all

  pub plain_place_law : r ≡ or_else (lowest_free es (n + 1 - (c + 1)) (c + 1)) (first_erasable blocked (c + 1) n es) → r ≡ plain_place blocked n c es
  plain_place_law e = let all : n + 1 - (c + 1) ≡ n - c = omega arith in e ∙ rw (all, add-one c)
