-- The tally of a list: what the methods do to it is what a fresh count gives.
use Prim.Native.Nat.{ℕ, zero, suc, ◌+◌, ◌-◌, ◌/◌, ◌%◌, ◌^◌, ◌≤◌, ◌<◌}
use mathlib.Core.List.{List, [], ◌∷◌, ◌++◌, map}
use mathlib.Core.Bool.{Bool, true, false, not, ◌&&◌, ◌||◌, or-false, or-true, or_assoc}
use mathlib.Core.Path.{◌≡◌, refl, sym, ap, ◌∙◌}
use native.Mathlib.Omega.{arith}
use lib.Dec.{eqb, ltb, leb}
use lib.ListN.{length, get_or}
use borrow.Author.Tests.{eq-eqb, ne_eqb, eqb-true, eqb-false, leb-true, ltb-true, lt-ltb}
use Rattle.bits.specs.Bits.{bit, odd}
use Rattle.rows.specs.Row.{pick, among}
use Rattle.rows.proofs.Margins.{both}
use Rattle.lists.specs.Tally.{in_use, used_up, how_many, mask, positions, tally_of, same_positions, same_tally, bit_of, raised, lowered, one_more, one_less, entered, removed, revalued, at_pointer, free_from, free_of}
use Rattle.lists.specs.Inner.Judging.{spent_of}
use Rattle.lists.specs.List.{no_positions, no_tally}
use Rattle.lists.specs.Entries.{recoded, recoded_at, without}
use Rattle.lists.specs.declared.list.Entry.{Entry}
use Rattle.lists.specs.declared.tally.Positions.{Positions}
use Rattle.lists.specs.declared.tally.Tally.{Tally}
use Rattle.lists.proofs.Masks.{bit_most, mask_bit, mask_same, mask_kept, mask_raised, mask_lowered, mask_split, mask_low}

-- Positions and tallies are the same where all their numbers are.
alike : (a b : Positions) → a.used ≡ b.used → a.spent ≡ b.spent → a ≡ b
alike a b used spent = ap (λ (u : ℕ). record { used = u; spent = a.spent }) used ∙ ap (λ (s : ℕ). record { used = b.used; spent = s }) spent

both_kinds : {a b p q : Positions} → a ≡ b → p ≡ q → ◌≡◌ {A = Tally} (record { counter = a; plain = p }) (record { counter = b; plain = q })
both_kinds counter plain = cc

same_positions_law : (a b : Positions) → same_positions a b ≡ true → a ≡ b
same_positions_law a b h =
    let (used, spent) = both (eqb a.used b.used) _ h in
    alike a b (eqb-true _ _ used) (eqb-true _ _ spent)

pub same_tally_law : (a b : Tally) → same_tally a b ≡ true → a ≡ b
same_tally_law a b h =
    let (counter, plain) = both (same_positions a.counter b.counter) _ h in
    both_kinds (same_positions_law a.counter b.counter counter) (same_positions_law a.plain b.plain plain)

pub same_self : (a : Tally) → same_tally a a ≡ true
same_self a = rw (eq-eqb a.counter.used _ refl, eq-eqb a.counter.spent _ refl, eq-eqb a.plain.used _ refl, eq-eqb a.plain.spent _ refl)

-- A tally changes by the positions of a pointer's kind, if a fresh count of these does, and one of the other kind does not.
at_pointer_law : (c q : ℕ) (change : Positions → Positions) (es fs : List Entry)
    → ((kind : ℕ → Bool) → kind q ≡ true → change (positions kind es) ≡ positions kind fs)
    → ((kind : ℕ → Bool) → kind q ≡ false → positions kind es ≡ positions kind fs)
    → at_pointer c q change (tally_of c es) ≡ tally_of c fs
unfolding tally_of
at_pointer_law c q change es fs own other = go (leb q c) refl
  where
    go : (t : Bool) → leb q c ≡ t
        → pick t
        (record { counter = change (positions (λ p. leb p c) es); plain = positions (λ p. not (leb p c)) es })
        (record { counter = positions (λ p. leb p c) es; plain = change (positions (λ p. not (leb p c)) es) })
        ≡ tally_of c fs
    go true e = both_kinds (own (λ p. leb p c) e) (other (λ p. not (leb p c)) (ap not e))
    go false e = both_kinds (other (λ p. leb p c) e) (own (λ p. not (leb p c)) (ap not e))

-- Which pointers are in use, where all but one are as they were: that one is in use now,
module _ (q : ℕ) (es fs : List Entry) (others : (r : ℕ) → (r ≡ q → ⊥) → in_use es r ≡ in_use fs r) (kind : ℕ → Bool) where
  kind_same : (r : ℕ) → (r ≡ q → ⊥) → kind r && in_use es r ≡ kind r && in_use fs r
  kind_same r other = rw (others r other)

  used_in : kind q ≡ true → in_use fs q ≡ true → raised q (positions kind es).used ≡ (positions kind fs).used
  used_in own on = sym (mask_raised 8 q _ _ kind_same (rw (own, on)))

  -- or no longer,
  used_out : kind q ≡ true → in_use fs q ≡ false → lowered q (positions kind es).used ≡ (positions kind fs).used
  used_out own off = sym (mask_lowered 8 q _ _ kind_same (rw (own, off)))

  -- or of the other kind.
  used_other : kind q ≡ false → (positions kind es).used ≡ (positions kind fs).used
  used_other other = sym (mask_kept 8 q _ _ kind_same (rw other))

-- How many are used up, with one more and with one less.
one_more_law : (priority spent : ℕ) → spent < 8 → one_more priority spent ≡ spent + bit (eqb priority 15)
one_more_law priority spent room = rw (lt-ltb spent 8 room) (go (eqb priority 15))
  where
    go : (t : Bool) → pick (t && true) (spent + 1) spent ≡ spent + bit t
    go true = refl
    go false = omega arith

one_less_law : (priority spent : ℕ) → one_less priority (spent + bit (eqb priority 15)) ≡ spent
one_less_law priority spent = go (eqb priority 15)
  where
    go : (t : Bool) → pick t (spent + bit t - 1) (spent + bit t) ≡ spent
    go true = omega arith
    go false = omega arith

-- An entry more.
in_use_more : (es : List Entry) (e : Entry) (r : ℕ) → in_use (es ++ (e ∷ [])) r ≡ in_use es r || eqb e.pointer r
in_use_more [] e r = or-false (eqb e.pointer r)
in_use_more (x ∷ es) e r = rw (in_use_more es e r) (sym (or_assoc (eqb x.pointer r) (in_use es r) (eqb e.pointer r)))

pub many_more : (test : Entry → Bool) (es : List Entry) (e : Entry) → how_many test (es ++ (e ∷ [])) ≡ how_many test es + bit (test e)
many_more test [] e = omega arith
many_more test (x ∷ es) e = rw (many_more test es e) (omega arith)

pub many_most : (test : Entry → Bool) (es : List Entry) → how_many test es ≤ length es
many_most test [] = omega arith
many_most test (e ∷ es) = omega (arith, bit_most (test e), many_most test es)

module _ (es : List Entry) (e : Entry) where
  others_more : (r : ℕ) → (r ≡ e.pointer → ⊥) → in_use es r ≡ in_use (es ++ (e ∷ [])) r
  others_more r other =
      let off : eqb e.pointer r ≡ false = ne_eqb _ _ (λ h. other (sym h)) in
      rw (in_use_more es e r, off, or-false)

  entered_own : length es < 8 → (kind : ℕ → Bool) → kind e.pointer ≡ true
      → entered e.pointer e.priority (positions kind es) ≡ positions kind (es ++ (e ∷ []))
  entered_own room kind own =
      let test : Entry → Bool = λ x. kind x.pointer && used_up x in
      let on : in_use (es ++ (e ∷ [])) e.pointer ≡ true = rw (in_use_more es e e.pointer, eq-eqb e.pointer _ refl, or-true) in
      alike _ _
      (used_in e.pointer es (es ++ (e ∷ [])) others_more kind own on)
      (one_more_law e.priority (how_many test es) (omega (arith, many_most test es)) ∙ sym (rw own at (many_more test es e)))

  entered_other : (kind : ℕ → Bool) → kind e.pointer ≡ false → positions kind es ≡ positions kind (es ++ (e ∷ []))
  entered_other kind other =
      let test : Entry → Bool = λ x. kind x.pointer && used_up x in
      let none : bit (test e) ≡ 0 = rw other in
      alike _ _
      (used_other e.pointer es (es ++ (e ∷ [])) others_more kind other)
      (omega (arith, many_more test es e, none))

pub tally_entered : (c : ℕ) (es : List Entry) (e : Entry) → length es < 8
    → at_pointer c e.pointer (entered e.pointer e.priority) (tally_of c es) ≡ tally_of c (es ++ (e ∷ []))
tally_entered c es e room =
    at_pointer_law c e.pointer (entered e.pointer e.priority) es (es ++ (e ∷ [])) (entered_own es e room) (entered_other es e)

-- Of no entries.
pub tally_none : (c : ℕ) → no_tally ≡ tally_of c []
unfolding tally_of
tally_none c = both_kinds (none (λ p. leb p c)) (none (λ p. not (leb p c)))
  where
    off : (t : Bool) → false ≡ t && false
    off true = refl
    off false = refl

    none : (kind : ℕ → Bool) → no_positions ≡ positions kind []
    none kind = alike _ _ (mask_same 8 1 (λ p. false) _ (λ p low high. off (kind p))) refl

-- Without the entries of a pointer.
out_of_use : (q : ℕ) (es : List Entry) → in_use (without q es) q ≡ false
out_of_use q [] = refl
out_of_use q (e ∷ es) = go (eqb e.pointer q) refl (out_of_use q es)
  where
    go : (t : Bool) → eqb e.pointer q ≡ t → in_use (without q es) q ≡ false → in_use (pick t (without q es) (e ∷ without q es)) q ≡ false
    go true own rest = rest
    go false other rest = rw (other, rest)

others_without : (q : ℕ) (es : List Entry) (r : ℕ) → (r ≡ q → ⊥) → in_use es r ≡ in_use (without q es) r
others_without q [] r other = refl
others_without q (e ∷ es) r other = go (eqb e.pointer q) refl (others_without q es r other)
  where
    go : (t : Bool) → eqb e.pointer q ≡ t → in_use es r ≡ in_use (without q es) r
        → eqb e.pointer r || in_use es r ≡ in_use (pick t (without q es) (e ∷ without q es)) r
    go true own rest =
        let off : eqb e.pointer r ≡ false = ne_eqb _ _ (λ h. other (sym h ∙ eqb-true _ _ own)) in
        rw off rest
    go false kept rest = rw rest

many_without : (q : ℕ) (test gone : Entry → Bool) (es : List Entry) → ((e : Entry) → gone e ≡ eqb e.pointer q && test e)
    → how_many test (without q es) + how_many gone es ≡ how_many test es
many_without q test gone [] says = refl
many_without q test gone (e ∷ es) says = go (eqb e.pointer q) (says e) (many_without q test gone es says)
  where
    go : (t : Bool) → gone e ≡ t && test e → how_many test (without q es) + how_many gone es ≡ how_many test es
        → how_many test (pick t (without q es) (e ∷ without q es)) + (bit (gone e) + how_many gone es) ≡ bit (test e) + how_many test es
    go true same rest = rw same (omega arith)
    go false none rest = rw none (omega arith)

many_none : (es : List Entry) → how_many (λ e. false) es ≡ 0
many_none [] = refl
many_none (e ∷ es) = omega (arith, many_none es)

module _ (q : ℕ) (es : List Entry) where
  removed_own : (kind : ℕ → Bool) → kind q ≡ true
      → removed q (how_many (λ e. eqb e.pointer q && used_up e) es) (positions kind es) ≡ positions kind (without q es)
  removed_own kind own =
      alike _ _
      (used_out q es (without q es) (others_without q es) kind own (out_of_use q es))
      (omega (arith, many_without q (λ e. kind e.pointer && used_up e) (λ e. eqb e.pointer q && used_up e) es (λ e. says e (eqb e.pointer q) refl)))
    where
      says : (e : Entry) (t : Bool) → eqb e.pointer q ≡ t → t && used_up e ≡ t && (kind e.pointer && used_up e)
      says e true h = rw (eqb-true e.pointer q h, own)
      says e false h = refl

  removed_other : (kind : ℕ → Bool) → kind q ≡ false → positions kind es ≡ positions kind (without q es)
  removed_other kind other =
      alike _ _
      (used_other q es (without q es) (others_without q es) kind other)
      (omega (arith, many_none es, many_without q (λ e. kind e.pointer && used_up e) (λ e. false) es (λ e. says e (eqb e.pointer q) refl)))
    where
      says : (e : Entry) (t : Bool) → eqb e.pointer q ≡ t → false ≡ t && (kind e.pointer && used_up e)
      says e true h = rw (eqb-true e.pointer q h, other)
      says e false h = refl

pub tally_removed : (c pointer : ℕ) (es : List Entry)
    → at_pointer c pointer (removed pointer (how_many (λ e. eqb e.pointer pointer && used_up e) es)) (tally_of c es) ≡ tally_of c (without pointer es)
tally_removed c q es =
    at_pointer_law c q (removed q (how_many (λ e. eqb e.pointer q && used_up e) es)) es (without q es) (removed_own q es) (removed_other q es)

-- Another priority of an entry.
pub recoded_none : (code : ℕ) (es : List Entry) → recoded_at 0 code es ≡ es
recoded_none code [] = refl
recoded_none code (e ∷ es) = ap (λ (l : List Entry). e ∷ l) (recoded_none code es)

in_use_recoded : (position code : ℕ) (es : List Entry) (r : ℕ) → in_use es r ≡ in_use (recoded_at position code es) r
in_use_recoded position code [] r = refl
in_use_recoded position code (e ∷ es) r = rw (in_use_recoded (position - 1) code es r) (go (eqb position 1))
  where
    go : (t : Bool) → eqb e.pointer r || in_use (recoded_at (position - 1) code es) r
        ≡ eqb (pick t (recoded code e) e).pointer r || in_use (recoded_at (position - 1) code es) r
    go true = refl
    go false = refl

-- The others that pass a test are as many before and after.
many_recoded : (test : Entry → Bool) (code k : ℕ) (es : List Entry) (d : Entry) → k < length es
    → (rest : ℕ) × (rest < length es) × (how_many test es ≡ rest + bit (test (get_or es k d)))
    × (how_many test (recoded_at (suc k) code es) ≡ rest + bit (test (recoded code (get_or es k d))))
many_recoded test code k [] d h = absurd (omega arith)
many_recoded test code zero (e ∷ es) d h =
    let most : how_many test es < suc (length es) = omega (arith, many_most test es) in
    (how_many test es, most, omega arith, rw (recoded_none code es) (omega arith))
many_recoded test code (suc k) (e ∷ es) d h =
    let (rest, most, before, after) = many_recoded test code k es d (omega arith) in
    let down : suc (suc k) - 1 ≡ suc k = omega arith in
    let other : eqb (suc (suc k)) 1 ≡ false = ne_eqb (suc (suc k)) 1 (λ e. omega arith) in
    (bit (test e) + rest, omega (arith, bit_most (test e)), omega arith, rw (other, down) (omega arith))

module _ (position code : ℕ) (es : List Entry) (d : Entry) (low : 1 ≤ position) (high : position ≤ length es) where
  parts : (test : Entry → Bool)
      → (rest : ℕ) × (rest < length es) × (how_many test es ≡ rest + bit (test (get_or es (position - 1) d)))
      × (how_many test (recoded_at position code es) ≡ rest + bit (test (recoded code (get_or es (position - 1) d))))
  parts test =
      let up : suc (position - 1) ≡ position = omega arith in
      rw up at (many_recoded test code (position - 1) es d (omega arith))

  used_same : (kind : ℕ → Bool) → (positions kind es).used ≡ (positions kind (recoded_at position code es)).used
  used_same kind = mask_same 8 1 _ _ (λ r low high. ap (λ (t : Bool). kind r && t) (in_use_recoded position code es r))

  revalued_own : length es ≤ 8 → (kind : ℕ → Bool) → kind (get_or es (position - 1) d).pointer ≡ true
      → revalued (get_or es (position - 1) d).priority code (positions kind es) ≡ positions kind (recoded_at position code es)
  revalued_own room kind own =
      let (rest, most, before, after) = parts (λ e. kind e.pointer && used_up e) in
      alike _ _ (used_same kind)
      (rw (before, own, one_less_law (get_or es (position - 1) d).priority rest) (one_more_law code rest (omega arith) ∙ sym (rw own at after)))

  revalued_other : (kind : ℕ → Bool) → kind (get_or es (position - 1) d).pointer ≡ false → positions kind es ≡ positions kind (recoded_at position code es)
  revalued_other kind other =
      let (rest, most, before, after) = parts (λ e. kind e.pointer && used_up e) in
      alike _ _ (used_same kind) (rw other at before ∙ sym (rw other at after))

pub tally_recoded : (c position code : ℕ) (es : List Entry) (d : Entry) → 1 ≤ position → position ≤ length es → length es ≤ 8
    → at_pointer c (get_or es (position - 1) d).pointer (revalued (get_or es (position - 1) d).priority code) (tally_of c es)
    ≡ tally_of c (recoded_at position code es)
tally_recoded c position code es d low high room =
    at_pointer_law c _ (revalued (get_or es (position - 1) d).priority code) es (recoded_at position code es)
    (revalued_own position code es d low high room)
    (revalued_other position code es d low high)

-- A pointer's bit in a fresh count.
pub used_bit : (kind : ℕ → Bool) (es : List Entry) (p : ℕ) → 1 ≤ p → p ≤ 8 → bit_of (positions kind es).used p ≡ kind p && in_use es p
used_bit kind es p low high = mask_bit 8 p (λ q. kind q && in_use es q) low high

-- How many of n pointers from one on pass a test.
abbrev pub vacancies : (ℕ → Bool) → ℕ → ℕ → ℕ
vacancies test zero p = 0
vacancies test (suc n) p = bit (test p) + vacancies test n (suc p)

free_same : (above last used : ℕ) (kind taken : ℕ → Bool)
    → ((p : ℕ) → 1 ≤ p → p ≤ 8 → bit_of used p ≡ kind p && taken p)
    → ((p : ℕ) → above < p → p ≤ last → kind p ≡ true)
    → (n p : ℕ) → 1 ≤ p → p + n ≤ 9
    → free_from above last used n p ≡ vacancies (λ q. ltb above q && leb q last && not (taken q)) n p
free_same above last used kind taken says own zero p low high = refl
free_same above last used kind taken says own (suc n) p low high =
    rw (free_same above last used kind taken says own n (suc p) (omega arith) (omega arith), says p low (omega arith))
    (ap (λ (t : Bool). bit t + vacancies (λ q. ltb above q && leb q last && not (taken q)) n (suc p)) (go (ltb above p && leb p last) refl))
  where
    go : (t : Bool) → ltb above p && leb p last ≡ t → t && not (kind p && taken p) ≡ t && not (taken p)
    go false e = refl
    go true e = let (over, under) = both (ltb above p) _ e in rw (own p (ltb-true _ _ over) (leb-true _ _ under))

-- The free pointers of a kind, by a fresh count: those that are not in use.
pub free_count : (kind : ℕ → Bool) (es : List Entry) (above last : ℕ) → ((p : ℕ) → above < p → p ≤ last → kind p ≡ true)
    → free_of above last (positions kind es) ≡ vacancies (λ p. ltb above p && leb p last && not (in_use es p)) 8 1
free_count kind es above last own =
    free_same above last (positions kind es).used kind (in_use es) (used_bit kind es) own 8 1 (omega arith) (omega arith)

-- To change the positions of a pointer's kind is to put what comes of them in their place.
pub put_own : {r : Tally} {old new : Positions} (c pointer : ℕ) (change : Positions → Positions) (t : Tally)
    → old ≡ pick (leb pointer c) t.counter t.plain → new ≡ change old → r ≡ at_pointer c pointer (λ was. new) t
    → r ≡ at_pointer c pointer change t
put_own c pointer change t own changed put = put ∙ rw (changed, own) (go (leb pointer c))
  where
    go : (b : Bool)
        → pick {A = Tally} b
        (record { counter = change (pick b t.counter t.plain); plain = t.plain })
        (record { counter = t.counter; plain = change (pick b t.counter t.plain) })
        ≡ pick b (record { counter = change t.counter; plain = t.plain }) (record { counter = t.counter; plain = change t.plain })
    go true = refl
    go false = refl

-- One pointer more of those that are free by a mask, with the code's test of its bit.
even : (x : ℕ) → not (odd x) ≡ eqb (x % 2) 0
even x = go (eqb (x % 2) 0) refl
  where
    go : (t : Bool) → eqb (x % 2) 0 ≡ t → not (odd x) ≡ t
    go true e = rw (eqb-true (x % 2) 0 e)
    go false e = let one : x % 2 ≡ 1 = omega (arith, eqb-false (x % 2) 0 e) in rw one

pub free_turn : (above last used k : ℕ) → k < 8
    → free_from above last used (8 - k) (k + 1)
    ≡ bit (ltb above (k + 1) && leb (k + 1) last && eqb (used / 2 ^ k % 2) 0) + free_from above last used (8 - (k + 1)) (k + 1 + 1)
free_turn above last used k more =
    let up : 8 - k ≡ suc (8 - (k + 1)) = omega arith in
    let down : k + 1 - 1 ≡ k = omega arith in
    let next : suc (k + 1) ≡ k + 1 + 1 = omega arith in
    rw (up, down, next, even (used / 2 ^ k))

-- Entries counted in one: their pointers in a mask, those used up, and those of them on counter positions.
pub among_in_use : (es : List Entry) (p : ℕ) → among p (map (λ (e : Entry). e.pointer) es) ≡ in_use es p
among_in_use [] p = refl
among_in_use (e ∷ es) p = ap (λ (t : Bool). eqb e.pointer p || t) (among_in_use es p)

many_split : (kind test : Entry → Bool) (es : List Entry) → how_many (λ e. kind e && test e) es + how_many (λ e. not (kind e) && test e) es ≡ how_many test es
many_split kind test [] = refl
many_split kind test (e ∷ es) = omega (arith, many_split kind test es, go (kind e) (test e))
  where
    go : (k t : Bool) → bit (k && t) + bit (not k && t) ≡ bit t
    go true t = omega arith
    go false t = omega arith

module _ (c : ℕ) (es : List Entry) where
  pub spent_few : (spent_of c es).counter ≤ (spent_of c es).all
  spent_few = omega (arith, many_split (λ e. leb e.pointer c) used_up es)

  pub spent_below : length es < 8 → ((spent_of c es).all < 8) × ((spent_of c es).counter < 8)
  spent_below few = (omega (arith, many_most used_up es), omega (arith, many_most (λ e. leb e.pointer c && used_up e) es))

  pub tally_counted : (used : ℕ) → used ≡ mask 8 1 (λ p. among p (map (λ (e : Entry). e.pointer) es))
      → record {
        counter = record { used = used % 2 ^ c; spent = (spent_of c es).counter };
        plain = record { used = used - used % 2 ^ c; spent = (spent_of c es).all - (spent_of c es).counter };
      }
      ≡ tally_of c es
  unfolding tally_of
  tally_counted used same =
      let all : used ≡ mask 8 1 (in_use es) = same ∙ mask_same 8 1 _ (in_use es) (λ p low high. among_in_use es p) in
      let low : used % 2 ^ c ≡ mask 8 1 (λ p. leb p c && in_use es p) = rw all (sym (mask_low 8 c (in_use es))) in
      let rest : used - used % 2 ^ c ≡ mask 8 1 (λ p. not (leb p c) && in_use es p) =
      rw low (omega (arith, all, mask_split 8 1 (λ p. leb p c) (in_use es))) in
      both_kinds (alike _ _ low refl) (alike _ _ rest (omega (arith, many_split (λ e. leb e.pointer c) used_up es)))

  -- One entry more.
  pub spent_more : (e : Entry)
      → record { all = (spent_of c es).all + bit (used_up e); counter = (spent_of c es).counter + bit (leb e.pointer c && used_up e) } ≡ spent_of c (es ++ (e ∷ []))
  spent_more e = rw (many_more used_up es e, many_more (λ x. leb x.pointer c && used_up x) es e)
