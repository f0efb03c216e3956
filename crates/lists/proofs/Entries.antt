-- Laws of what operations do to the entries of a contract list.
use Prim.Native.Nat.{ℕ, zero, suc, ◌+◌, ◌-◌, ◌≤◌, ◌<◌, min}
use mathlib.Core.List.{List, [], ◌∷◌, ◌++◌, append-nil}
use mathlib.Core.Bool.{Bool, true, false, ◌&&◌}
use mathlib.Core.Path.{◌≡◌, refl, sym, ap, ◌∙◌}
use native.Mathlib.Omega.{arith}
use native.Mathlib.Numerals.{add-one}
use lib.Dec.{eqb, ltb, leb}
use lib.ListN.{length, get_or, set, take, drop, drop_of_length-le, length-append, length-take, length-set, get_or-append, get_or-eq_default}
use lib.Seq.{drop-cons, get_or-append_seam, take-suc, take-suc-set, take_all, get_or-take, drop-set-lt, length-take-le}
use borrow.Author.Tests.{eq-eqb, ne_eqb, ltb-true, ltb-false, le-leb, lt-leb}
use Rattle.bits.specs.Bits.{bit}
use Rattle.rows.specs.Row.{pick}
use Rattle.records.specs.Answer.{named}
use Rattle.lists.specs.List.{entry_of, entry_at}
use Rattle.lists.specs.Entries.{counted, recoded, recoded_at, with_priority, without, without_pointer}
use Rattle.lists.specs.Tally.{used_up, how_many, removed, revalued, at_pointer}
use Rattle.lists.specs.declared.list.Entry.{Entry}
use Rattle.lists.specs.declared.list.ContractList.{ContractList}
use Rattle.lists.specs.declared.tally.Tally.{Tally}
use Rattle.lists.proofs.Tallying.{many_more, many_most, recoded_none}

-- Another priority at a position is a store.
pub recoded_set : (k code : ℕ) (es : List Entry) (d : Entry) → k < length es
    → set es k (recoded code (get_or es k d)) ≡ recoded_at (suc k) code es
recoded_set k code [] d h = absurd (omega arith)
recoded_set zero code (e ∷ es) d h = ap (λ (l : List Entry). recoded code e ∷ l) (sym (recoded_none code es))
recoded_set (suc k) code (e ∷ es) d h =
    let other : eqb (suc (suc k)) 1 ≡ false = ne_eqb (suc (suc k)) 1 (λ e. omega arith) in
    let down : suc (suc k) - 1 ≡ suc k = omega arith in
    rw (other, down) (ap (λ (l : List Entry). e ∷ l) (recoded_set k code es d (omega arith)))

length_recoded : (position code : ℕ) (es : List Entry) → length (recoded_at position code es) ≡ length es
length_recoded position code [] = refl
length_recoded position code (e ∷ es) = ap suc (length_recoded (position - 1) code es)

-- There are at most as many counted entries as there is room for.
pub length_counted : (l : ContractList) → length l.entries ≡ 8 → length (counted l) ≡ min l.count 8
length_counted l eight = rw (length-take, eight)

pub few_counted : (l : ContractList) {es : List Entry} → length l.entries ≡ 8 → es ≡ counted l → length es ≤ 8
few_counted l eight same = rw same (omega (arith, length_counted l eight))

module _ (c position code : ℕ) (l : ContractList) where
  -- A position of a counted entry, and any other.
  pub at_position : 1 ≤ position → position ≤ length (counted l)
      → with_priority c position code l
      ≡ record {
        count = l.count;
        entries = recoded_at position code l.entries;
        tally = at_pointer c (entry_at l (position - 1)).pointer (revalued (entry_at l (position - 1)).priority code) l.tally;
      }
  at_position low high = rw (le-leb _ _ low, le-leb _ _ high)

  -- It has as many entries as before.
  pub length_with_priority : length (with_priority c position code l).entries ≡ length l.entries
  length_with_priority = go (leb 1 position && leb position (length (counted l)))
    where
      go : (t : Bool)
          → length (pick t
          (record {
            count = l.count;
            entries = recoded_at position code l.entries;
            tally = at_pointer c (entry_at l (position - 1)).pointer (revalued (entry_at l (position - 1)).priority code) l.tally;
          })
          l).entries
          ≡ length l.entries
      go true = length_recoded position code l.entries
      go false = refl

  pub no_position : position < 1 → l ≡ with_priority c position code l
  no_position none = rw (lt-leb _ _ none)

  pub past_position : 1 ≤ position → length (counted l) < position → l ≡ with_priority c position code l
  past_position low past = rw (le-leb _ _ low, lt-leb _ _ past)

  pub stored : (t : Tally) → length l.entries ≡ 8 → 1 ≤ position → position ≤ length (counted l)
      → t ≡ at_pointer c (entry_at l (position - 1)).pointer (revalued (entry_at l (position - 1)).priority code) l.tally
      → record { count = l.count; entries = set l.entries (position - 1) (recoded code (entry_at l (position - 1))); tally = t }
      ≡ with_priority c position code l
  stored t eight low high same =
      let up : suc (position - 1) ≡ position = omega arith in
      let entries = rw up at (recoded_set (position - 1) code l.entries (entry_of [] 0) (omega (arith, length_counted l eight))) in
      rw (entries, same) (sym (at_position low high))

module _ {A : Type 0} (d : A) where
  -- What stands at a place of a list by name.
  pub named_get : (i n k : ℕ) (l : List A) → k < n → get_or (named d i n l) k d ≡ get_or l (i + k) d
  named_get i zero k l h = absurd (omega arith)
  named_get i (suc n) zero l h = let same : i ≡ i + 0 = omega arith in ap (λ (j : ℕ). get_or l j d) same
  named_get i (suc n) (suc k) l h = let same : suc i + k ≡ i + suc k = omega arith in named_get (suc i) n k l (omega arith) ∙ ap (λ (j : ℕ). get_or l j d) same

  -- Past the end of a list, one element more changes nothing.
  named_past : (i n : ℕ) (l : List A) (a : A) → length l < i → named d i n l ≡ named d i n (l ++ (a ∷ []))
  named_past i zero l a h = refl
  named_past i (suc n) l a h =
      let short : length l ≤ i = omega arith in
      let long : length (l ++ (a ∷ [])) ≤ i = simp length-append (omega arith) in
      rw (get_or-eq_default l d short, get_or-eq_default (l ++ (a ∷ [])) d long, named_past (suc i) n l a (omega arith))

  -- The first place past the end is that of an element more.
  named_set : (i k n : ℕ) (l : List A) (a : A) → length l ≡ i + k → k < n → set (named d i n l) k a ≡ named d i n (l ++ (a ∷ []))
  named_set i k zero l a e h = absurd (omega arith)
  named_set i zero (suc n) l a e h =
      let here : length l ≡ i = omega arith in
      let own : get_or (l ++ (a ∷ [])) i d ≡ a = rw (← here) (get_or-append_seam l a [] d) in
      rw (own, named_past (suc i) n l a (omega arith))
  named_set i (suc k) (suc n) l a e h =
      let inside : i < length l = omega arith in
      rw (get_or-append l (a ∷ []) d i inside, named_set (suc i) k n l a (omega arith) (omega arith))

  -- By name they are the list.
  named_take : (i n : ℕ) (l : List A) → length l ≤ i + n → take (length l - i) (named d i n l) ≡ drop i l
  named_take i zero l h =
      let none : length l - i ≡ 0 = omega arith in
      let short : length l ≤ i = omega arith in
      rw none (sym (drop_of_length-le l short))
  named_take i (suc n) l h = go (ltb i (length l)) refl (named_take (suc i) n l (omega arith))
    where
      go : (t : Bool) → ltb i (length l) ≡ t → take (length l - suc i) (named d (suc i) n l) ≡ drop (suc i) l
          → take (length l - i) (get_or l i d ∷ named d (suc i) n l) ≡ drop i l
      go true e rest =
          let inside : i < length l = ltb-true _ _ e in
          let up : length l - i ≡ suc (length l - suc i) = omega arith in
          rw (up, drop-cons l i d inside, rest)
      go false e rest =
          let past : length l ≤ i = ltb-false _ _ e in
          let none : length l - i ≡ 0 = omega arith in
          rw none (sym (drop_of_length-le l past))

-- Eight entries: these, and zeros behind them.
abbrev pub filled : List Entry → List Entry
filled es = named (entry_of [] 0) 0 8 es

-- The counted entries of a list of some are these.
pub counted_filled : (es : List Entry) → length es ≤ 8 → take (length es) (filled es) ≡ es
counted_filled es h =
    let all : length es - 0 ≡ length es = omega arith in
    rw all at (named_take (entry_of [] 0) 0 8 es (omega arith))

-- An entry more behind them.
pub filled_more : (e : Entry) (es : List Entry) → length es < 8 → set (filled es) (length es) e ≡ filled (es ++ (e ∷ []))
filled_more e es h = named_set (entry_of [] 0) 0 (length es) 8 es e (omega arith) h

-- What is left of two runs of entries.
without_append : (pointer : ℕ) (fs es : List Entry) → without pointer (fs ++ es) ≡ without pointer fs ++ without pointer es
without_append pointer [] es = refl
without_append pointer (f ∷ fs) es = go (eqb f.pointer pointer) (without_append pointer fs es)
  where
    go : (t : Bool) → without pointer (fs ++ es) ≡ without pointer fs ++ without pointer es
        → pick t (without pointer (fs ++ es)) (f ∷ without pointer (fs ++ es)) ≡ pick t (without pointer fs) (f ∷ without pointer fs) ++ without pointer es
    go true rest = rest
    go false rest = ap (λ (l : List Entry). f ∷ l) rest

pub length_without : (pointer : ℕ) (es : List Entry) → length (without pointer es) ≤ length es
length_without pointer [] = omega arith
length_without pointer (e ∷ es) = go (eqb e.pointer pointer) (length_without pointer es)
  where
    go : (t : Bool) → length (without pointer es) ≤ length es → length (pick t (without pointer es) (e ∷ without pointer es)) ≤ suc (length es)
    go true h = omega arith
    go false h = omega arith

-- An entry of a pointer, and used up.
abbrev pub spent_on : ℕ → Entry → Bool
spent_on pointer e = eqb e.pointer pointer && used_up e

-- The entries of a list, of whose first `i` counted ones those that are not of a pointer have moved down, `left` of them, while
-- those from `i` on are as they were; of the others so many were used up.
pub record Thinning (pointer : ℕ) (l : ContractList) (es : List Entry) (gone left i : ℕ) : Type 0 where
  pub long : length l.entries ≡ 8
  pub eight : length es ≡ 8
  pub upto : left ≤ i
  pub front : take left es ≡ without pointer (take i (counted l))
  pub back : drop i es ≡ drop i l.entries
  pub spent : gone ≡ how_many (spent_on pointer) (take i (counted l))

-- Before the first.
pub thinning_start : (pointer : ℕ) (l : ContractList) → length l.entries ≡ 8 → Thinning pointer l l.entries 0 0 0
thinning_start pointer l long = record { long = long; eight = long; upto = omega arith; front = refl; back = refl; spent = refl }

module _ {pointer : ℕ} {l : ContractList} {es : List Entry} {gone left i : ℕ} (sofar : Thinning pointer l es gone left i) where
  module _ (d : Entry) (more : i < length (counted l)) where
    inside : i < 8
    inside = omega (arith, length_counted l sofar.long, more)

    -- The next entry is the one that the list has there, and so are those behind it.
    rest_same : get_or es i d ∷ drop (suc i) es ≡ get_or l.entries i d ∷ drop (suc i) l.entries
    rest_same =
        sym (drop-cons es i d (rw sofar.eight inside)) ∙ sofar.back ∙ drop-cons l.entries i d (rw sofar.long inside)

    behind : drop (suc i) es ≡ drop (suc i) l.entries
    behind = cc rest_same

    -- It is passed,
    passed : take (suc i) (counted l) ≡ take i (counted l) ++ (get_or es i d ∷ [])
    passed =
        let counts : i < l.count = omega (arith, length_counted l sofar.long, more) in
        let here : get_or (counted l) i d ≡ get_or es i d = cc (get_or-take l.count l.entries i d counts, rest_same) in
        rw (take-suc (counted l) i d more, here)

    next : without pointer (take (suc i) (counted l)) ≡ without pointer (take i (counted l)) ++ without pointer (get_or es i d ∷ [])
    next = rw passed (without_append pointer (take i (counted l)) (get_or es i d ∷ []))

    counting : how_many (spent_on pointer) (take (suc i) (counted l)) ≡ gone + bit (spent_on pointer (get_or es i d))
    counting = rw (passed, sofar.spent) (many_more (spent_on pointer) (take i (counted l)) (get_or es i d))

    -- left out,
    pub thinning_out : (get_or es i d).pointer ≡ pointer → Thinning pointer l es (gone + bit (used_up (get_or es i d))) left (i + 1)
    thinning_out same =
        rw add-one (record {
          long = sofar.long;
          eight = sofar.eight;
          upto = omega arith;
          front = sofar.front ∙ sym (rw (eq-eqb _ _ same, append-nil) at next);
          back = behind;
          spent = sym (counting ∙ rw (eq-eqb _ _ same));
        })

    -- or kept.
    pub thinning_kept : ((get_or es i d).pointer ≡ pointer → ⊥) → Thinning pointer l (set es left (get_or es i d)) gone (left + 1) (i + 1)
    thinning_kept other =
        rw (add-one left, add-one i) (record {
          long = sofar.long;
          eight = rw length-set sofar.eight;
          upto = omega arith;
          front = take-suc-set es left _ (omega (arith, inside)) ∙ rw sofar.front (sym (rw (ne_eqb _ _ other) at next));
          back = drop-set-lt (suc i) es left _ (omega arith) ∙ behind;
          spent = sym (counting ∙ rw (ne_eqb _ _ other) (omega arith));
        })

  -- After the last, those that are not of the pointer stand in front, and the others are counted.
  pub thinning_all : length (counted l) ≤ i → take left es ≡ without pointer (counted l)
  thinning_all all = sofar.front ∙ ap (without pointer) (take_all i (counted l) all)

  pub gone_all : length (counted l) ≤ i → gone ≡ how_many (spent_on pointer) (counted l)
  gone_all all = sofar.spent ∙ ap (how_many (spent_on pointer)) (take_all i (counted l) all)

  -- So the list is the one without the pointer.
  pub thinned : (c : ℕ) (t : Tally) → length (counted l) ≤ i → t ≡ at_pointer c pointer (removed pointer gone) l.tally
      → record { count = length (take left es); entries = filled (take left es); tally = t } ≡ without_pointer c pointer l
  thinned c t all same = rw (same, thinning_all all, gone_all all)

  -- There are no more than were passed.
  pub gone_few : gone ≤ i
  gone_few = omega (arith, sofar.spent, many_most (spent_on pointer) (take i (counted l)), length-take i (counted l))

-- A list that counts some entries, and whose places below `k` hold these and then zeros.
pub record Clearing (kept : List Entry) (t : Tally) (l : ContractList) (k : ℕ) : Type 0 where
  pub tallies : l.tally ≡ t
  pub counts : l.count ≡ length kept
  pub eight : length l.entries ≡ 8
  pub past : length kept ≤ k
  pub front : take k l.entries ≡ take k (filled kept)

-- At first it holds just these.
pub clearing_start : (l : ContractList) → length l.entries ≡ 8 → l.count ≤ 8 → Clearing (counted l) l.tally l l.count
clearing_start l eight few =
    let sized : length (counted l) ≡ l.count = length-take-le l.count l.entries (rw eight few) in
    record { tallies = refl; counts = sym sized; eight = eight; past = omega arith; front = rw sized at (sym (counted_filled (counted l) (omega arith))) }

module _ {kept : List Entry} {t : Tally} {l : ContractList} {k : ℕ} (sofar : Clearing kept t l k) where
  -- A zero entry more.
  pub clearing_more : k < 8 → Clearing kept t (record { count = l.count; entries = set l.entries k (entry_of [] 0); tally = l.tally }) (k + 1)
  clearing_more more =
      let zeros : get_or (filled kept) k (entry_of [] 0) ≡ entry_of [] 0 =
      named_get _ 0 8 k kept more ∙ get_or-eq_default kept _ (omega (arith, sofar.past)) in
      rw add-one (record {
        tallies = sofar.tallies;
        counts = sofar.counts;
        eight = rw length-set sofar.eight;
        past = omega arith;
        front = take-suc-set l.entries k _ (omega arith) ∙ rw sofar.front (sym (rw zeros at (take-suc (filled kept) k (entry_of [] 0) more)));
      })

  -- At the end it is the list of these entries.
  pub clearing_all : 8 ≤ k → l ≡ record { count = length kept; entries = filled kept; tally = t }
  clearing_all all =
      let cleared : l.entries ≡ filled kept = sym (take_all k l.entries (omega arith)) ∙ sofar.front ∙ take_all k (filled kept) all in
      rw (← sofar.counts, ← cleared, ← sofar.tallies)
