-- Every method of a contract list keeps its tally a fresh count; and so what loading makes of a list that was read is the list of
-- the entries afterwards.
use Prim.Native.Nat.{ℕ, zero, suc, ◌+◌, ◌-◌, ◌%◌, ◌^◌, ◌≤◌, ◌<◌}
use mathlib.Core.List.{List, [], ◌∷◌, ◌++◌}
use mathlib.Core.Bool.{Bool, true, false, not, ◌&&◌}
use mathlib.Core.Path.{◌≡◌, refl, ap, ◌∙◌}
use native.Mathlib.Omega.{arith}
use native.Mathlib.Numerals.{add-one}
use lib.Dec.{eqb, ltb, leb}
use lib.ListN.{length, get_or, set, take, length-append}
use lib.Seq.{get_or-take, length-take-le, take-suc, take-suc-set, take_all}
use borrow.Author.Tests.{lt-ltb, ltb-true, leb-true, le-leb, lt-leb}
use Rattle.bits.specs.Bits.{bit}
use Rattle.rows.specs.Row.{pick}
use Rattle.rows.proofs.Margins.{both}
use Rattle.lists.specs.List.{entry_of, entry_at, numbers_of, list_fault, fair}
use Rattle.lists.specs.Entries.{counted, listing, recoded, recoded_at, with_priority, without, without_pointer, appended}
use Rattle.lists.specs.Tally.{in_use, used_up, how_many, tally_of, same_tally, free_of, entered, revalued, at_pointer}
use Rattle.lists.specs.Inner.Judging.{Recounts}
use Rattle.lists.specs.declared.list.Entry.{Entry}
use Rattle.lists.specs.declared.list.ContractList.{ContractList}
use Rattle.lists.specs.declared.list.Recount.{Recount}
use Rattle.lists.specs.declared.rules.Judged.{Judged}
use Rattle.lists.specs.declared.tally.Spent.{Spent}
use Rattle.lists.specs.declared.tally.Tally.{Tally}
use Rattle.lists.proofs.Judging.{Turned, judges_none, judges_next}
use Rattle.lists.proofs.Tallying.{vacancies, free_count, tally_entered, tally_removed, tally_recoded, tally_counted, spent_few, spent_below, spent_more}
use Rattle.lists.proofs.Entries.{length_counted, length_without, filled, counted_filled, filled_more}
use Rattle.lists.proofs.list.Laws.{Fair, fault_list}

-- The first entries of a list with another priority are the first ones with it.
take_recoded : (m position code : ℕ) (es : List Entry) → take m (recoded_at position code es) ≡ recoded_at position code (take m es)
take_recoded zero position code es = refl
take_recoded (suc m) position code [] = refl
take_recoded (suc m) position code (e ∷ es) = ap (λ (l : List Entry). pick (eqb position 1) (recoded code e) e ∷ l) (take_recoded m (position - 1) code es)

module _ (c : ℕ) (l : ContractList) (eight : length l.entries ≡ 8) (even : Fair c l) where
  few : length (counted l) ≤ 8
  few = omega (arith, length_counted l eight)

  priority_fair : (position code : ℕ) → Fair c (with_priority c position code l)
  priority_fair position code = go (leb 1 position && leb position (length (counted l))) refl
    where
      old : Entry
      old = entry_at l (position - 1)

      go : (t : Bool) → leb 1 position && leb position (length (counted l)) ≡ t
          → Fair c (pick t
          (record {
            count = l.count;
            entries = recoded_at position code l.entries;
            tally = at_pointer c old.pointer (revalued old.priority code) l.tally;
          })
          l)
      go true e =
          let (first, last) = both _ _ e in
          let low : 1 ≤ position = leb-true _ _ first in
          let high : position ≤ length (counted l) = leb-true _ _ last in
          let inside : position - 1 < l.count = omega (arith, length_counted l eight) in
          let own : get_or (counted l) (position - 1) (entry_of [] 0) ≡ old = get_or-take l.count l.entries (position - 1) (entry_of [] 0) inside in
          rw (even, take_recoded l.count position code l.entries) (rw own at (tally_recoded c position code (counted l) (entry_of [] 0) low high few))
      go false e = even

  removal_tally : (pointer : ℕ) → (without_pointer c pointer l).tally ≡ tally_of c (without pointer (counted l))
  removal_tally pointer = rw even (tally_removed c pointer (counted l))

  -- The list that removal leaves.
  pub without_listing : (pointer : ℕ) → without_pointer c pointer l ≡ listing c (without pointer (counted l))
  without_listing pointer =
      ap (λ (t : Tally). record { count = length (without pointer (counted l)); entries = filled (without pointer (counted l)); tally = t }) (removal_tally pointer)

  removal_fair : (pointer : ℕ) → Fair c (without_pointer c pointer l)
  removal_fair pointer =
      rw (counted_filled (without pointer (counted l)) (omega (arith, few, length_without pointer (counted l)))) (removal_tally pointer)

  entry_fair : (e : Entry) → Fair c (appended c e l)
  entry_fair e = go (ltb l.count 8) refl
    where
      go : (t : Bool) → ltb l.count 8 ≡ t
          → Fair c (pick t
          (record {
            count = l.count + 1;
            entries = set l.entries l.count e;
            tally = at_pointer c e.pointer (entered e.pointer e.priority) l.tally;
          })
          l)
      go true room =
          let inside : l.count < 8 = ltb-true _ _ room in
          rw (even, add-one l.count, take-suc-set l.entries l.count e (rw eight inside))
          (tally_entered c (counted l) e (omega (arith, length_counted l eight)))
      go false full = even

  -- All three of them.
  pub record Methods : Type 0 where
    pub priority : (position code : ℕ) → Fair c (with_priority c position code l)
    pub removal : (pointer : ℕ) → Fair c (without_pointer c pointer l)
    pub entry : (e : Entry) → Fair c (appended c e l)

  pub methods_fair : Methods
  methods_fair = record { priority = priority_fair; removal = removal_fair; entry = entry_fair }

-- A list that is not full gets an entry more behind the others.
pub appended_listing : (c : ℕ) (e : Entry) (es : List Entry) → length es < 8 → appended c e (listing c es) ≡ listing c (es ++ (e ∷ []))
appended_listing c e es h =
    rw (lt-ltb _ _ h, length-append, filled_more e es h, tally_entered c es e h)

-- What the counter's screen shows of such a list: how many positions no entry has, and how many entries are used up.
module _ (n c : ℕ) (l : ContractList) (even : Fair c l) where
  -- those above one pointer and up to another
  abbrev vacant : ℕ → ℕ → ℕ
  vacant above last = vacancies (λ p. ltb above p && leb p last && not (in_use (counted l) p)) 8 1

  pub record Screen : Type 0 where
    pub free_counters : free_of 0 c l.tally.counter ≡ vacant 0 c
    pub free_plain : free_of c n l.tally.plain ≡ vacant c n
    pub used_up_counters : l.tally.counter.spent ≡ how_many (λ e. leb e.pointer c && used_up e) (counted l)
    pub used_up_plain : l.tally.plain.spent ≡ how_many (λ e. not (leb e.pointer c) && used_up e) (counted l)

  pub screen : Screen
  unfolding tally_of
  screen =
      record {
        free_counters = rw even (free_count (λ p. leb p c) (counted l) 0 c (λ p above most. le-leb p c most));
        free_plain = rw even (free_count (λ p. not (leb p c)) (counted l) c n (λ p above most. rw (lt-leb p c above)));
        used_up_counters = rw even;
        used_up_plain = rw even;
      }

-- The first of some entries and one more.
take_more : (es : List Entry) (i : ℕ) (d : Entry) → i < length es → take (i + 1) es ≡ take i es ++ (get_or es i d ∷ [])
take_more es i d more = rw (add-one i) (take-suc es i d more)

-- A fresh tally, with an entry more and with all.
module _ (c : ℕ) (es : List Entry) (i : ℕ) (t : Tally) (so : t ≡ tally_of c (take i es)) where
  pub tally_more : length es ≤ 8 → (d : Entry) (u : Tally) → i < length es
      → u ≡ at_pointer c (get_or es i d).pointer (entered (get_or es i d).pointer (get_or es i d).priority) t
      → u ≡ tally_of c (take (i + 1) es)
  tally_more few d u more one =
      let room : length (take i es) < 8 = omega (arith, length-take-le i es (omega arith)) in
      one ∙ rw (so, take_more es i d more) (tally_entered c (take i es) (get_or es i d) room)

  pub tally_all : length es ≤ i → t ≡ tally_of c es
  tally_all all = rw (take_all i es all) at so

-- A fresh count, and the rule, entry by entry.
pub recount_none : (n c : ℕ) → Recounts n c [] (record { judged = record { used = 0; fault = 0 }; spent = record { all = 0; counter = 0 } })
recount_none n c = record { judges = judges_none 3 n; spent = refl }

module _ (n c : ℕ) (es : List Entry) (i : ℕ) (j : Judged) (s : Spent) (so : Recounts n c (take i es) (record { judged = j; spent = s })) where
  module _ (few : length es ≤ 8) (more : i < length es) where
    long : length (take i es) ≡ i
    long = length-take-le i es (omega arith)

    pub recount_few : (s.all < 8) × (s.counter < 8)
    recount_few = rw so.spent (spent_below c (take i es) (omega (arith, long)))

    pub recount_more : (d : Entry) (i' : Judged) (t : Spent)
        → t ≡ record { all = s.all + bit (used_up (get_or es i d)); counter = s.counter + bit (leb (get_or es i d).pointer c && used_up (get_or es i d)) }
        → Turned 3 n j (i + 1) (get_or es i d).bitmap (get_or es i d).pointer i'
        → Recounts n c (take (i + 1) es) (record { judged = i'; spent = t })
    recount_more d i' t one turned =
        let next = take_more es i d more in
        record {
          judges = judges_next _ _ 3 n es i d more so.judges turned;
          spent = one ∙ rw (so.spent, next) (spent_more c (take i es) (get_or es i d));
        }

  pub recount_all : length es ≤ i → Recounts n c es (record { judged = j; spent = s })
  recount_all all = rw (take_all i es all) at so

-- The cursor after the rule and the tally, by such a count.
module _ (n c : ℕ) (l : ContractList) (eight : length l.entries ≡ 8) (r : Recount) (so : Recounts n c (counted l) r) where
  pub rule_held : r.judged.fault ≡ list_fault n (numbers_of l)
  rule_held = so.judges.fault ∙ fault_list n l eight

  pub recount_ready : r.spent.counter ≤ r.spent.all
  recount_ready = rw so.spent (spent_few c (counted l))

  -- What the tally is held to, where no entry is at fault.
  pub tally_held : (t : Tally) → r.judged.fault ≡ 0
      → t ≡ record {
        counter = record { used = r.judged.used % 2 ^ c; spent = r.spent.counter };
        plain = record { used = r.judged.used - r.judged.used % 2 ^ c; spent = r.spent.all - r.spent.counter };
      }
      → same_tally l.tally t ≡ fair c l
  tally_held t clear made =
      ap (same_tally l.tally) (made ∙ rw so.spent (tally_counted c (counted l) r.judged.used (so.judges.used clear)))
