-- A change of priority alters four bits of the record.
use Prim.Native.Nat.{ℕ, zero, suc, ◌+◌, ◌-◌, ◌*◌, ◌/◌, ◌≤◌, ◌<◌}
use mathlib.Core.List.{List, [], ◌∷◌}
use mathlib.Core.Bool.{Bool, false}
use mathlib.Core.Path.{◌≡◌, refl, sym, ap, ◌∙◌}
use native.Mathlib.Omega.{arith}
use lib.Dec.{eqb}
use lib.ListN.{length, get_or, set, take, length-take, length-set}
use lib.Seq.{get_or-take}
use borrow.Author.Tests.{eq-eqb, ne_eqb}
use Rattle.bits.specs.Bits.{cut, spread}
use Rattle.bits.proofs.Cutting.{length-spread}
use Rattle.rows.specs.Row.{Row, pick}
use Rattle.rows.specs.Walk.{done, read_bare, write_bare, there, slots}
use Rattle.rows.specs.Raise.{named}
use Rattle.rows.specs.Change.{place_of, with_box, width_on, broken_by}
use Rattle.rows.specs.declared.When.TheVariants.{Bit}
use Rattle.rows.specs.Table.BestContracts.{contract_list}
use Rattle.rows.proofs.RoundTrip.{bare_slots, bare_write_length}
use Rattle.rows.proofs.Changing.{refers, bare_change}
use Rattle.records.specs.Answer.{accepted, from}
use Rattle.records.proofs.Inverse.{from_all}
use Rattle.lists.specs.List.{numbers_of, entries_of, list_of, outside, got_list, list_fault, list_read, list_written}
use Rattle.lists.specs.Listing.{column, write_list}
use Rattle.lists.specs.Entries.{recoded_at, with_priority, priority_place}
use Rattle.lists.specs.declared.list.ContractList.{ContractList}
use Rattle.lists.specs.declared.tally.Tally.{Tally}
use Rattle.lists.proofs.list.Laws.{Fair, fairly_right}
use Rattle.lists.proofs.Entries.{at_position}
use Rattle.lists.proofs.Fairness.{methods_fair}
use Rattle.lists.proofs.Kept.{full_at, list_was_read, list_kept, count_most, columns_kept}

-- What computing says of the slot of a priority.
record Slot (n code : ℕ) (vals : List ℕ) (k : ℕ) : Type 0 where
  free : refers (5 + 6 * k) (named (contract_list n)) ≡ false
  numbers : (t : Tally) → numbers_of (record { count = get_or vals 0 0; entries = recoded_at (suc k) code (entries_of vals); tally = t }) ≡ set (from 0 49 vals) (5 + 6 * k) code
  fault : list_fault n (set (from 0 49 vals) (5 + 6 * k) code) ≡ list_fault n (from 0 49 vals)
  rule : broken_by (contract_list n) (5 + 6 * k) code (from 0 49 vals) ≡ pick (eqb code 13) 4 0
  width : width_on (contract_list n) [] (from 0 49 vals) (5 + 6 * k) ≡ get_or (there (Bit (get_or (column 8 6 1 vals) k 0) 1) (4 ∷ 8 ∷ 4 ∷ [])) 2 0

slot : (n code : ℕ) (vals : List ℕ) (k : ℕ) → k < 8 → Slot n code vals k
unfolding contract_list
slot n code vals zero h = record { free = refl; numbers = λ t. refl; fault = refl; rule = refl; width = refl }
slot n code vals (suc zero) h = record { free = refl; numbers = λ t. refl; fault = refl; rule = refl; width = refl }
slot n code vals (suc (suc zero)) h = record { free = refl; numbers = λ t. refl; fault = refl; rule = refl; width = refl }
slot n code vals (suc (suc (suc zero))) h = record { free = refl; numbers = λ t. refl; fault = refl; rule = refl; width = refl }
slot n code vals (suc (suc (suc (suc zero)))) h = record { free = refl; numbers = λ t. refl; fault = refl; rule = refl; width = refl }
slot n code vals (suc (suc (suc (suc (suc zero))))) h = record { free = refl; numbers = λ t. refl; fault = refl; rule = refl; width = refl }
slot n code vals (suc (suc (suc (suc (suc (suc zero)))))) h = record { free = refl; numbers = λ t. refl; fault = refl; rule = refl; width = refl }
slot n code vals (suc (suc (suc (suc (suc (suc (suc zero))))))) h = record { free = refl; numbers = λ t. refl; fault = refl; rule = refl; width = refl }
slot n code vals (suc (suc (suc (suc (suc (suc (suc (suc k)))))))) h = absurd (omega arith)

pub slots_list : (n : ℕ) → slots (contract_list n) ≡ 49
unfolding contract_list
slots_list n = refl

-- A list whose table is written and that keeps the rule is written.
list_accepted : (fault : List ℕ → ℕ) (outside : Bool) (rows : List Row) (vals before : List ℕ) (bs : List Bool) (end : ℕ) → length before ≡ 29
    → outside ≡ false → write_bare rows 232 vals ≡ done bs end → fault vals ≡ 0
    → write_list fault outside rows vals before ≡ accepted (cut 8 8 (length before) bs)
unfolding write_list
list_accepted fault outside rows vals before bs end long inside w obeys = rw (eq-eqb _ _ long, inside, w, eq-eqb _ _ obeys)

module _ (n c code : ℕ) (before : List ℕ) (vals : List ℕ) (end : ℕ) (k : ℕ)
    (reads : read_bare (contract_list n) (spread 8 before) ≡ done vals end)
    (limits : outside n c ≡ false) (long : length before ≡ 29) (obeys : list_fault n vals ≡ 0)
    (room : k < 8) (counted : k < get_or vals 0 0) (fits : code ≤ 15) (defined : code ≡ 13 → ⊥) where
  all : from 0 49 vals ≡ vals
  unfolding contract_list
  all = from_all 49 vals (bare_slots (contract_list n) (spread 8 before) reads)

  facts : Slot n code vals k
  facts = slot n code vals k room

  four : width_on (contract_list n) [] vals (5 + 6 * k) ≡ 4
  four =
      let many : k < length (take (get_or vals 0 0) (column 8 6 1 vals)) = rw length-take (omega arith) in
      let full = full_at 3 (take (get_or vals 0 0) (column 8 6 1 vals)) k (columns_kept n vals obeys).0 many in
      let three : get_or (column 8 6 1 vals) k 0 / 2 ≡ 3 = rw (get_or-take (get_or vals 0 0) (column 8 6 1 vals) k 0 counted) at full in
      rw all at facts.width ∙ rw three

  allowed : broken_by (contract_list n) (5 + 6 * k) code vals ≡ 0
  allowed = rw all at facts.rule ∙ rw (ne_eqb _ _ defined)

  bits : List Bool
  bits = with_box (place_of (contract_list n) vals (5 + 6 * k)) 4 code (spread 8 before)

  recoded : (list_written n c (with_priority c (suc k) code (list_of c vals)) before ≡ accepted (cut 8 8 (length before) bits)) × (length bits ≡ 8 * length before)
  unfolding bits
  recoded =
      let old : ContractList = list_of c vals in
      let even : Fair c (with_priority c (suc k) code old) = (methods_fair c old refl refl).priority (suc k) code in
      let inside_count : suc k ≤ length (take (get_or vals 0 0) (entries_of vals)) = rw length-take (omega arith) in
      let numbers : numbers_of (with_priority c (suc k) code old) ≡ set vals (5 + 6 * k) code =
      ap numbers_of (at_position c (suc k) code old (omega arith) inside_count) ∙ rw all at (facts.numbers (with_priority c (suc k) code old).tally) in
      let plain : list_written n c (with_priority c (suc k) code old) before
      ≡ write_list (list_fault n) (outside n c) (contract_list n) (numbers_of (with_priority c (suc k) code old)) before =
      fairly_right c (with_priority c (suc k) code old) before _ even in
      let kept : list_fault n (set vals (5 + 6 * k) code) ≡ 0 = rw all at facts.fault ∙ obeys in
      let size : length (spread 8 before) ≡ 232 = length-spread 8 before ∙ rw long in
      let inside : 5 + 6 * k < slots (contract_list n) = rw (slots_list n) (omega arith) in
      let sized : length (set vals (5 + 6 * k) code) ≡ slots (contract_list n) = length-set vals (5 + 6 * k) code ∙ bare_slots (contract_list n) (spread 8 before) reads in
      let w = rw (size, four) at (bare_change (contract_list n) (spread 8 before) (5 + 6 * k) code reads inside facts.free (rw four (omega arith)) allowed) in (
        rw (plain, numbers) (list_accepted (list_fault n) (outside n c) (contract_list n) (set vals (5 + 6 * k) code) before bits end long limits w kept),
        bare_write_length (contract_list n) 232 (set vals (5 + 6 * k) code) sized w ∙ rw long,
      )

-- A list that was read, with one priority changed, is written as the record with just those four bits changed.
pub list_recoded : (n c : ℕ) (before : List ℕ) (l : ContractList) (position code : ℕ) → list_read n c before ≡ got_list l
    → 1 ≤ position → position ≤ l.count → code ≤ 15 → (code ≡ 13 → ⊥)
    → (list_written n c (with_priority c position code l) before ≡ accepted (cut 8 8 (length before) (with_box (priority_place n l position) 4 code (spread 8 before))))
    × (length (with_box (priority_place n l position) 4 code (spread 8 before)) ≡ 8 * length before)
unfolding bits
list_recoded n c before l position code h low high fits defined =
    let w = list_was_read n c before l h in
    let vals : List ℕ = w.vals in
    let most : get_or vals 0 0 ≤ n = count_most n (spread 8 before) w.slots in
    let eight : n ≤ 8 = (list_kept n c before l h).room.1 in
    let counts : get_or vals 0 0 ≡ l.count = ap (λ (x : ContractList). x.count) w.value in
    let up : suc (position - 1) ≡ position = omega arith in
    let place : 5 + 6 * (position - 1) ≡ 6 * position - 1 = omega arith in
    let numbers : numbers_of l ≡ vals = sym (ap numbers_of w.value) ∙ all n c code before vals w.end (position - 1) w.slots w.limits w.long w.obeys (omega arith) (omega arith) fits defined in
    let done = recoded n c code before vals w.end (position - 1) w.slots w.limits w.long w.obeys (omega arith) (omega arith) fits defined in (
      rw numbers (ap (λ (x : ContractList). list_written n c (with_priority c position code x) before) (sym w.value) ∙ rw (up, place) at done.0),
      rw numbers (rw place at done.1),
    )
