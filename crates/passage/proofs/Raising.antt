-- A gate's write can make the change of priority after use: no bit of the list need fall.
use Prim.Native.Nat.{ℕ, zero, suc, ◌+◌, ◌-◌, ◌*◌, ◌^◌, ◌≤◌, ◌<◌}
use mathlib.Core.Bool.{Bool, true, false}
use mathlib.Core.List.{List, [], ◌∷◌, ◌++◌}
use mathlib.Core.Path.{◌≡◌, refl, sym, ap, ap₂, ◌∙◌}
use native.Mathlib.Omega.{arith}
use lib.Dec.{eqb, leb}
use lib.ListN.{length, get_or, take, drop, length-take}
use lib.Seq.{set-get_or}
use borrow.Author.Tests.{ne_eqb, leb-true}
use Rattle.bits.specs.Bits.{bits_of, cut, spread, join}
use Rattle.bits.proofs.Cutting.{length_cut, length-spread, spread_cut, cut_lt}
use Rattle.bits.proofs.Spelling.{length-bits_of}
use Rattle.rows.specs.Row.{pick}
use Rattle.rows.specs.Change.{with_box}
use Rattle.rows.proofs.Boxes.{join-append}
use Rattle.records.specs.Answer.{Written, refusal, accepted}
use Rattle.lists.specs.List.{entry_of, entry_at, got_list, list_read, list_written}
use Rattle.lists.specs.Entries.{counted, recoded_at, with_priority, priority_place}
use Rattle.lists.specs.Listing.{read_list}
use Rattle.lists.specs.Tally.{revalued, at_pointer}
use Rattle.lists.specs.declared.list.Entry.{Entry}
use Rattle.lists.specs.declared.list.ContractList.{ContractList}
use Rattle.lists.specs.declared.tally.Tally.{Tally}
use Rattle.lists.proofs.list.Laws.{list_read_write}
use Rattle.lists.proofs.Entries.{recoded_set, at_position}
use Rattle.lists.proofs.Kept.{list_was_read}
use Rattle.lists.proofs.Recoding.{list_recoded}
use Rattle.selection.specs.Selection.{changing}
use Rattle.selection.proofs.FourBits.{MayChange, four_bits, bits_changed}
use Rattle.gate.specs.Writes.{finding, applying, NoneFalls}
use Rattle.gate.proofs.Laws.{join_at, none_falls_found, finds_applied}
use Rattle.passage.specs.Passage.{used}

-- The four bits after use are those before, and more.
used_raises : (priority : ℕ) → priority ≤ 11 → join (bits_of 4 priority) (bits_of 4 (used priority)) ≡ bits_of 4 (used priority)
used_raises zero h = refl
used_raises (suc zero) h = refl
used_raises (suc (suc zero)) h = refl
used_raises (suc (suc (suc zero))) h = refl
used_raises (suc (suc (suc (suc zero)))) h = refl
used_raises (suc (suc (suc (suc (suc zero))))) h = refl
used_raises (suc (suc (suc (suc (suc (suc zero)))))) h = refl
used_raises (suc (suc (suc (suc (suc (suc (suc zero))))))) h = refl
used_raises (suc (suc (suc (suc (suc (suc (suc (suc zero)))))))) h = refl
used_raises (suc (suc (suc (suc (suc (suc (suc (suc (suc zero))))))))) h = refl
used_raises (suc (suc (suc (suc (suc (suc (suc (suc (suc (suc zero)))))))))) h = refl
used_raises (suc (suc (suc (suc (suc (suc (suc (suc (suc (suc (suc zero))))))))))) h = refl
used_raises (suc (suc (suc (suc (suc (suc (suc (suc (suc (suc (suc (suc k)))))))))))) h = absurd (omega arith)

-- A usable priority after use is a priority.
pub used_fits : (priority : ℕ) → priority ≤ 11 → (used priority ≤ 15) × (used priority ≡ 13 → ⊥)
used_fits priority h = go (leb priority 3) refl (leb priority 7) refl
  where
    go : (a : Bool) → leb priority 3 ≡ a → (b : Bool) → leb priority 7 ≡ b
        → (pick a (priority + 4) (pick b 15 priority) ≤ 15) × (pick a (priority + 4) (pick b 15 priority) ≡ 13 → ⊥)
    go true e b f = let low : priority ≤ 3 = leb-true _ _ e in (omega arith, λ z. omega arith)
    go false e true f = (omega arith, λ z. omega arith)
    go false e false f = (omega arith, λ z. omega arith)

join_self : (bs : List Bool) → join bs bs ≡ bs
join_self [] = refl
join_self (true ∷ bs) = ap (λ (l : List Bool). true ∷ l) (join_self bs)
join_self (false ∷ bs) = ap (λ (l : List Bool). false ∷ l) (join_self bs)

-- Where a box's new bits have its old ones, so have all of the bits.
box_raises : (at v w : ℕ) (bs : List Bool) → join (bits_of 4 v) (bits_of 4 w) ≡ bits_of 4 w
    → join (with_box at 4 v bs) (with_box at 4 w bs) ≡ with_box at 4 w bs
box_raises at v w bs more =
    let rest : List Bool = drop (at + 4) bs in
    let long : length (bits_of 4 v) ≡ length (bits_of 4 w) = length-bits_of 4 v ∙ sym (length-bits_of 4 w) in
    rw (
      join-append (take at bs) (bits_of 4 v ++ rest) (take at bs) (bits_of 4 w ++ rest) refl,
      join-append (bits_of 4 v) rest (bits_of 4 w) rest long,
      join_self (take at bs),
      join_self rest,
      more,
    )

-- Bits that have all those of others fall nowhere.
joined_none_falls : (xs ys : List Bool) → length ys ≡ length xs → join xs ys ≡ ys → NoneFalls xs ys
joined_none_falls xs ys long more i one = sym (ap (λ (l : List Bool). get_or l i false) more) ∙ join_at xs ys i long ∙ rw one

-- A position of a counted entry is within the count.
pub within_count : {position : ℕ} (l : ContractList) → position ≤ length (counted l) → position ≤ l.count
within_count l high = let some = rw length-take at high in omega arith

-- An entry that is given the priority it has, one that is not used up, leaves the list as it is.
same_priority : (c position : ℕ) (l : ContractList) → 1 ≤ position → position ≤ length (counted l)
    → (entry_at l (position - 1)).priority ≤ 11
    → with_priority c position (entry_at l (position - 1)).priority l ≡ l
same_priority c position l low high usable =
    let old : Entry = entry_at l (position - 1) in
    let up : suc (position - 1) ≡ position = omega arith in
    let inside : position - 1 < length l.entries = let some = rw length-take at high in omega arith in
    let other : eqb old.priority 15 ≡ false = ne_eqb old.priority 15 (λ e. omega arith) in
    let entries : recoded_at position old.priority l.entries ≡ l.entries =
    rw up at (sym (recoded_set (position - 1) old.priority l.entries (entry_of [] 0) inside) ∙ set-get_or l.entries (position - 1) (entry_of [] 0)) in
    let tally : at_pointer c old.pointer (revalued old.priority old.priority) l.tally ≡ l.tally = rw other (kept (leb old.pointer c) l.tally) in
    at_position c position old.priority l low high
    ∙ ap₂ (λ (es : List Entry) (t : Tally). record { count = l.count; entries = es; tally = t }) entries tally
  where
    kept : (t : Bool) (x : Tally) → pick t x x ≡ x
    kept true x = refl
    kept false x = refl

-- A changed list is as long as before.
pub length_changed : {list : List ℕ} {n c position code : ℕ} → MayChange list n c position code → length (changing list n c position code).bytes ≡ length list
length_changed {list} m = rw (four_bits m) (length_cut 8 8 (length list) _)

-- A list reads by its bits alone.
same_bits : (n c : ℕ) (a b : List ℕ) → length a ≡ length b → spread 8 a ≡ spread 8 b → list_read n c a ≡ list_read n c b
unfolding read_list
same_bits n c a b long bits = rw (long, bits)

module _ (n c : ℕ) (list : List ℕ) (position : ℕ) where
  abbrev own : ContractList → ℕ
  own l = (entry_at l (position - 1)).priority

  -- The box of a priority holds it: written where it stands it changes nothing. Bytes made of the list's bits are below 256.
  own_box : (l : ContractList) → list_read n c list ≡ got_list l → 1 ≤ position → position ≤ length (counted l) → own l ≤ 11
      → with_box (priority_place n l position) 4 (own l) (spread 8 list) ≡ spread 8 list
  own_box l reads low high usable =
      let bytes : List ℕ = cut 8 8 (length list) (spread 8 list) in
      let size : length bytes ≡ length list = length_cut 8 8 (length list) (spread 8 list) in
      let bits : spread 8 bytes ≡ spread 8 list = spread_cut 8 (length list) (spread 8 list) (length-spread 8 list) in
      let again : list_read n c bytes ≡ got_list l = same_bits n c bytes list size bits ∙ reads in
      let long = size ∙ (list_was_read n c list l reads).long in
      let recoded = list_recoded n c bytes l position (own l) again low (within_count l high) (omega arith) (λ e. omega arith) in
      let kept : cut 8 8 (length bytes) (with_box (priority_place n l position) 4 (own l) (spread 8 bytes)) ≡ bytes =
      ap (λ (w : Written). w.bytes)
      (sym recoded.0
      ∙ ap (λ (x : ContractList). list_written n c x bytes) (same_priority c position l low high usable)
      ∙ list_read_write n c bytes bytes l (λ i. cut_lt 8 8 (length list) (spread 8 list) i) long again) in
      rw bits at (sym (spread_cut 8 (length bytes) _ recoded.1) ∙ ap (spread 8) kept)

  -- No bit falls from the list before to the list after use.
  use_raises : {code : ℕ} (m : MayChange list n c position code) → position ≤ length (counted m.l) → own m.l ≤ 11 → code ≡ used (own m.l)
      → NoneFalls (spread 8 list) (spread 8 (changing list n c position code).bytes)
  use_raises {code} m high usable is =
      let p : ℕ = own m.l in
      let place : ℕ = priority_place n m.l position in
      let before = own_box m.l m.reading m.low high usable in
      let after = bits_changed m in
      let raises : join (bits_of 4 p) (bits_of 4 code) ≡ bits_of 4 code = rw is (used_raises p usable) in
      let more = box_raises place p code (spread 8 list) raises in
      let all : join (spread 8 list) (spread 8 (changing list n c position code).bytes) ≡ spread 8 (changing list n c position code).bytes = rw after (rw before at more) in
      let size : length (spread 8 (changing list n c position code).bytes) ≡ length (spread 8 list) =
      length-spread 8 (changing list n c position code).bytes ∙ ap (λ (k : ℕ). 8 * k) (length_changed m) ∙ sym (length-spread 8 list) in
      joined_none_falls (spread 8 list) (spread 8 (changing list n c position code).bytes) size all

  -- So a gate's write can make the change: it is found, and applied it gives the list afterwards.
  pub gate_makes : {code : ℕ} (m : MayChange list n c position code) → position ≤ length (counted m.l) → own m.l ≤ 11 → code ≡ used (own m.l)
      → (spare : List ℕ) → length spare ≡ 29
      → ((finding list (changing list n c position code).bytes spare).answer ≡ refusal 0 0)
      × (applying list (finding list (changing list n c position code).bytes spare).bytes ≡ accepted (changing list n c position code).bytes)
  gate_makes {code} m high usable is spare room =
      let after : List ℕ = (changing list n c position code).bytes in
      let long = (list_was_read n c list m.l m.reading).long in
      let found = none_falls_found list after spare long (length_changed m ∙ long) room (use_raises m high usable is) in
      let small_after : (i : ℕ) → get_or after i 0 < 2 ^ 8 = λ i. rw (four_bits m) (cut_lt 8 8 (length list) _ i) in (
        ap (λ (w : Written). w.answer) found,
        finds_applied list after spare small_after (ap (λ (w : Written). w.answer.number) found),
      )
