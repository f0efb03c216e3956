-- Selection and loading read the list and the journal that a passage leaves.
use Prim.Native.Nat.{ℕ, zero, suc, ◌+◌, ◌-◌, ◌*◌, ◌/◌, ◌<◌}
use mathlib.Core.Bool.{Bool, true, false, ◌&&◌, true≢false}
use mathlib.Core.List.{List, [], ◌∷◌, Memᴰ}
use mathlib.Core.Path.{◌≡◌, refl, sym, ap, ap₂, ◌∙◌}
use native.Mathlib.Omega.{arith}
use lib.Dec.{eqb}
use lib.ListN.{length, get_or, take, length-map, get_or-map}
use borrow.Author.Tests.{eq-eqb}
use Rattle.bits.specs.Bits.{spread}
use Rattle.rows.specs.Row.{pick}
use Rattle.records.specs.Order.{Attempt, got, stopped, next, needs, record_from, events}
use Rattle.records.specs.declared.event.Event.{Event}
use Rattle.lists.specs.List.{entry_of, got_list, list_read}
use Rattle.lists.specs.Entries.{counted, recoded, recoded_at, with_priority}
use Rattle.lists.specs.Special.{special_read}
use Rattle.lists.specs.declared.list.Entry.{Entry}
use Rattle.lists.specs.declared.list.ContractList.{ContractList}
use Rattle.lists.specs.List.{ListRead}
use Rattle.lists.specs.declared.special.SpecialEntry.{SpecialEntry}
use Rattle.lists.proofs.Entries.{at_position}
use Rattle.lists.proofs.Judging.{take-map}
use Rattle.lists.proofs.list.Laws.{pointers}
use Rattle.lists.proofs.Kept.{list_was_read}
use Rattle.selection.specs.Selection.{answer, chosen, selecting, selected}
use Rattle.selection.specs.Selection as selection
use Rattle.selection.proofs.Least.{nth}
use Rattle.loading.specs.Blocking.{moment, recent, blocks, blocked}
use Rattle.loading.specs.Place.{erasable}
use Rattle.loading.specs.Loading.{Lent, specials, blocking, loading}
use Rattle.loading.specs.declared.Order.{Order}
use Rattle.loading.proofs.Told.{apart}
use Rattle.loading.proofs.Laws.{accepted_loading, erasable_leaves}
use Rattle.passage.specs.Passage.{used, event_for, Outcome, passing}
use Rattle.passage.specs.declared.Passage.{Passage}
use Rattle.passage.proofs.Laws.{choice, Passed, within, list_reads, length_journal, first_reads, rest_moved}

-- The events of records that moved are the same.
events_moved : (old new : List ℕ) (m i : ℕ) → ((k : ℕ) → k < i + m → record_from new (suc k) ≡ record_from old k) → events m new (suc i) ≡ events m old i
events_moved old new zero i same = refl
events_moved old new (suc m) i same =
    rw (same i (omega arith), events_moved old new m (suc i) (λ k h. same k (omega arith)))

-- Entry k of a list is in it.
member_at : (es : List Entry) (k : ℕ) → k < length es → Memᴰ (nth es k) es
member_at [] k h = absurd (omega arith)
member_at (e ∷ es) zero h = Memᴰ.head refl
member_at (e ∷ es) (suc k) h = Memᴰ.tail (member_at es k (omega arith))

-- Another priority leaves every pointer.
pointers_kept : (position code : ℕ) (es : List Entry) → pointers (recoded_at position code es) ≡ pointers es
pointers_kept position code [] = refl
pointers_kept position code (e ∷ es) = ap₂ (λ (x : ℕ) (xs : List ℕ). x ∷ xs) (go (eqb position 1)) (pointers_kept (position - 1) code es)
  where
    go : (t : Bool) → (pick t (recoded code e) e).pointer ≡ e.pointer
    go true = refl
    go false = refl

module _ (p : Passage) (list file journal : List ℕ) (a : Passed p list file journal) where
  abbrev out : Outcome
  out = passing p list file journal

  -- The list afterwards, the chosen pointer, and the event.
  abbrev after : ContractList
  after = with_priority p.c (choice p list file journal).position (used (choice p list file journal).priority) a.chosen.l

  abbrev own : ℕ
  own = (choice p list file journal).pointer

  abbrev event : Event
  event = event_for p own

  -- Selection afterwards is selection from the old entries with that one priority changed.
  pub selected_afterwards : (others : List ℕ) (day operator : ℕ)
      → selected out.list others p.n p.c day operator
      ≡ answer (needs (eqb (length others) (29 * p.n)) 1 (needs (selection.limits day operator) 11 (chosen (selection.choice day operator others after))))
  unfolding selected selecting
  selected_afterwards others day operator =
      let reads = list_reads p list file journal a in
      let long = (list_was_read p.n p.c out.list after reads).long in
      rw (eq-eqb _ _ long, reads)

  -- The events of the journal afterwards: the passage's, and those of the old journal but its last.
  pub events_afterwards : events (length out.journal / 29) out.journal 0 ≡ next (events (length journal / 29 - 1) journal 0) (λ past. got (event ∷ past))
  events_afterwards =
      let one = (within p list file journal a).some in
      let count : length out.journal / 29 ≡ suc (length journal / 29 - 1) = rw (length_journal p list file journal a) (omega arith) in
      let rest = events_moved journal out.journal (length journal / 29 - 1) 0 (λ k h. rest_moved p list file journal a k (omega arith)) in
      rw (count, first_reads p list file journal a, rest)

  -- What is blocked afterwards: by the passage's event, by those of the old journal but its last, and by the special events.
  pub blocking_afterwards : (o : Order) (special records codes : List ℕ)
      → blocking o special out.journal records codes
      ≡ next (specials (special_read o.s special))
      (λ entries. next (events (length journal / 29 - 1) journal 0)
      (λ past. next (events o.s records 0)
      (λ others. got (blocked codes (moment o.day o.minute) o.hours (event ∷ past) entries others))))
  unfolding blocking
  blocking_afterwards o special records codes = rw events_afterwards (go (specials (special_read o.s special)) (events (length journal / 29 - 1) journal 0))
    where
      go : (s : Attempt (List SpecialEntry)) (t : Attempt (List Event))
          → next s (λ entries. next (next t (λ past. got (event ∷ past)))
          (λ past. next (events o.s records 0) (λ others. got (blocked codes (moment o.day o.minute) o.hours past entries others))))
          ≡ next s (λ entries. next t
          (λ past. next (events o.s records 0) (λ others. got (blocked codes (moment o.day o.minute) o.hours (event ∷ past) entries others))))
      go (stopped r) t = refl
      go (got entries) (stopped r) = refl
      go (got entries) (got past) = refl

  -- The event blocks its pointer exactly where its code is marked and the hours have not passed, and no other pointer.
  pub event_blocks : (codes : List ℕ) (now hours pointer : ℕ)
      → blocks codes now hours pointer event
      ≡ eqb own pointer && (get_or (spread 8 codes) p.code false && recent now hours event)
  event_blocks codes now hours pointer = refl

  -- So there, where all events read, the pointer is blocked.
  pub pointer_blocked : (o : Order) (special records codes : List ℕ) (is_blocked : ℕ → Bool)
      → blocking o special out.journal records codes ≡ got is_blocked
      → get_or (spread 8 codes) p.code false ≡ true → recent (moment o.day o.minute) o.hours event ≡ true
      → is_blocked own ≡ true
  pointer_blocked o special records codes is_blocked reads marked fresh =
      go (specials (special_read o.s special)) (events (length journal / 29 - 1) journal 0) (events o.s records 0)
      (sym (blocking_afterwards o special records codes) ∙ reads)
    where
      go : (s : Attempt (List SpecialEntry)) (t u : Attempt (List Event))
          → next s (λ entries. next t (λ past. next u (λ others. got (blocked codes (moment o.day o.minute) o.hours (event ∷ past) entries others)))) ≡ got is_blocked
          → is_blocked own ≡ true
      go (stopped r) t u e = apart (sym e)
      go (got entries) (stopped r) u e = apart (sym e)
      go (got entries) (got past) (stopped r) e = apart (sym e)
      go (got entries) (got past) (got others) e =
          let same : blocked codes (moment o.day o.minute) o.hours (event ∷ past) entries others ≡ is_blocked = cc in
          sym (ap (λ (f : ℕ → Bool). f own) same) ∙ rw (eq-eqb own own refl, marked, fresh)

  -- The list afterwards has an entry of that pointer.
  listed_afterwards : (e : Entry) × Memᴰ e (counted after) × (e.pointer ≡ own)
  listed_afterwards =
      let l : ContractList = a.chosen.l in
      let position : ℕ = (choice p list file journal).position in
      let code : ℕ = used (choice p list file journal).priority in
      let low = a.chosen.low in
      let high = a.chosen.high in
      let kept : pointers (counted after) ≡ pointers (counted l) =
      ap (λ (x : ContractList). pointers (counted x)) (at_position p.c position code l low high)
      ∙ sym (take-map _ l.count (recoded_at position code l.entries))
      ∙ ap (take l.count) (pointers_kept position code l.entries)
      ∙ take-map _ l.count l.entries in
      let long : length (counted after) ≡ length (counted l) = sym (length-map (counted after) _) ∙ ap length kept ∙ length-map (counted l) _ in
      let inside : position - 1 < length (counted after) = rw long (omega arith) in
      let same : (nth (counted after) (position - 1)).pointer ≡ own =
      sym (get_or-map _ (counted after) (position - 1) (entry_of [] 0))
      ∙ ap (λ (xs : List ℕ). get_or xs (position - 1) 0) kept
      ∙ get_or-map _ (counted l) (position - 1) (entry_of [] 0)
      ∙ sym a.chosen.pointer in
      (nth (counted after) (position - 1), member_at (counted after) (position - 1) inside, same)

  -- And a loading that is accepted does not take it: the contract that opened the gate is not loaded over.
  pub not_loaded_over : (o : Order) (others : List ℕ) (lent : Lent) → o.n ≡ p.n → o.c ≡ p.c → lent.journal ≡ out.journal
      → get_or (spread 8 lent.codes) p.code false ≡ true → recent (moment o.day o.minute) o.hours event ≡ true
      → (loading o out.list others lent).answer.refusal.number ≡ 0
      → (loading o out.list others lent).answer.pointer ≡ own
      → ⊥
  not_loaded_over o others lent same_n same_c same_journal marked fresh right taken =
      let loaded = accepted_loading o out.list others lent right in
      let all = loaded.all in
      let again : list_read o.n o.c out.list ≡ got_list after = rw (same_n, same_c) (list_reads p list file journal a) in
      let read : all.l ≡ after = ap (λ (r : ListRead). r.list) (sym all.reads ∙ again) in
      let (e, listed, pointer) = listed_afterwards in
      let leaves = erasable_leaves o out.list others lent loaded e (rw read listed) (pointer ∙ sym taken) in
      let is_blocked = pointer_blocked o lent.special lent.records lent.codes all.blocked (rw (← same_journal) all.events) marked fresh in
      let not_erasable : erasable all.blocked e ≡ false = rw (pointer, is_blocked) (neither (eqb e.priority 15)) in
      true≢false (sym leaves ∙ not_erasable)
    where
      neither : (t : Bool) → t && false ≡ false
      neither true = refl
      neither false = refl
