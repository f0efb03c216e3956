-- What a passage answers and leaves. Document 02, Q-1.
use Prim.Native.Nat.{ℕ, zero, suc, ◌+◌, ◌-◌, ◌*◌, ◌/◌, ◌≤◌, ◌<◌}
use mathlib.Core.Bool.{Bool, true, false}
use mathlib.Core.List.{List, [], ◌∷◌, ◌++◌}
use mathlib.Core.Path.{◌≡◌, refl, sym, ap, ◌∙◌}
use native.Mathlib.Omega.{arith}
use lib.Dec.{eqb}
use lib.ListN.{length, take, drop, length-append}
use lib.Seq.{get_or-take, length-take-le, take_at, drop-append-add, take-take}
use borrow.Author.Tests.{eq-eqb, ne_eqb, leb-true}
use Rattle.rows.specs.Row.{pick}
use Rattle.rows.proofs.Margins.{both}
use Rattle.records.specs.Answer.{Answer, Written, refusal, accepted}
use Rattle.records.specs.Event.{event_read}
use Rattle.records.specs.Order.{record_from}
use Rattle.std.specs.Prelude.{Ok}
use Rattle.records.proofs.Coming.{ComesTo, fine, faulty, either, stops}
use Rattle.lists.specs.List.{entry_at, got_list, list_read}
use Rattle.lists.specs.Entries.{counted, with_priority}
use Rattle.lists.specs.declared.list.Entry.{Entry}
use Rattle.lists.proofs.Kept.{list_kept}
use Rattle.selection.specs.Eligible.{Selection, eligible}
use Rattle.selection.specs.Selection.{unselected, selected}
use Rattle.selection.proofs.Least.{nth}
use Rattle.selection.proofs.Laws.{Chosen, accepted_chosen, chosen_of, chosen_pointer, select_comes}
use Rattle.selection.proofs.FourBits.{MayChange, reads_changed}
use Rattle.gate.specs.Writes.{finding, applying}
use Rattle.passage.specs.Passage.{used, event_for, lengths, limits, chosen, Outcome, list_after, journal_after, settled, passing}
use Rattle.passage.specs.declared.Passage.{Passage}
use Rattle.passage.proofs.Passing.{unchanged, Within, within_limits}
use Rattle.passage.proofs.Raising.{used_fits, within_count, gate_makes}
use Rattle.passage.proofs.Writing.{Recorded, recorded}

-- What a passage leaves where a contract is chosen, of the choice and both buffers; and where it is refused.
abbrev pub passed_as : (ℕ × Entry) × List ℕ × List ℕ → Outcome
passed_as x = record { answer = chosen_of x.0; list = x.1; journal = x.2 }

abbrev pub unpassed : List ℕ → List ℕ → Answer → Outcome
unpassed list journal r = unchanged (unselected r) list journal

-- A choice settled: the answer is the choice;
settled_answer : (p : Passage) (list journal : List ℕ) (s : Selection) → (settled p list journal s).answer ≡ s
settled_answer p list journal s = go (eqb s.refusal.number 0)
  where
    go : (t : Bool) → (pick t (record { answer = s; list = list_after p s list; journal = journal_after p s journal }) (unchanged s list journal)).answer ≡ s
    go true = refl
    go false = refl

-- one that was not refused changes both.
settled_chosen : (p : Passage) (list journal : List ℕ) (s : Selection) → s.refusal.number ≡ 0
    → ((settled p list journal s).list ≡ list_after p s list) × ((settled p list journal s).journal ≡ journal_after p s journal)
settled_chosen p list journal s right = rw (eq-eqb _ _ right) (refl, refl)

-- A record that stands before an end.
front_moved : (l : List ℕ) (end at : ℕ) → 29 ≤ end - at → take 29 (drop at (take end l)) ≡ take 29 (drop at l)
front_moved l end zero room = take-take 29 end l (omega arith)
front_moved [] zero (suc at) room = refl
front_moved [] (suc end) (suc at) room = refl
front_moved (x ∷ l) zero (suc at) room = absurd (omega arith)
front_moved (x ∷ l) (suc end) (suc at) room = front_moved l end at (omega arith)

-- An eligible entry's priority is usable.
eligible_usable : (day operator : ℕ) (file : List ℕ) (e : Entry) → eligible day operator file e ≡ true → e.priority ≤ 11
eligible_usable day operator file e fit = let (low, rest) = both _ _ fit in leb-true _ _ low

module _ (p : Passage) (list file journal : List ℕ) where
  abbrev out : Outcome
  out = passing p list file journal

  -- The answer of selection.
  abbrev pub choice : Selection
  choice = selected list file p.n p.c p.day p.operator

  -- The answer is what is chosen.
  answered : out.answer ≡ chosen p list file journal
  unfolding passing
  answered = settled_answer p list journal (chosen p list file journal)

  -- Lengths and limits being right, that is selection's answer, refused or not.
  pub as_selected : lengths p (length list) (length file) (length journal) ≡ true → limits p (length journal / 29) ≡ true → out.answer ≡ choice
  unfolding chosen
  as_selected right within = answered ∙ rw (right, within)

  chosen_comes : ComesTo chosen_of unselected (1 ∷ 11 ∷ 2 ∷ 4 ∷ 5 ∷ 6 ∷ 8 ∷ []) (chosen p list file journal)
  unfolding chosen
  chosen_comes =
      either (lengths p (length list) (length file) (length journal))
      (either (limits p (length journal / 29)) (select_comes list file p.n p.c p.day p.operator) (stops (refusal 11 0) refl refl refl))
      (stops (refusal 1 0) refl refl refl)

  -- The refusals of a passage.
  pub pass_comes : ComesTo passed_as (unpassed list journal) (1 ∷ 11 ∷ 2 ∷ 4 ∷ 5 ∷ 6 ∷ 8 ∷ []) out
  unfolding passing
  pass_comes = go chosen_comes
    where
      go : {ns : List ℕ} {s : Selection} → ComesTo chosen_of unselected ns s → ComesTo passed_as (unpassed list journal) ns (settled p list journal s)
      go (fine x) = fine (x, list_after p (chosen_of x) list, journal_after p (chosen_of x) journal)
      go (faulty r why) = rw (ne_eqb _ _ why.some) (faulty r why)

  -- Refused, both are as they were.
  pub refused_unchanged : (out.answer.refusal.number ≡ 0 → ⊥) → (out.list ≡ list) × (out.journal ≡ journal)
  refused_unchanged = go pass_comes
    where
      go : {ns : List ℕ} {x : Outcome} → ComesTo passed_as (unpassed list journal) ns x → (x.answer.refusal.number ≡ 0 → ⊥) → (x.list ≡ list) × (x.journal ≡ journal)
      go (fine x) h = absurd (h refl)
      go (faulty r why) h = (refl, refl)

  -- A passage: lengths and limits are right, and selection chose an entry.
  pub record Passed : Type 0 where
    pub lengths_agree : lengths p (length list) (length file) (length journal) ≡ true
    pub in_limits : limits p (length journal / 29) ≡ true
    pub chosen : Chosen list file p.n p.c p.day p.operator
    -- The answer is selection's.
    pub answer : out.answer ≡ choice
    pub list_after_law : out.list ≡ list_after p choice list
    pub journal_after_law : out.journal ≡ journal_after p choice journal

  -- Every one that is not refused is such.
  pub accepted_passage : out.answer.refusal.number ≡ 0 → Passed
  unfolding passing chosen
  accepted_passage right = go (lengths p (length list) (length file) (length journal)) refl (limits p (length journal / 29)) refl
    where
      number : {s : Selection} → out.answer ≡ s → s.refusal.number ≡ 0
      number is = sym (ap (λ (s : Selection). s.refusal.number) is) ∙ right

      go : (a : Bool) → lengths p (length list) (length file) (length journal) ≡ a → (b : Bool) → limits p (length journal / 29) ≡ b → Passed
      go true e true f =
          let same = as_selected e f in
          let is : chosen p list file journal ≡ choice = rw (e, f) in
          let after = settled_chosen p list journal choice (number same) in
          record {
            lengths_agree = e;
            in_limits = f;
            chosen = accepted_chosen list file p.n p.c p.day p.operator (number same);
            answer = same;
            list_after_law = ap (λ (s : Selection). (settled p list journal s).list) is ∙ after.0;
            journal_after_law = ap (λ (s : Selection). (settled p list journal s).journal) is ∙ after.1;
          }
      go true e false f = absurd (omega (arith, number {s = unselected (refusal 11 0)} (answered ∙ rw (e, f))))
      go false e b f = absurd (omega (arith, number {s = unselected (refusal 1 0)} (answered ∙ rw e)))

  module _ (a : Passed) where
    -- The chosen entry, whose priority is usable.
    abbrev entry : Entry
    entry = entry_at a.chosen.l (choice.position - 1)

    listed : nth (counted a.chosen.l) (choice.position - 1) ≡ entry
    listed =
        let low = a.chosen.low in
        let high = within_count a.chosen.l a.chosen.high in
        get_or-take a.chosen.l.count a.chosen.l.entries (choice.position - 1) _ (omega arith)

    priority : choice.priority ≡ entry.priority
    priority = a.chosen.priority ∙ ap (λ (e : Entry). e.priority) listed

    usable : entry.priority ≤ 11
    usable = rw listed at (eligible_usable p.day p.operator file (nth (counted a.chosen.l) (choice.position - 1)) a.chosen.fit)

    -- Its change is one that may be made,
    pub may_change : MayChange list p.n p.c choice.position (used choice.priority)
    may_change =
        let (fits, defined) = used_fits choice.priority (rw priority usable) in
        record {
          l = a.chosen.l;
          reading = a.chosen.reads;
          low = a.chosen.low;
          high = within_count a.chosen.l a.chosen.high;
          fits = fits;
          defined = defined;
        }

    -- so that the list afterwards reads as the old one with that one priority changed.
    pub list_reads : list_read p.n p.c out.list ≡ got_list (with_priority p.c choice.position (used choice.priority) a.chosen.l)
    unfolding may_change
    list_reads = rw a.list_after_law (reads_changed may_change)

    -- 01's gate write can always make it: it is found, and applied it gives the list afterwards.
    pub gate_writes : (spare : List ℕ) → length spare ≡ 29
        → ((finding list out.list spare).answer ≡ refusal 0 0) × (applying list (finding list out.list spare).bytes ≡ accepted out.list)
    unfolding may_change
    gate_writes spare room =
        rw a.list_after_law (gate_makes p.n p.c list choice.position may_change a.chosen.high usable (ap used priority) spare room)

    pub within : Within p (length journal / 29)
    within = within_limits p (length journal / 29) a.in_limits

    -- The event's record.
    event : Recorded p choice.pointer
    event =
        let kept = list_kept p.n p.c list a.chosen.l a.chosen.reads in
        let most = (chosen_pointer list file p.n p.c p.day p.operator a.chosen).1 in
        let eight = kept.room.1 in
        recorded p choice.pointer a.chosen.order.2 within.minute within.code within.provider (omega arith)

    -- The journal afterwards: that record, and all others but the last.
    after : out.journal ≡ event.bytes ++ take (length journal - 29) journal
    after =
        let one = within.some in
        let front : length (record_from journal 0) ≡ 29 = length-take-le 29 journal (omega arith) in
        a.journal_after_law ∙ ap (λ (w : Written). w.bytes ++ take (length journal - 29) journal) (event.written (record_from journal 0) front)

    -- It has as many records as before,
    pub length_journal : length out.journal ≡ length journal
    length_journal =
        let one = within.some in
        let rest : length (take (length journal - 29) journal) ≡ length journal - 29 = length-take-le (length journal - 29) journal (omega arith) in
        ap length after ∙ rw (length-append, event.long, rest) (omega arith)

    -- the first of which reads as the event,
    pub first_reads : event_read (record_from out.journal 0) ≡ Ok (event_for p choice.pointer)
    first_reads =
        ap (λ (l : List ℕ). event_read l) (ap (take 29) after ∙ take_at event.bytes (take (length journal - 29) journal) 29 event.long) ∙ event.reads

    -- and each other is the one that stood before it: the last fell off.
    pub rest_moved : (k : ℕ) → suc k < length journal / 29 → record_from out.journal (suc k) ≡ record_from journal k
    rest_moved k inside =
        let rest : List ℕ = take (length journal - 29) journal in
        let behind : length event.bytes + 29 * k ≡ 29 * suc k = rw event.long (omega arith) in
        let room : 29 ≤ length journal - 29 - 29 * k = omega arith in
        ap (λ (l : List ℕ). record_from l (suc k)) after
        ∙ ap (take 29) (rw behind at (drop-append-add event.bytes rest (29 * k)))
        ∙ front_moved journal (length journal - 29) (29 * k) room
