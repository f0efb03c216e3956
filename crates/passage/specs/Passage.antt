-- A passage at a gate. Document 02, Q-1.
use Rattle.std.specs.Prelude.{ℕ, ◌+◌, ◌-◌, ◌*◌, ◌/◌, ◌%◌, ◌^◌, Bool, ◌&&◌, List, [], ◌∷◌, ◌++◌, eqb, leb, length, get_or, set, take, replicate}
use Rattle.rows.specs.Row.{pick}
use Rattle.records.specs.Answer.{refusal}
use Rattle.records.specs.Event.{event_of, event_written}
use Rattle.records.specs.Order.{record_from}
use Rattle.records.specs.declared.event.Event.{Event}
use Rattle.selection.specs.Selection.{unselected, selected, changing}
use Rattle.selection.specs.Eligible.{Selection}
use Rattle.passage.specs.declared.Passage.{Passage}

-- The chosen entry's priority after use: 0 to 3 go up by four, 4 to 7 become 15, 8 to 11 stay.
abbrev pub used : ℕ → ℕ
used priority = pick (leb priority 3) (priority + 4) (pick (leb priority 7) 15 priority)

-- The numbers of an event with element [k] there: its bit of the bitmap, slot 2, is one, and slot 3 + k has its number.
abbrev pub element : ℕ → ℕ → List ℕ → List ℕ
element k number vals = set (set vals 2 (get_or vals 2 0 + 2 ^ k)) (3 + k) number

-- The event of a passage with the contract of a pointer: day and minute, and just [2] code, [4] provider and [25] contract pointer.
abbrev pub event_for : Passage → ℕ → Event
event_for p pointer =
    event_of (element 25 pointer (element 4 p.provider (element 2 p.code (p.day ∷ p.minute ∷ replicate 34 0)))) []

-- A record put first in a journal: the others move down one, unread, and the last falls off.
abbrev pub put_first : List ℕ → List ℕ → List ℕ
put_first new journal = new ++ take (length journal - 29) journal

-- The lengths of list, contract file and journal.
abbrev pub lengths : Passage → ℕ → ℕ → ℕ → Bool
lengths p list file journal = eqb list 29 && eqb file (29 * p.n) && eqb (journal % 29) 0

-- The limits of the number of journal records, the minute, the code and the provider; selection's own of the others follow.
abbrev pub limits : Passage → ℕ → Bool
limits p records =
    leb 1 records && leb records 15 && leb p.minute 1439 && leb p.code 255 && leb p.provider 255

-- What is chosen: 1, 11, then as selection says, which gives its own 11, the list's refusals, and 8.
unfoldable pub chosen : Passage → List ℕ → List ℕ → List ℕ → Selection
chosen p list file journal =
    pick (lengths p (length list) (length file) (length journal))
    (pick (limits p (length journal / 29)) (selected list file p.n p.c p.day p.operator) (unselected (refusal 11 0)))
    (unselected (refusal 1 0))

-- What a passage leaves: the answer, the contract list and the journal.
pub record Outcome : Type 0 where
  pub answer : Selection
  pub list : List ℕ
  pub journal : List ℕ

-- The list after: the chosen entry's priority is changed.
abbrev pub list_after : Passage → Selection → List ℕ → List ℕ
list_after p s list = (changing list p.n p.c s.position (used s.priority)).bytes

-- The journal after: the event is put first.
abbrev pub journal_after : Passage → Selection → List ℕ → List ℕ
journal_after p s journal = put_first (event_written (record_from journal 0) (event_for p s.pointer)).bytes journal

-- The answer is the choice. Both buffers change where there is one, and neither where it is refused.
abbrev pub settled : Passage → List ℕ → List ℕ → Selection → Outcome
settled p list journal s =
    pick (eqb s.refusal.number 0)
    (record { answer = s; list = list_after p s list; journal = journal_after p s journal })
    (record { answer = s; list = list; journal = journal })

unfoldable pub passing : Passage → List ℕ → List ℕ → List ℕ → Outcome
passing p list file journal = settled p list journal (chosen p list file journal)
