-- Selection and the change of a priority, over bytes. Document 01, "Which contract the gate uses" and "Refusal numbers".
use Rattle.std.specs.Prelude.{ℕ, ◌*◌, Bool, not, ◌&&◌, ◌||◌, List, [], eqb, ltb, leb, length, Result, Ok, Err}
use Rattle.rows.specs.Row.{pick}
use Rattle.records.specs.Answer.{Answer, Written, as_answer, refusal, denied}
use Rattle.records.specs.declared.Refusal.{Refusal}
use Rattle.records.specs.Order.{Attempt, got, stopped, next, needs, record_at}
use Rattle.lists.specs.List.{list_read, list_written}
use Rattle.lists.specs.Entries.{counted, attempted, with_priority}
use Rattle.lists.specs.declared.list.ContractList.{ContractList}
use Rattle.selection.specs.Eligible.{Selection, eligible, nobody, choose}
use Rattle.selection.specs.declared.Selected.{Selected}

-- Refused, everything else is zero.
abbrev pub unselected : Answer → Selection
unselected r = record { refusal = r; position = 0; pointer = 0; priority = 0 }

-- The answer that code gives.
abbrev pub selected_answer : Result Selected Refusal → Selection
selected_answer (Ok s) = record { refusal = refusal 0 0; position = s.position; pointer = s.pointer; priority = s.priority }
selected_answer (Err r) = unselected (as_answer r)

abbrev pub answer : Attempt Selection → Selection
answer (got s) = s
answer (stopped r) = unselected r

-- The entry that is chosen from a list: 8 where none is eligible.
abbrev pub choice : ℕ → ℕ → List ℕ → ContractList → Selection
choice day operator file l = choose (eligible day operator file) 1 nobody (counted l)

abbrev pub chosen : Selection → Attempt Selection
chosen best = needs (not (eqb best.position 0)) 8 (got best)

-- The limits of day and operator; the list's own of n and c follow.
abbrev pub limits : ℕ → ℕ → Bool
limits day operator = leb day 16383 && leb operator 255

-- Which contract the gate uses: 1, 11, the list's own refusals, 8.
unfoldable pub selecting : List ℕ → List ℕ → ℕ → ℕ → ℕ → ℕ → Attempt Selection
selecting list file n c day operator =
    needs (eqb (length list) 29 && eqb (length file) (29 * n)) 1
    (needs (limits day operator) 11
    (next (attempted (list_read n c list)) (λ l. chosen (choice day operator file l))))

unfoldable pub selected : List ℕ → List ℕ → ℕ → ℕ → ℕ → ℕ → Selection
selected list file n c day operator = answer (selecting list file n c day operator)

-- The chosen contract's record, a part of the contract file; nothing on refusal.
unfoldable pub part_of : List ℕ → Selection → List ℕ
part_of file s = pick (eqb s.refusal.number 0) (record_at file s.pointer) []

-- A list that was read gets a priority changed: 11 where it has no such position.
abbrev pub changed : ℕ → ℕ → ℕ → ℕ → List ℕ → ContractList → Written
changed n c position code before l =
    pick (ltb l.count position) (denied (refusal 11 0) before) (list_written n c (with_priority c position code l) before)

abbrev pub settled : List ℕ → (ContractList → Written) → Attempt ContractList → Written
settled before more (got l) = more l
settled before more (stopped r) = denied r before

-- Change of a priority: 1; 11 for position 0, code 13 or a code above 15; the list's own; 11 for a position above the count.
unfoldable pub changing : List ℕ → ℕ → ℕ → ℕ → ℕ → Written
changing before n c position code =
    pick (eqb (length before) 29)
    (pick (eqb position 0 || eqb code 13 || ltb 15 code) (denied (refusal 11 0) before)
    (settled before (changed n c position code before) (attempted (list_read n c before))))
    (denied (refusal 1 0) before)
