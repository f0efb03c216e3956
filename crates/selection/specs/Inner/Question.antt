-- What an entry tells before its record is read, and the choice so far in code.
use Rattle.std.specs.Prelude.{ℕ, Bool, true, ◌&&◌, eqb, ltb, leb, Option, None, Some, Ok}
use Rattle.rows.specs.Row.{pick}
use Rattle.records.specs.Order.{Attempt, got, stopped}
use Rattle.records.specs.Answer.{refusal}
use Rattle.lists.specs.declared.list.Entry.{Entry}
use Rattle.selection.specs.Eligible.{Selection, usable, nobody}
use Rattle.selection.specs.Selection.{selected_answer}
use Rattle.selection.specs.declared.Selected.{Selected}

-- A key opens to an operator, or does so where the contract's provider says so.
abbrev pub may_open : ℕ → ℕ → Bool
may_open operator key = pick (eqb key 0) true (pick (eqb key 15) (leb 15 operator) (eqb key operator))

abbrev pub selected_at : ℕ → Entry → Selected
selected_at position e = record { position = position; pointer = e.pointer; priority = e.priority }

-- The choice so far, and the whole choice: 8 where there is none.
abbrev pub so_far : Option Selected → Selection
so_far None = nobody
so_far (Some s) = selected_answer (Ok s)

abbrev pub sought : Option Selected → Attempt Selection
sought None = stopped (refusal 8 0)
sought (Some s) = got (selected_answer (Ok s))

-- An entry goes before the choice so far.
abbrev pub goes_before : Entry → Option Selected → Bool
goes_before e None = true
goes_before e (Some s) = ltb e.priority s.priority

abbrev pub better : Bool → ℕ → Entry → Option Selected → Option Selected
better ok position e best = pick (ok && goes_before e best) (Some (selected_at position e)) best

-- Whether the entry is better than the best so far is for its record to say: its priority is usable and goes before, and its
-- key may open.
abbrev pub in_question : ℕ → Entry → Option Selected → Bool
in_question operator e best = usable e && goes_before e best && may_open operator e.key
