-- What operations on several records share: steps in order, of which the first fault wins, and the records of a lent file.
-- Document 01, "Refusal numbers", the order.
use Rattle.std.specs.Prelude.{ℕ, zero, suc, ◌-◌, ◌*◌, ◌/◌, Bool, ◌&&◌, List, [], ◌∷◌, leb, length, take, drop}
use Rattle.rows.specs.Row.{pick}
use Rattle.records.specs.Answer.{refusal}
use Rattle.records.specs.Event.{event_read}
use Rattle.records.specs.Answer.{Answer}
use Rattle.records.specs.declared.event.Event.{Event}
use Rattle.records.specs.Event.{EventRead}
use Rattle.std.specs.Prelude.{Ok, Err}

-- What some steps come to: a value, or the refusal of the first that failed.
pub data Attempt (A : Type 0) : Type 0 where
  got : A → Attempt A
  stopped : Answer → Attempt A

abbrev pub next : {A B : Type 0} → Attempt A → (A → Attempt B) → Attempt B
next (got a) more = more a
next (stopped r) more = stopped r

-- A refusal with place 0 unless a test holds.
abbrev pub needs : {A : Type 0} → Bool → ℕ → Attempt A → Attempt A
needs holds n more = pick holds more (stopped (refusal n 0))

-- The record that starts at byte 29 × i of a lent file.
abbrev pub record_from : List ℕ → ℕ → List ℕ
record_from file i = take 29 (drop (29 * i) file)

-- The record at a pointer, from 1; nothing where the file has none.
abbrev pub record_at : List ℕ → ℕ → List ℕ
record_at file pointer = pick (leb 1 pointer && leb pointer (length file / 29)) (record_from file (pointer - 1)) []

-- An event that was read, or the refusal.
abbrev pub attempted : EventRead → Attempt Event
attempted (Ok e) = got e
attempted (Err r) = stopped r

-- n events of a lent file in order, the first starting at byte 29 × i.
abbrev pub events : ℕ → List ℕ → ℕ → Attempt (List Event)
events zero file i = got []
events (suc n) file i =
    next (attempted (event_read (record_from file i))) (λ e. next (events n file (suc i)) (λ es. got (e ∷ es)))
