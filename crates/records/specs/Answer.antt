-- What operations answer, and what they leave in the bytes lent to them. Document 01, "Refusal numbers"; 02, Q-2 and Q-7.
use Rattle.std.specs.Prelude.{ℕ, zero, suc, ◌*◌, Bool, true, false, List, [], ◌∷◌, eqb, length, get_or, replicate, Result, Ok, Err}
use Rattle.bits.specs.Bits.{cut, spread}
use Rattle.rows.specs.Why.{number_of}
use Rattle.rows.specs.Row.{Row, pick}
use Rattle.records.specs.declared.Refusal.{Refusal}
use Rattle.rows.specs.Walk.{Outcome, done, refused, Content, read, write}

-- A refusal, or zeros where nothing was refused.
pub record Answer : Type 0 where
  pub number : ℕ
  pub place : ℕ
  pub field : ℕ

-- A refusal in a walk: its number, its place, and the field at fault, by its rank in the table.
abbrev pub refusal_at : ℕ → ℕ → ℕ → Answer
refusal_at n at i = record { number = n; place = at; field = i }

-- One that names no field.
abbrev pub refusal : ℕ → ℕ → Answer
refusal n at = refusal_at n at 0

-- A refusal in code, by its number, and an answer in code: accepted is zeros.
abbrev pub as_answer : Refusal → Answer
as_answer r = refusal_at (number_of r.why) r.place r.field

abbrev pub answer_of : {A : Type 0} → Result A Refusal → Answer
answer_of (Ok a) = refusal 0 0
answer_of (Err r) = as_answer r

-- The same of a reading that keeps its value.
abbrev pub heard : {A : Type 0} → Result A Refusal → Result A Answer
heard (Ok a) = Ok a
heard (Err r) = Err (as_answer r)

-- The answer of an operation that writes, and the later contents of the bytes lent to it.
pub record Written : Type 0 where
  pub answer : Answer
  pub bytes : List ℕ

-- Accepted is zeros.
abbrev pub accepted : List ℕ → Written
accepted bytes = record { answer = refusal 0 0; bytes = bytes }

-- Refused, the bytes are as they were.
abbrev pub denied : Answer → List ℕ → Written
denied r before = record { answer = r; bytes = before }

-- Bits that are written are all of the bytes.
abbrev pub written : List ℕ → Outcome (List Bool) → Written
written before (done bs end) = accepted (cut 8 8 (length before) bs)
written before (refused n at i) = denied (refusal_at n at i) before

-- The answer to a reading: a value made of what was read, or the refusal.
abbrev pub answered : {A B : Type 0} → (A → B) → (Answer → B) → Outcome A → B
answered good bad (done a end) = good a
answered good bad (refused n at i) = bad (refusal_at n at i)

-- An answer that is an enum, in document 01's terms: whether it is the case that holds a value, the refusal's number, place and
-- field, and the numbers of the value.
pub record Told : Type 0 where
  pub holds : Bool
  pub number : ℕ
  pub place : ℕ
  pub field : ℕ
  pub values : List ℕ

abbrev pub told_value : List ℕ → Told
told_value values = record { holds = true; number = 0; place = 0; field = 0; values = values }

-- Refused, everything else is zero: so many numbers.
abbrev pub told_refusal : ℕ → Answer → Told
told_refusal n r = record { holds = false; number = r.number; place = r.place; field = r.field; values = replicate n 0 }

-- A value has its margin as words of 64 bits, as many as cover a record, or the longest area.
abbrev pub valued : {A : Type 0} → ℕ → (List ℕ → List ℕ → A) → Content → A
valued words good c = good c.numbers (cut 64 64 words c.margin)

-- What a value with such numbers and such a margin holds.
abbrev pub content : List ℕ → List ℕ → Content
content vals margin = record { numbers = vals; margin = spread 64 margin }

-- Reading a table from a record, which is 29 bytes: 1 else.
unfoldable pub read_record : {A : Type 0} → (List ℕ → List ℕ → A) → (Answer → A) → List Row → List ℕ → A
read_record good bad rows bytes =
    pick (eqb (length bytes) 29) (answered (valued 4 good) bad (read rows (spread 8 bytes))) (bad (refusal 1 0))

-- Writing a table to a record.
unfoldable pub write_record : List Row → List ℕ → List ℕ → List ℕ → Written
write_record rows vals margin before =
    pick (eqb (length before) 29) (written before (write rows 232 (content vals margin))) (denied (refusal 1 0) before)

-- An area is 1 to 4 records handed over together.
unfoldable pub area_length : ℕ → Bool
area_length n = pick (eqb n 29) true (pick (eqb n 58) true (pick (eqb n 87) true (eqb n 116)))

-- Reading a table from an area.
unfoldable pub read_area : {A : Type 0} → (List ℕ → List ℕ → A) → (Answer → A) → List Row → List ℕ → A
read_area good bad rows bytes =
    pick (area_length (length bytes)) (answered (valued 15 good) bad (read rows (spread 8 bytes))) (bad (refusal 1 0))

-- Writing a table to an area.
unfoldable pub write_area : List Row → List ℕ → List ℕ → List ℕ → Written
write_area rows vals margin before =
    pick (area_length (length before)) (written before (write rows (8 * length before) (content vals margin))) (denied (refusal 1 0) before)

-- The n elements of a list from i on, by name; d past the end.
abbrev pub named : {A : Type 0} → A → ℕ → ℕ → List A → List A
named d i zero l = []
named d i (suc n) l = get_or l i d ∷ named d (suc i) n l

-- The n numbers from slot i on.
abbrev pub from : ℕ → ℕ → List ℕ → List ℕ
from i n vals = named 0 i n vals
