-- What the steps of the lab's readers give.
use Rattle.std.specs.Prelude.{◌≡◌, ℕ, ◌*◌, ◌^◌, ◌<◌, ◌≤◌, Bool, true, ◌&&◌, ◌||◌, List, [], ◌∷◌, length, ◌==◌, nat_le, nat_lt, Result, Ok, Err}
use Rattle.bits.specs.Bits.{spread}
use Rattle.rows.specs.Row.{Row, pick}
use Rattle.rows.specs.Walk.{total, read, slots}
use Rattle.records.specs.declared.Refusal.{Refusal}
use Rattle.records.specs.Answer.{Answer, refusal, refusal_at, from, as_answer, answered, valued}
use Rattle.lab.specs.Machine.{Reader}

-- Boxes of at most 32 bits.
abbrev pub narrow : List ℕ → Bool
narrow [] = true
narrow (w ∷ ws) = nat_le w 32 && narrow ws

-- A field has bits, and boxes of at most 32 each, unless it is longer than the room.
abbrev pub sized : ℕ → Row → Bool
sized room r = nat_lt 0 (total r.boxes) && (narrow r.boxes || nat_lt room (total r.boxes))

abbrev pub all_sized : ℕ → List Row → Bool
all_sized room [] = true
all_sized room (r ∷ rs) = sized room r && all_sized room rs

-- A table that a state can follow, over so many bytes and into so many numbers.
pub record Fits (rows : List Row) (bytes numbers : ℕ) : Type 0 where
  pub room : bytes ≤ 116
  pub low : length rows < 2 ^ 32
  pub count : slots rows ≤ numbers
  pub few : numbers ≤ 111
  pub fits : all_sized (8 * bytes) rows ≡ true

-- What a state met.
abbrev pub met : Reader → Answer
met s = pick (s.why == 0) (refusal 0 0) (refusal_at s.why s.start s.row)

-- What a reading says in code: the first n numbers, and the margin in words; or the refusal.
abbrev pub said : ℕ → Result (List ℕ × List ℕ) Refusal → Result (List ℕ × List ℕ) Answer
said n (Ok got) = Ok (from 0 n got.0, got.1)
said n (Err r) = Err (as_answer r)

-- The reading of a table, with so many words of its margin.
abbrev pub read_with : ℕ → List Row → List ℕ → Result (List ℕ × List ℕ) Answer
read_with words rows bytes = answered (valued words (λ vals margin. Ok (vals, margin))) Err (read rows (spread 8 bytes))
