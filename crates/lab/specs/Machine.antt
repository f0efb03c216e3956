-- The second reader: a state, and what one bit more makes of it. Document 02, Q-6.
use Rattle.std.specs.Prelude.{ℕ, suc, ◌+◌, ◌-◌, ◌*◌, ◌%◌, ◌^◌, Bool, ◌&&◌, List, [], ◌∷◌, length, drop, replicate, ◌==◌, nat_lt, slice_index, slice_set}
use Rattle.bits.specs.Bits.{bit}
use Rattle.rows.specs.Inner.Standing.{why_of}
use Rattle.lab.specs.declared.state.State.{State}
use Rattle.rows.specs.Row.{Row, pick, told, holds, broken}
use Rattle.rows.specs.Walk.{total}

-- Its state.
pub record Reader : Type 0 where
  -- how many bits there are, and how many contract records the card has
  pub room : ℕ
  pub most : ℕ
  -- how many bits were taken: the place of the next
  pub at : ℕ
  -- the refusal's number, 0 for none: its place is start, its field the row
  pub why : ℕ
  -- the row that it is in, from 0, the place of the first bit of that row's field, and the slot of its first number
  pub row : ℕ
  pub start : ℕ
  pub first : ℕ
  -- zeros from there on, until bits come
  pub numbers : List ℕ

-- The state in code.
abbrev pub reader : State → Reader
reader s =
    record {
      room = s.room;
      most = s.most;
      at = s.at;
      why = why_of s.why;
      row = s.row;
      start = s.start;
      first = s.first;
      numbers = s.numbers;
    }

-- Which of a field's boxes its bit p is in.
abbrev pub box_at : List ℕ → ℕ → ℕ
box_at [] p = 0
box_at (w ∷ ws) p = pick (nat_lt p w) 0 (suc (box_at ws (p - w)))

-- A bit behind a number of 32 bits: the number so far is doubled, and the bit added.
abbrev pub behind : ℕ → Bool → ℕ
behind n b = n % 2 ^ 31 * 2 + bit b

-- At fault is the row that the state is in, from the field's first bit on.
abbrev pub stopped : ℕ → Reader → Reader
stopped n s =
    record {
      room = s.room;
      most = s.most;
      at = s.at;
      why = n;
      row = s.row;
      start = s.start;
      first = s.first;
      numbers = s.numbers;
    }

-- Behind a row, at the next: its field begins here, and its numbers behind those of the row. (They are counted modulo 2^32.)
abbrev pub passed : Row → Reader → Reader
passed r s =
    record {
      room = s.room;
      most = s.most;
      at = s.at;
      why = s.why;
      row = s.row + 1;
      start = s.at;
      first = (s.first + length r.boxes) % 2 ^ 32;
      numbers = s.numbers;
    }

-- At a field that is there: 2 where it runs past the end.
abbrev pub entered : Row → Reader → Reader
entered r s = pick (nat_lt s.room (s.at + total r.boxes)) (stopped 2 s) s

-- To the next field that is there, of some rows. The numbers of one that is not stay zeros.
abbrev pub arrived : List Row → Reader → Reader
arrived [] s = s
arrived (r ∷ rs) s = pick (holds (told r.cond s.numbers)) (entered r s) (arrived rs (passed r s))

-- With a bit more of the field that it is in.
abbrev pub noted : Row → Bool → Reader → Reader
noted r b s =
    let slot : ℕ = s.first + box_at r.boxes (s.at - s.start) in
    record {
      room = s.room;
      most = s.most;
      at = s.at + 1;
      why = s.why;
      row = s.row;
      start = s.start;
      first = s.first;
      numbers = slice_set s.numbers slot (behind (slice_index s.numbers slot) b);
    }

-- Behind a field's last bit: its rule's refusal, or the next field that is there.
abbrev pub closed : Row → List Row → Reader → Reader
closed r rs s =
    let n : ℕ = broken r.rule (drop s.first s.numbers) in
    pick (nat_lt (s.at - s.start) (total r.boxes)) s (pick (n == 0) (arrived rs (passed r s)) (stopped n s))

-- In the margin: behind the last row bits are only counted.
abbrev pub counted : Reader → Reader
counted s =
    record {
      room = s.room;
      most = s.most;
      at = s.at + 1;
      why = s.why;
      row = s.row;
      start = s.start;
      first = s.first;
      numbers = s.numbers;
    }

abbrev pub within : List Row → Bool → Reader → Reader
within [] b s = counted s
within (r ∷ rs) b s = pick (nat_lt (s.at - s.start) (total r.boxes)) (closed r rs (noted r b s)) s

-- One step. After a refusal and at the end of the room nothing moves.
unfoldable pub stepped : List Row → Reader → Bool → Reader
stepped rows s b = pick (s.why == 0 && nat_lt s.at s.room) (within (drop s.row rows) b s) s

-- Before the first bit of so many.
unfoldable pub begun : List Row → ℕ → ℕ → Reader
begun rows most room =
    arrived rows
    (record {
      room = room;
      most = most;
      at = 0;
      why = 0;
      row = 0;
      start = 0;
      first = 0;
      numbers = replicate 111 0;
    })

-- A run feeds it the bits.
abbrev pub run : List Row → Reader → List Bool → Reader
run rows s [] = s
run rows s (b ∷ bs) = run rows (stepped rows s b) bs
