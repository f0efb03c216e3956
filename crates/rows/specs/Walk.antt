-- What it means to read a table of rows from bits, and to write it. Document 01, "Boxes and bitmaps" and
-- "Refusal numbers".
use Rattle.std.specs.Prelude.{ℕ, suc, ◌+◌, ◌-◌, ◌^◌, Bool, true, false, List, [], ◌∷◌, ◌++◌, map, length, take, drop, ◌==◌, nat_lt}
use Rattle.bits.specs.Bits.{number, bits_of, zeros, cleared, leading}
use Rattle.rows.specs.Row.{Row, pick, told, holds, broken}
use Rattle.rows.specs.declared.When.{When}

-- What a walk comes to: a value and the end, a bit's place; or a refusal's number, its place and the row at fault.
pub data Outcome (A : Type 0) : Type 0 where
  done : A → ℕ → Outcome A
  refused : ℕ → ℕ → ℕ → Outcome A

-- The first fault wins.
abbrev pub and_then : {A B : Type 0} → Outcome A → (A → ℕ → Outcome B) → Outcome B
and_then (done a end) next = next a end
and_then (refused n at i) next = refused n at i

abbrev pub total : List ℕ → ℕ
total [] = 0
total (w ∷ ws) = w + total ws

-- The boxes of a field as they stand on the card: an absent field's have no bits.
abbrev pub there : When → List ℕ → List ℕ
there t ws = pick (holds t) ws (map (λ (w : ℕ). 0) ws)

abbrev pub boxes_of : Row → List ℕ → List ℕ
boxes_of r seen = there (told r.cond seen) r.boxes

-- Whether a number is too wide for its box. In a box of no bits any number but zero is.
abbrev pub exceeds : List ℕ → List ℕ → Bool
exceeds [] vs = false
exceeds (w ∷ ws) [] = false
exceeds (w ∷ ws) (v ∷ vs) = pick (nat_lt v (2 ^ w)) (exceeds ws vs) true

-- The first fault of a field, 0 for none: 7, a number too wide (so only in writing); 2, past the end; its rule's 3 or 4.
abbrev pub fault : Bool → ℕ → ℕ → ℕ → ℕ
fault wide end room ruled = pick wide 7 (pick (nat_lt room end) 2 ruled)

-- Where a field's numbers come from: the bit reached, the first slot, the boxes.
abbrev pub Source : Type 0
Source = ℕ → ℕ → List ℕ → List ℕ

-- One field, row i of its table.
unfoldable pub field : ℕ → Source → Row → ℕ → List ℕ → ℕ → Outcome (List ℕ)
field room from r i seen at =
    let ws : List ℕ = boxes_of r seen in
    let vs : List ℕ = from at (length seen) ws in
    let n : ℕ = fault (exceeds ws vs) (at + total ws) room (broken r.rule vs) in
    pick (n == 0) (done vs (at + total ws)) (refused n at i)

-- The rows from i on, after the numbers seen, from bit at on.
abbrev pub walk : ℕ → Source → List Row → ℕ → List ℕ → ℕ → Outcome (List ℕ)
walk room from [] i seen at = done seen at
walk room from (r ∷ rs) i seen at =
    and_then (field room from r i seen at) (λ vs end. walk room from rs (suc i) (seen ++ vs) end)

-- The numbers in boxes that stand one after the other, from the front.
abbrev pub numbers : List ℕ → List Bool → List ℕ
numbers [] bs = []
numbers (w ∷ ws) bs = number (take w bs) ∷ numbers ws (drop w bs)

-- In reading, a field's numbers are those in its boxes.
abbrev pub boxes_at : List Bool → Source
boxes_at bs at n ws = numbers ws (drop at bs)

-- In writing, they are those of its slots.
abbrev pub slots_of : List ℕ → Source
slots_of vals at n ws = take (length ws) (drop n vals)

-- What a record or area holds: the numbers of its slots, and its margin, the bits after the last field. A margin stands in the
-- record's own coordinates, with zeros in every field's place. Document 02, Q-7.
pub record Content : Type 0 where
  pub numbers : List ℕ
  pub margin : List Bool

-- What bits hold whose last field ends at a place.
abbrev pub holding : List Bool → List ℕ → ℕ → Content
holding bs vals end = record { numbers = vals; margin = cleared end bs }

-- Numbers with nothing in a margin of so many bits.
abbrev pub bare : ℕ → List ℕ → Content
bare n vals = record { numbers = vals; margin = zeros n }

-- Bits that must all be zero: n at the first that is not, which is no field's fault.
unfoldable pub blank : {A : Type 0} → ℕ → List Bool → A → ℕ → Outcome A
blank n bs a end = pick (leading bs == length bs) (done a end) (refused n (leading bs) 0)

-- Reading a table from bits: what it holds and the end of the last field.
unfoldable pub read : List Row → List Bool → Outcome Content
read rows bs = and_then (walk (length bs) (boxes_at bs) rows 0 [] 0) (λ vals end. done (holding bs vals end) end)

-- A list must have nothing in its margin: 5 at the first one.
unfoldable pub read_bare : List Row → List Bool → Outcome (List ℕ)
read_bare rows bs = and_then (read rows bs) (λ c end. blank 5 c.margin c.numbers end)

-- The width of each slot's box, 0 where its field is absent.
abbrev pub frame_on : List Row → List ℕ → List ℕ → List ℕ
frame_on [] seen vals = []
frame_on (r ∷ rs) seen vals =
    boxes_of r seen ++ frame_on rs (seen ++ take (length r.boxes) vals) (drop (length r.boxes) vals)

unfoldable pub frame : List Row → List ℕ → List ℕ
frame rows vals = frame_on rows [] vals

-- Numbers in boxes, one after the other, behind some bits.
abbrev pub laid_on : List Bool → List ℕ → List ℕ → List Bool
laid_on out [] vs = out
laid_on out (w ∷ ws) [] = out
laid_on out (w ∷ ws) (v ∷ vs) = laid_on (out ++ bits_of w v) ws vs

-- The bits of a margin that are out of place, in a field's or past the room, where they stand; zeros between.
abbrev pub stray : ℕ → ℕ → List Bool → List Bool
stray room end m = take end m ++ (zeros (room - end) ++ drop room m)

-- Writing a table: the slots' boxes one after the other, and the margin behind them; 7 where a bit of it is out of place.
unfoldable pub write : List Row → ℕ → Content → Outcome (List Bool)
write rows room c =
    and_then (walk room (slots_of c.numbers) rows 0 [] 0)
    (λ all end.
    blank 7 (stray room end c.margin) (laid_on [] (frame rows c.numbers) c.numbers ++ take (room - end) (drop end c.margin)) end)

-- Writing a list: zeros to the end of the room.
unfoldable pub write_bare : List Row → ℕ → List ℕ → Outcome (List Bool)
write_bare rows room vals = write rows room (bare room vals)

-- How many slots a table has.
abbrev pub slots : List Row → ℕ
slots [] = 0
slots (r ∷ rs) = length r.boxes + slots rs

-- Of fields of some widths, one after the other from a bit on, the place of the first that ends past the room.
abbrev pub first_past : ℕ → List ℕ → ℕ → ℕ
first_past room [] at = at
first_past room (w ∷ ws) at = pick (nat_lt room (at + w)) at (first_past room ws (at + w))

-- And its rank, of those from i on.
abbrev pub rank_past : ℕ → List ℕ → ℕ → ℕ → ℕ
rank_past room [] at i = i
rank_past room (w ∷ ws) at i = pick (nat_lt room (at + w)) i (rank_past room ws (at + w) (suc i))
