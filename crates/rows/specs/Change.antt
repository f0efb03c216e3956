-- What the change of one number does to the bits of a table.
use Rattle.std.specs.Prelude.{ℕ, ◌+◌, ◌-◌, Bool, List, [], ◌∷◌, ◌++◌, length, take, drop, nat_lt, slice_index, slice_set}
use Rattle.bits.specs.Bits.{bits_of}
use Rattle.rows.specs.Row.{Row, pick, broken}
use Rattle.rows.specs.Walk.{total, boxes_of, frame}

-- Where the box of a slot begins, in the frame that some numbers make.
unfoldable pub place_of : List Row → List ℕ → ℕ → ℕ
place_of rows vals slot = total (take slot (frame rows vals))

-- Bits in which the box of w bits at a place holds another number, and all other bits are as before.
abbrev pub with_box : ℕ → ℕ → ℕ → List Bool → List Bool
with_box at w v bs = take at bs ++ (bits_of w v ++ drop (at + w) bs)

-- The width of a slot's box, and the refusal of its field's rule if its number were v: 0 for none.
abbrev pub width_on : List Row → List ℕ → List ℕ → ℕ → ℕ
width_on [] seen vals slot = 0
width_on (r ∷ rs) seen vals slot =
    let k : ℕ = length r.boxes in
    pick (nat_lt slot k) (slice_index (boxes_of r seen) slot) (width_on rs (seen ++ take k vals) (drop k vals) (slot - k))

abbrev pub broken_by : List Row → ℕ → ℕ → List ℕ → ℕ
broken_by [] slot v vals = 0
broken_by (r ∷ rs) slot v vals =
    let k : ℕ = length r.boxes in
    pick (nat_lt slot k) (broken r.rule (slice_set (take k vals) slot v)) (broken_by rs (slot - k) v (drop k vals))
