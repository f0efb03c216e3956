-- A structure of the card is a table of rows in card order, and a row is one field: its boxes, when it is there,
-- and its rule. The numbers of a table are a flat run of slots, one a box, zero where the field is absent.
use Rattle.std.specs.Prelude.{ℕ, ◌/◌, ◌^◌, Bool, true, false, ◌||◌, List, [], ◌∷◌, replicate, ◌==◌, nat_lt, slice_index}
use Rattle.bits.specs.Bits.{odd}
use Rattle.rows.specs.declared.When.{When}
use Rattle.rows.specs.declared.When.TheVariants.{Always, Bit, Above}
use Rattle.rows.specs.declared.Rule.{Rule}
use Rattle.rows.specs.declared.Rule.TheVariants.{Any, Most, Tariff, NoSecond}

-- A field is there always; where bit [e] of the bitmap in a slot is one; where the count in a slot is above k.
pub data Cond : Type 0 where
  always : Cond
  bit : ℕ → ℕ → Cond
  above : ℕ → ℕ → Cond

-- Boxes are widths in bits. A text or a list's tariff has several, and is one field.
pub record Row : Type 0 where
  pub boxes : List ℕ
  pub cond : Cond
  pub rule : Rule

-- A field of one box that takes every number of its width.
abbrev pub box : ℕ → Cond → Row
box w c = record { boxes = w ∷ []; cond = c; rule = Any }

-- A field of one box whose number is at most m.
abbrev pub box_most : ℕ → ℕ → Cond → Row
box_most m w c = record { boxes = w ∷ []; cond = c; rule = Most m }

-- A text of n letters of 5 bits, one field.
abbrev pub text : ℕ → Cond → Row
text n c = record { boxes = replicate n 5; cond = c; rule = Any }

-- A minute of the day is at most 1439.
abbrev pub minute : Cond → Row
minute c = box_most 1439 11 c

abbrev pub pick : {A : Type 0} → Bool → A → A → A
pick true a b = a
pick false a b = b

-- Whether a number is one of some.
abbrev pub among : ℕ → List ℕ → Bool
among n [] = false
among n (m ∷ ms) = m == n || among n ms

-- A condition at the numbers so far.
abbrev pub told : Cond → List ℕ → When
told always seen = Always
told (bit slot e) seen = Bit (slice_index seen slot) e
told (above slot k) seen = Above (slice_index seen slot) k

-- Whether the field is there. Element [e] is bit e of the bitmap's number, so [0] is the last bit of the bitmap.
abbrev pub holds : When → Bool
holds Always = true
holds (Bit n e) = odd (n / 2 ^ e)
holds (Above n k) = nat_lt k n

-- The refusal of a rule that a field's numbers break, 0 for none.
abbrev pub broken : Rule → List ℕ → ℕ
broken Any vs = 0
broken (Most m) vs = pick (nat_lt m (slice_index vs 0)) 4 0
broken Tariff vs = pick (slice_index vs 2 == 13) 4 0
broken NoSecond vs = pick (odd (slice_index vs 0 / 2)) 3 0
