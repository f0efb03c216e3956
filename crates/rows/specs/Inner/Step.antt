-- What the steps of a reader or writer in code mean: a cursor stands for the answer still to come.
use Rattle.std.specs.Prelude.{◌≡◌, ℕ, zero, suc, ◌+◌, ◌-◌, ◌*◌, ◌/◌, ◌%◌, ◌^◌, ◌<◌, ◌≤◌, Bool, false, List, [], ◌∷◌, ◌++◌, length, take, drop, replicate, ◌==◌, ◌≢◌}
use Rattle.bits.specs.Bits.{cut, cleared}
use Rattle.bits.specs.Inner.Words.{number_at}
use Rattle.rows.specs.Row.{Row, Cond, pick, told}
use Rattle.rows.specs.Walk.{Outcome, done, refused, and_then, Source, walk, fault, there, boxes_at, slots_of, laid_on, exceeds, blank, stray}
use Rattle.rows.specs.Inner.Standing.{Standing}
use Rattle.rows.specs.declared.When.{When}
use Rattle.rows.specs.declared.Rule.{Rule}

-- A cursor counts the fields that it has come to: without a refusal that is the rank of the next row; with one the row at fault is
-- the last counted, so that its rank is one less. Refusals of no field have a count of 0, and 0 - 1 is 0.

-- So many fields more, counted in 32 bits.
abbrev pub further : ℕ → ℕ → ℕ
further fields i = (i + fields) % 2 ^ 32

-- A cursor that has come to its field and stays there, refused with n, and one that goes on behind some fields.
abbrev pub stays : Standing → ℕ → ℕ → Standing
stays c n v = record { at = c.at; why = n; field = further 1 c.field; number = v }

abbrev pub passes : Standing → ℕ → ℕ → ℕ → Standing
passes c fields width v = record { at = c.at + width; why = 0; field = further fields c.field; number = v }

-- A cursor at a field of width bits: past it, or at its first fault.
abbrev pub settled : Standing → ℕ → ℕ → ℕ → Standing
settled c width n v = pick (n == 0) (passes c 1 width v) (stays c n v)

-- One field: after a refusal nothing moves.
abbrev pub admitted : Standing → ℕ → ℕ → Bool → ℕ → ℕ → Standing
admitted c room width wide ruled v =
    pick (c.why == 0)
    (settled c width (fault wide (c.at + width) room ruled) v)
    (record { at = c.at; why = c.why; field = c.field; number = v })

-- The answer still to come: what the rows from here on come to after the numbers seen, or the refusal met before.
unfoldable pub resume : ℕ → Source → List Row → List ℕ → Standing → Outcome (List ℕ)
resume room from rs seen c =
    pick (c.why == 0) (walk room from rs c.field seen c.at) (refused c.why c.at (c.field - 1))

-- What a take asks: a place within the bits, and words for all of them.
pub record Ready (words : List ℕ) (end : ℕ) (c : Standing) : Type 0 where
  pub within : c.at ≤ end
  pub covered : end / 32 < length words

-- What a take of a field gives: the answer to come at the cursor before is the answer to come at the cursor after, with
-- the numbers taken behind those seen, whatever the rest of the table, if its fields can be counted in 32 bits.
pub record Took (words : List ℕ) (end : ℕ) (c : Standing) (t : When) (ws : List ℕ) (rule : Rule) (vs : List ℕ) (d : Standing) : Type 0 where
  pub ready : Ready words end d
  pub counted : d.field ≤ suc c.field
  pub step :
      (bs : List Bool)
      → length bs ≡ end
      → words ≡ cut 32 64 (length words) bs
      → (k : Cond) (rs : List Row) (seen : List ℕ)
      → told k seen ≡ t
      → suc c.field < 2 ^ 32
      → resume end (boxes_at bs) (record { boxes = ws; cond = k; rule = rule } ∷ rs) seen c
      ≡ resume end (boxes_at bs) rs (seen ++ vs) d

-- What the end of a list's reading gives: the answer, with 5 at the first one that is left.
pub record Ended (words : List ℕ) (end : ℕ) (c d : Standing) : Type 0 where
  pub says :
      (bs : List Bool)
      → length bs ≡ end
      → words ≡ cut 32 64 (length words) bs
      → (seen : List ℕ)
      → and_then (resume end (boxes_at bs) [] seen c) (λ vals at. blank 5 (cleared at bs) vals at)
      ≡ pick (d.why == 0) (done seen d.at) (refused d.why d.at (d.field - 1))

-- n numbers of w bits from bit at on.
abbrev pub letters_at : List ℕ → ℕ → ℕ → ℕ → List ℕ
letters_at words at w zero = []
letters_at words at w (suc n) = number_at words at w ∷ letters_at words (at + w) w n

-- What spelling them asks: words for all of them.
pub record Spells (words : List ℕ) (at w n : ℕ) : Type 0 where
  pub narrow : w ≤ 32
  pub covered : (at + w * n) / 32 < length words
  pub small : at + w * n < 2 ^ 32

-- What a put asks: a place within the room, and a draft, of words of 32 bits, one word longer than the room.
pub record Drafted (draft : List ℕ) (room : ℕ) (c : Standing) : Type 0 where
  pub within : c.at ≤ room
  pub longer : room / 32 + 1 < length draft

-- What a put of a field gives: the answer to come at the cursor before is the answer to come at the cursor after, with
-- the numbers put behind those seen, if its fields can be counted in 32 bits; and where there is no fault, the draft has the field's
-- boxes behind its bits.
pub record Gave (xs ys : List ℕ) (room : ℕ) (c : Standing) (t : When) (ws : List ℕ) (rule : Rule) (vs : List ℕ) (d : Standing) : Type 0 where
  pub ready : Drafted ys room d
  pub long : length ys ≡ length xs
  pub counted : d.field ≤ suc c.field
  pub step :
      (vals : List ℕ) (k : Cond) (rs : List Row) (seen : List ℕ)
      → told k seen ≡ t
      → take (length ws) (drop (length seen) vals) ≡ vs
      → suc c.field < 2 ^ 32
      → resume room (slots_of vals) (record { boxes = ws; cond = k; rule = rule } ∷ rs) seen c
      ≡ resume room (slots_of vals) rs (seen ++ vs) d
  pub before : d.why ≡ 0 → c.why ≡ 0
  pub laid :
      d.why ≡ 0
      → (out : List Bool)
      → length out ≡ c.at
      → xs ≡ cut 32 32 (length xs) out
      → (length (laid_on out (there t ws) vs) ≡ d.at) × (ys ≡ cut 32 32 (length xs) (laid_on out (there t ws) vs))

-- What laying letters asks: each fits its box, and the draft is one word longer than they reach.
pub record Lays (draft : List ℕ) (at w : ℕ) (letters : List ℕ) : Type 0 where
  pub narrow : w ≤ 32
  pub longer : (at + w * length letters) / 32 + 1 < length draft
  pub small : at + w * length letters < 2 ^ 32
  pub fit : exceeds (replicate (length letters) w) letters ≡ false

-- What it gives: a draft that had some bits up to bit at has the letters behind them.
abbrev pub LaidAll : List ℕ → List ℕ → ℕ → ℕ → List ℕ → Type 0
LaidAll xs ys at w letters =
    (out : List Bool)
    → length out ≡ at
    → xs ≡ cut 32 32 (length xs) out
    → ys ≡ cut 32 32 (length xs) (laid_on out (replicate (length letters) w) letters)

-- What the put of a margin gives, behind the last field: the answer, with 7 at the first one that is out of place; and where there is
-- none, the draft has the margin behind its bits.
pub record Kept (xs ys : List ℕ) (room : ℕ) (c : Standing) (m : List Bool) (d : Standing) : Type 0 where
  pub long : length ys ≡ length xs
  pub says :
      (bits : List Bool)
      → blank 7 (stray room c.at m) bits c.at ≡ pick (d.why == 0) (done bits d.at) (refused d.why d.at (d.field - 1))
  pub laid :
      d.why ≡ 0
      → (out : List Bool)
      → length out ≡ c.at
      → xs ≡ cut 32 32 (length xs) out
      → ys ≡ cut 32 32 (length xs) (out ++ take (room - c.at) (drop c.at m))

-- What the end of a writing gives: the bytes of the draft's bits, zeros behind them; after a refusal, the bytes as they were.
pub record Packed (draft : List ℕ) (c : Standing) (before after : List ℕ) : Type 0 where
  pub written : c.why ≡ 0 → (out : List Bool) → draft ≡ cut 32 32 (length draft) out → after ≡ cut 8 8 (length before) out
  pub kept : (c.why ≢ 0) → after ≡ before
