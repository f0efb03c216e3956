-- What bits that only rise do to the numbers of a table. Document 01, "Gate writes" and "What the contracts must say".
use Rattle.std.specs.Prelude.{◌≡◌, ℕ, suc, ◌+◌, Bool, List, [], ◌∷◌, ◌++◌, length, take, drop, ◌==◌, slice_index}
use Rattle.bits.specs.Bits.{number, bits_of, cleared, join}
use Rattle.rows.specs.Row.{Row, Cond, always, bit, above, pick, broken}
use Rattle.rows.specs.Walk.{Outcome, done, refused, and_then, Content, total, numbers, frame}

-- The number v in a box of w bits, with the ones of u raised in it.
abbrev pub raised : ℕ → ℕ → ℕ → ℕ
raised w v u = number (join (bits_of w v) (bits_of w u))

-- Each number with the ones of its fellow raised in its own box.
abbrev pub raised_in : List ℕ → List ℕ → List ℕ → List ℕ
raised_in [] vs us = []
raised_in (w ∷ ws) [] us = []
raised_in (w ∷ ws) (v ∷ vs) [] = []
raised_in (w ∷ ws) (v ∷ vs) (u ∷ us) = raised w v u ∷ raised_in ws vs us

-- The numbers vals of a reading after a write: the written bits of a number's own box are what the write has in that box.
unfoldable pub after : List Row → List ℕ → List Bool → List ℕ
after rows vals w = raised_in (frame rows vals) vals (numbers (frame rows vals) w)

-- The slots that a condition refers to: bitmaps and counts.
abbrev pub slot_of : Cond → List ℕ
slot_of always = []
slot_of (bit slot e) = slot ∷ []
slot_of (above slot k) = slot ∷ []

abbrev pub named : List Row → List ℕ
named [] = []
named (r ∷ rs) = slot_of r.cond ++ named rs

abbrev pub AllZero : List ℕ → List ℕ → Type 0
AllZero us [] = Unit {0}
AllZero us (s ∷ ss) = (slice_index us s ≡ 0) × AllZero us ss

-- A write spares a reading: it has no one in a box that a condition refers to.
abbrev pub Spares : List Row → List ℕ → List Bool → Type 0
Spares rows vals w = AllZero (numbers (frame rows vals) w) (named rows)

-- The numbers, or the refusal of the first field whose rule they break.
abbrev pub judge_on : List Row → ℕ → List ℕ → List ℕ → List ℕ → ℕ → Outcome (List ℕ)
judge_on [] i ws all vals at = done all at
judge_on (r ∷ rs) i ws all vals at =
    let k : ℕ = length r.boxes in
    let n : ℕ = broken r.rule (take k vals) in
    let rest : Outcome (List ℕ) = judge_on rs (suc i) (drop k ws) all (drop k vals) (at + total (take k ws)) in
    pick (n == 0) rest (refused n at i)

-- ws the widths of their boxes.
unfoldable pub judge : List Row → List ℕ → List ℕ → Outcome (List ℕ)
judge rows ws vals = judge_on rows 0 ws vals vals 0

-- What a reading becomes after a write: its numbers so raised, if they break no rule, and its margin with the written bits past the end
-- raised.
unfoldable pub raised_to : List Row → Content → ℕ → List Bool → Outcome Content
raised_to rows c end w =
    and_then (judge rows (frame rows c.numbers) (after rows c.numbers w))
    (λ vals last. done (record { numbers = vals; margin = join c.margin (cleared end w) }) last)
