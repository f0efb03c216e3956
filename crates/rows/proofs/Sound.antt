-- Numbers that fit their boxes and break no rule: their writing is refused exactly where their fields end past the room.
use Rattle.std.proofs.Common.{◌≡◌, ℕ, suc, ◌+◌, ◌-◌, ◌<◌, ◌≤◌, Bool, true, false, eqb, ltb, leb, List, [], ◌∷◌, ◌++◌, map, length, take, drop, replicate, sym, refl, ap, ◌∙◌, append_assoc, arith, take-append-drop, ltb-false, ltb-true, le-leb}
use borrow.Author.Tests.{lt-leb}
use Rattle.rows.specs.Row.{Row, pick, told, holds, broken}
use Rattle.rows.specs.Walk.{Outcome, done, refused, and_then, total, boxes_of, exceeds, fault, walk, slots_of, Content, read, frame, laid_on, write_bare, first_past, rank_past}
use Rattle.bits.specs.Bits.{zeros}
use Rattle.rows.proofs.Walked.{walk_row, slots_row, Held, walk_slots}
use Rattle.rows.proofs.RoundTrip.{Reading, reading, bare_writes}
use Rattle.rows.proofs.Changing.{passed}
use Rattle.rows.proofs.Stepping.{total_same}

-- Each field's numbers fit its boxes and break no rule of its own.
abbrev pub Sound : List Row → List ℕ → List ℕ → Type 0
Sound [] seen vals = Unit {0}
Sound (r ∷ rs) seen vals =
    (exceeds (boxes_of r seen) (take (length r.boxes) vals) ≡ false)
    × (broken r.rule (take (length r.boxes) vals) ≡ 0)
    × Sound rs (seen ++ take (length r.boxes) vals) (drop (length r.boxes) vals)

-- The widths of the fields, 0 where one is absent.
abbrev pub fields_on : List Row → List ℕ → List ℕ → List ℕ
fields_on [] seen vals = []
fields_on (r ∷ rs) seen vals =
    pick (holds (told r.cond seen)) (total r.boxes) 0 ∷ fields_on rs (seen ++ take (length r.boxes) vals) (drop (length r.boxes) vals)

total_there : (t : Bool) (ws : List ℕ) → total (pick t ws (map (λ (w : ℕ). 0) ws)) ≡ pick t (total ws) 0
total_there true ws = refl
total_there false [] = refl
total_there false (w ∷ ws) = let rest = total_there false ws in omega arith

-- What an outcome comes to, as an answer made of a number, a place and a rank: zeros, or the refusal's.
abbrev pub verdict : {A B : Type 0} → (ℕ → ℕ → ℕ → B) → Outcome A → B
verdict answer (done a end) = answer 0 0 0
verdict answer (refused n at i) = answer n at i

-- Fields from a bit and a rank on: 0 where they end within the room, and else 2 at the first that ends past it.
abbrev fitting : {B : Type 0} → (ℕ → ℕ → ℕ → B) → ℕ → List ℕ → ℕ → ℕ → B
fitting answer room ws at i = pick (leb (at + total ws) room) (answer 0 0 0) (answer 2 (first_past room ws at) (rank_past room ws at i))

module _ (room : ℕ) where
  whole : (k : ℕ) (seen vals : List ℕ) → (seen ++ take k vals) ++ drop k vals ≡ seen ++ vals
  whole k seen vals = rw (append_assoc, take-append-drop)

  -- Sound numbers walk to what their fields come to.
  sound_walk : {B : Type 0} (answer : ℕ → ℕ → ℕ → B) (rs : List Row) (i : ℕ) (seen vals : List ℕ) (at : ℕ) → Sound rs seen vals → at ≤ room
      → verdict answer (walk room (slots_of (seen ++ vals)) rs i seen at) ≡ fitting answer room (fields_on rs seen vals) at i
  sound_walk answer [] i seen vals at s h = let last : at + 0 ≤ room = omega arith in rw (le-leb _ _ last)
  sound_walk answer (r ∷ rs) i seen vals at (fits, ruled, rest) h =
      let row = walk_row room (slots_of (seen ++ vals)) r rs i seen at (take k vals) (slots_row r seen at vals) in
      rw (row, fits, ruled, ← total_there (holds (told r.cond seen)) r.boxes)
      (go (ltb room (at + w)) refl (λ e. rw (whole k seen vals) at (sound_walk answer rs (suc i) (seen ++ take k vals) (drop k vals) (at + w) rest e)))
    where
      k : ℕ
      k = length r.boxes

      w : ℕ
      w = total (boxes_of r seen)

      ws : List ℕ
      ws = fields_on rs (seen ++ take k vals) (drop k vals)

      next : Outcome (List ℕ)
      next = walk room (slots_of (seen ++ vals)) rs (suc i) (seen ++ take k vals) (at + w)

      go : (past : Bool) → ltb room (at + w) ≡ past → (at + w ≤ room → verdict answer next ≡ fitting answer room ws (at + w) (suc i))
          → verdict answer (pick (eqb (pick past 2 0) 0) next (refused (pick past 2 0) at i)) ≡ fitting answer room (w ∷ ws) at i
      go true e more = let far : room < at + (w + total ws) = omega (arith, ltb-true room (at + w) e) in rw (e, lt-leb _ _ far)
      go false e more = let same : at + w + total ws ≡ at + (w + total ws) = omega arith in rw (e, ← same) (more (ltb-false _ _ e))

  walk_sound : (rs : List Row) (i : ℕ) (seen vals : List ℕ) (at : ℕ) {all : List ℕ} {end : ℕ}
      → walk room (slots_of (seen ++ vals)) rs i seen at ≡ done all end → Sound rs seen vals
  walk_sound [] i seen vals at h = tt
  walk_sound (r ∷ rs) i seen vals at {all} {end} h =
      let k : ℕ = length r.boxes in
      let vs : List ℕ = take k vals in
      let next : Outcome (List ℕ) = walk room (slots_of (seen ++ vals)) rs (suc i) (seen ++ vs) (at + total (boxes_of r seen)) in
      let row = walk_row room (slots_of (seen ++ vals)) r rs i seen at vs (slots_row r seen at vals) in
      let (none, rest) = passed (fault (exceeds (boxes_of r seen) vs) (at + total (boxes_of r seen)) room (broken r.rule vs)) next at i (sym row ∙ h) in
      let (fits, ruled) = go (exceeds (boxes_of r seen) vs) (ltb room (at + total (boxes_of r seen))) (broken r.rule vs) none in
      (fits, ruled, walk_sound rs (suc i) (seen ++ vs) (drop k vals) (at + total (boxes_of r seen)) {all = all} {end = end} (rw (whole k seen vals) rest))
    where
      go : (wide past : Bool) (n : ℕ) → ◌≡◌ {A = ℕ} (pick wide 7 (pick past 2 n)) 0 → (wide ≡ false) × (n ≡ 0)
      go true past n e = absurd (omega arith)
      go false true n e = absurd (omega arith)
      go false false n e = (refl, e)

held_on : (rows : List Row) (bs : List Bool) {c : Content} {end : ℕ} → Reading rows bs c end → Held bs rows [] 0 c.numbers
unfolding frame
held_on rows bs r = r.held

-- Of a list's whole writing.
pub sound_written : {B : Type 0} (answer : ℕ → ℕ → ℕ → B) (rows : List Row) (room : ℕ) (vals : List ℕ) → Sound rows [] vals
    → verdict answer (write_bare rows room vals) ≡ pick (leb (total (fields_on rows [] vals)) room) (answer 0 0 0)
    (answer 2 (first_past room (fields_on rows [] vals) 0) (rank_past room (fields_on rows [] vals) 0 0))
sound_written answer rows room vals s =
    let plain : 0 + total (fields_on rows [] vals) ≡ total (fields_on rows [] vals) = omega arith in
    rw (bare_writes rows room vals)
    (go (walk room (slots_of vals) rows 0 [] 0) ∙ rw plain at (sound_walk room answer rows 0 [] vals 0 s (omega arith)))
  where
    go : (o : Outcome (List ℕ)) → verdict answer (and_then o (λ all end. done (laid_on [] (frame rows vals) vals ++ zeros (room - end)) end)) ≡ verdict answer o
    go (done all end) = refl
    go (refused n p j) = refl

-- The numbers of a reading are sound.
pub read_sound : (rows : List Row) (bs : List Bool) {c : Content} {end : ℕ} → read rows bs ≡ done c end → Sound rows [] c.numbers
read_sound rows bs {c} {end} h =
    let r = reading rows bs h in
    let steps : walk (length bs) (slots_of c.numbers) rows 0 [] 0 ≡ done c.numbers end =
    sym (walk_slots (length bs) bs rows 0 [] 0 (held_on rows bs r)) ∙ r.steps in
    walk_sound (length bs) rows 0 [] c.numbers 0 steps

-- Fields of no bits behind others change nothing.
pub total_behind : (ws : List ℕ) (m : ℕ) → total (ws ++ replicate m 0) ≡ total ws
total_behind [] m = rw (total_same m 0) (omega arith)
total_behind (w ∷ ws) m = ap (λ (n : ℕ). w + n) (total_behind ws m)

pub past_behind : (room : ℕ) (ws : List ℕ) (m at i : ℕ) → at ≤ room → room < at + total ws
    → (first_past room (ws ++ replicate m 0) at ≡ first_past room ws at) × (rank_past room (ws ++ replicate m 0) at i ≡ rank_past room ws at i)
past_behind room [] m at i within past = absurd (omega arith)
past_behind room (w ∷ ws) m at i within past = go (ltb room (at + w)) refl (λ inside. past_behind room ws m (at + w) (suc i) inside (omega arith))
  where
    go : (b : Bool) → ltb room (at + w) ≡ b
        → (at + w ≤ room → (first_past room (ws ++ replicate m 0) (at + w) ≡ first_past room ws (at + w)) × (rank_past room (ws ++ replicate m 0) (at + w) (suc i) ≡ rank_past room ws (at + w) (suc i)))
        → (pick b at (first_past room (ws ++ replicate m 0) (at + w)) ≡ pick b at (first_past room ws (at + w)))
        × (pick b i (rank_past room (ws ++ replicate m 0) (at + w) (suc i)) ≡ pick b i (rank_past room ws (at + w) (suc i)))
    go true e rest = (refl, refl)
    go false e rest = rest (ltb-false _ _ e)
