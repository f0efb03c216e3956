-- A walk over rows depends on nothing but the numbers that its source gives.
use Rattle.std.proofs.Common.{◌≡◌, ℕ, suc, ◌+◌, ◌≤◌, Bool, true, false, eqb, ltb, List, [], ◌∷◌, ◌++◌, length, take, drop, sym, refl, ap, ◌∙◌, append_assoc, append-nil, arith, length-append, length-drop, take-append-drop, drop-drop, take_at, drop_at, ltb-false, le-ltb}
use lib.Seq.{drop-append_seam}
use Rattle.rows.specs.Row.{Row, pick, told, broken}
use Rattle.rows.specs.Walk.{Outcome, done, refused, and_then, total, boxes_of, exceeds, fault, Source, field, walk}
use Rattle.rows.specs.Walk.{numbers, boxes_at, slots_of, frame_on, slots}
use Rattle.rows.specs.Raise.{judge_on}
use Rattle.rows.proofs.Boxes.{length_there, total-append, length-numbers, numbers-append, numbers_fit, exceeds_append}

-- A refusal gives no value.
pub never : {A X : Type 0} {n at i : ℕ} {a : A} {end : ℕ} → refused n at i ≡ done a end → X
never h = let z : ◌≡◌ {A = ℕ} 0 1 = cc in absurd (omega arith)

-- Where the choice of an outcome or a refusal gives a value, it was the outcome.
pub not_refused : {A : Type 0} {a : A} {end : ℕ} (t : Bool) (o : Outcome A) (n at i : ℕ) → pick t o (refused n at i) ≡ done a end → o ≡ done a end
not_refused true o n at i h = h
not_refused false o n at i h = never h

-- A field has as many boxes where it is absent.
pub length-boxes : (r : Row) (seen : List ℕ) → length (boxes_of r seen) ≡ length r.boxes
length-boxes r seen = length_there (told r.cond seen) r.boxes

-- A frame has a box for each slot.
pub length-frame : (rs : List Row) (seen vals : List ℕ) → length (frame_on rs seen vals) ≡ slots rs
length-frame [] seen vals = refl
length-frame (r ∷ rs) seen vals =
    let k : ℕ = length r.boxes in rw (length-append, length-boxes, length-frame rs (seen ++ take k vals) (drop k vals))

-- The first fault of a field at the numbers vs, 0 for none.
abbrev fault_at : ℕ → Row → List ℕ → ℕ → List ℕ → ℕ
fault_at room r seen at vs = fault (exceeds (boxes_of r seen) vs) (at + total (boxes_of r seen)) room (broken r.rule vs)

module _ (room : ℕ) (from : Source) (r : Row) (rs : List Row) (i : ℕ) (seen : List ℕ) (at : ℕ) (vs : List ℕ)
    (gives : from at (length seen) (boxes_of r seen) ≡ vs) where
  -- A row to which the source gives vs: the rest of the walk behind them, or the refusal.
  pub walk_row : walk room from (r ∷ rs) i seen at
      ≡ pick (eqb (fault_at room r seen at vs) 0) (walk room from rs (suc i) (seen ++ vs) (at + total (boxes_of r seen)))
      (refused (fault_at room r seen at vs) at i)
  unfolding field
  walk_row = rw gives (go (eqb (fault_at room r seen at vs) 0))
    where
      next : List ℕ → ℕ → Outcome (List ℕ)
      next vs end = walk room from rs (suc i) (seen ++ vs) end

      stop : Outcome (List ℕ)
      stop = refused (fault_at room r seen at vs) at i

      go : (t : Bool) → and_then (pick t (done vs (at + total (boxes_of r seen))) stop) next ≡ pick t (next vs (at + total (boxes_of r seen))) stop
      go true = refl
      go false = refl

  -- Where the walk succeeds, they fit their boxes, the boxes fit the room, and the rest succeeds.
  walk_past : {all : List ℕ} {end : ℕ} → walk room from (r ∷ rs) i seen at ≡ done all end
      → (exceeds (boxes_of r seen) vs ≡ false) × (at + total (boxes_of r seen) ≤ room)
      × (walk room from rs (suc i) (seen ++ vs) (at + total (boxes_of r seen)) ≡ done all end)
  walk_past {all} {end} h = go (exceeds (boxes_of r seen) vs) (ltb room last) refl refl (rw walk_row at h)
    where
      last : ℕ
      last = at + total (boxes_of r seen)

      ruled : ℕ
      ruled = broken r.rule vs

      rest : Outcome (List ℕ)
      rest = walk room from rs (suc i) (seen ++ vs) last

      go : (wide past : Bool) → exceeds (boxes_of r seen) vs ≡ wide → ltb room last ≡ past
          → pick (eqb (pick wide 7 (pick past 2 ruled)) 0) rest (refused (pick wide 7 (pick past 2 ruled)) at i) ≡ done all end
          → (exceeds (boxes_of r seen) vs ≡ false) × (last ≤ room) × (rest ≡ done all end)
      go true past d e h = never h
      go false true d e h = never h
      go false false d e h = (d, ltb-false _ _ e, not_refused (eqb ruled 0) rest ruled at i h)

-- Numbers that stand in bits, from bit at on, in the frame that they make themselves.
abbrev pub Held : List Bool → List Row → List ℕ → ℕ → List ℕ → Type 0
Held bs rs seen at vals = vals ≡ numbers (frame_on rs seen vals) (drop at bs)

module _ (bs : List Bool) where
  sized_row : (r : Row) (seen : List ℕ) (at : ℕ) → length (numbers (boxes_of r seen) (drop at bs)) ≡ length r.boxes
  sized_row r seen at = rw (length-numbers, length-boxes)

  -- The first row's part of numbers that stand in bits, and the rest.
  held_row : (r : Row) (rs : List Row) (seen : List ℕ) (at : ℕ) {vals : List ℕ} → Held bs (r ∷ rs) seen at vals
      → (boxes_at bs at (length seen) (boxes_of r seen) ≡ take (length r.boxes) vals)
      × Held bs rs (seen ++ take (length r.boxes) vals) (at + total (boxes_of r seen)) (drop (length r.boxes) vals)
  held_row r rs seen at {vals} held =
      let k : ℕ = length r.boxes in
      let vs : List ℕ = numbers (boxes_of r seen) (drop at bs) in
      let others : List ℕ = numbers (frame_on rs (seen ++ take k vals) (drop k vals)) (drop (at + total (boxes_of r seen)) bs) in
      let parts : vals ≡ vs ++ others = held ∙ simp (numbers-append, drop-drop) in
      let sized = sized_row r seen at in (
        sym (ap (λ (l : List ℕ). take k l) parts ∙ take_at vs others k sized),
        ap (λ (l : List ℕ). drop k l) parts ∙ drop_at vs others k sized,
      )

-- The slots of numbers give a row its part of them.
pub slots_row : (r : Row) (seen : List ℕ) (at : ℕ) (vals : List ℕ) → slots_of (seen ++ vals) at (length seen) (boxes_of r seen) ≡ take (length r.boxes) vals
slots_row r seen at vals = rw (drop-append_seam, length-boxes)

-- What is known where a walk over numbers succeeds.
pub record Walked (room : ℕ) (rs : List Row) (seen vals : List ℕ) (at : ℕ) (all : List ℕ) (end : ℕ) : Type 0 where
  pub same : all ≡ seen ++ vals
  pub ends : end ≡ at + total (frame_on rs seen vals)
  pub inside : end ≤ room
  pub fits : exceeds (frame_on rs seen vals) vals ≡ false

module _ (room : ℕ) where
  -- A walk over numbers that succeeds gives them all, and they and their boxes fit.
  pub walked : (rs : List Row) (i : ℕ) (seen : List ℕ) (at : ℕ) (vals : List ℕ) {all : List ℕ} {end : ℕ} → length vals ≡ slots rs → at ≤ room
      → walk room (slots_of (seen ++ vals)) rs i seen at ≡ done all end → Walked room rs seen vals at all end
  walked [] i seen at [] {all} {end} n a h =
      let stays : end ≡ at = cc in
      record { same = rw append-nil (cc); ends = omega arith; inside = omega arith; fits = refl }
  walked [] i seen at (v ∷ vals) n a h = absurd (omega arith)
  walked (r ∷ rs) i seen at vals n a h =
      let k : ℕ = length r.boxes in
      let past = walk_past room (slots_of (seen ++ vals)) r rs i seen at (take k vals) (slots_row r seen at vals) h in
      let whole : (seen ++ take k vals) ++ drop k vals ≡ seen ++ vals = rw (append_assoc, take-append-drop) in
      let left : length (drop k vals) ≡ slots rs = simp length-drop (omega arith) in
      let rest = walked rs (suc i) (seen ++ take k vals) (at + total (boxes_of r seen)) (drop k vals) left past.1 (rw (← whole) at past.2) in
      record {
        same = rest.same ∙ whole;
        ends = rw total-append (omega arith);
        inside = rest.inside;
        fits = exceeds_append (boxes_of r seen) _ vals (rw length-boxes past.0) (rw length-boxes rest.fits);
      }

  module _ (bs : List Bool) where
    -- A reading's numbers are those that stand in its bits.
    pub walk_held : (rs : List Row) (i : ℕ) (seen : List ℕ) (at : ℕ) {all : List ℕ} {end : ℕ} → walk room (boxes_at bs) rs i seen at ≡ done all end
        → (vals : List ℕ) × (all ≡ seen ++ vals) × Held bs rs seen at vals
    walk_held [] i seen at h = ([], rw append-nil (cc), refl)
    walk_held (r ∷ rs) i seen at h =
        let ws : List ℕ = boxes_of r seen in
        let vs : List ℕ = numbers ws (drop at bs) in
        let past = walk_past room (boxes_at bs) r rs i seen at vs refl h in
        let (vals, same, held) = walk_held rs (suc i) (seen ++ vs) (at + total ws) past.2 in
        let sized = sized_row bs r seen at in (
          vs ++ vals,
          same ∙ append_assoc seen vs vals,
          rw (take_at vs vals _ sized, drop_at vs vals _ sized, numbers-append, drop-drop) (ap (λ (l : List ℕ). vs ++ l) held),
        )

    -- A walk over bits is a walk over the numbers that stand in them.
    pub walk_slots : (rs : List Row) (i : ℕ) (seen : List ℕ) (at : ℕ) {vals : List ℕ} → Held bs rs seen at vals
        → walk room (boxes_at bs) rs i seen at ≡ walk room (slots_of (seen ++ vals)) rs i seen at
    walk_slots [] i seen at held = refl
    walk_slots (r ∷ rs) i seen at {vals} held =
        let k : ℕ = length r.boxes in
        let end : ℕ = at + total (boxes_of r seen) in
        let (gives, others) = held_row bs r rs seen at held in
        let rest = rw (append_assoc seen (take k vals), take-append-drop) at (walk_slots rs (suc i) (seen ++ take k vals) end others) in
        rw (
          walk_row room (boxes_at bs) r rs i seen at (take k vals) gives,
          walk_row room (slots_of (seen ++ vals)) r rs i seen at (take k vals) (slots_row r seen at vals),
          rest,
        )

    -- A walk over bits judges the numbers that stand in them.
    pub walk_judged : (rs : List Row) (i : ℕ) (seen : List ℕ) (at : ℕ) {vals : List ℕ} → Held bs rs seen at vals
        → at + total (frame_on rs seen vals) ≤ room → walk room (boxes_at bs) rs i seen at ≡ judge_on rs i (frame_on rs seen vals) (seen ++ vals) vals at
    walk_judged [] i seen at held h = rw (held, append-nil)
    walk_judged (r ∷ rs) i seen at {vals} held h =
        let k : ℕ = length r.boxes in
        let ws : List ℕ = boxes_of r seen in
        let frame : List ℕ = frame_on rs (seen ++ take k vals) (drop k vals) in
        let (gives, others) = held_row bs r rs seen at held in
        let inside : at + total ws + total frame ≤ room = omega (arith, total-append ws frame) in
        let rest = rw (append_assoc seen (take k vals), take-append-drop) at (walk_judged rs (suc i) (seen ++ take k vals) (at + total ws) others inside) in
        let fits : exceeds ws (take k vals) ≡ false = rw (← gives) (numbers_fit ws (drop at bs)) in
        let within : ltb room (at + total ws) ≡ false = le-ltb room (at + total ws) (omega arith) in
        rw (
          walk_row room (boxes_at bs) r rs i seen at (take k vals) gives,
          fits,
          within,
          rest,
          take_at ws frame k (length-boxes r seen),
          drop_at ws frame k (length-boxes r seen),
        )
