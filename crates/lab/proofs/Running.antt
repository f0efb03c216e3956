-- A run, one bit more at a time, and that it leaves the number of contract records alone; how many bits a record with a margin has.
use Rattle.std.proofs.Common.{◌≡◌, ℕ, ◌+◌, ◌-◌, ◌*◌, ◌<◌, Bool, true, false, ◌&&◌, eqb, ltb, List, [], ◌∷◌, map, length, get_or, drop, refl, ap, ◌∙◌, add-one, length-append, length-drop, drop-cons}
use lib.ListN.{length-replicate}
use Rattle.bits.specs.Bits.{spread, cleared}
use Rattle.bits.proofs.Cutting.{length-spread}
use Rattle.rows.specs.Row.{Row, pick, told, holds, broken}
use Rattle.rows.specs.Walk.{total}
use Rattle.lab.specs.Layout.{row_of}
use Rattle.lab.specs.Machine.{stopped, passed, entered, arrived, noted, closed, within, stepped, begun, run}
use Rattle.lab.specs.Machine.{Reader}

-- What two states both have, the one picked has.
either : {n : ℕ} (b : Bool) (s t : Reader) → s.most ≡ n → t.most ≡ n → (pick b s t).most ≡ n
either true s t p q = p
either false s t p q = q

-- No row, bit or step changes the number of contract records.
arrived_most : (rs : List Row) (s : Reader) → (arrived rs s).most ≡ s.most
arrived_most [] s = refl
arrived_most (r ∷ rs) s =
    either (holds (told r.cond s.numbers)) (entered r s) (arrived rs (passed r s))
    (either (ltb s.room (s.at + total r.boxes)) (stopped 2 s) s refl refl)
    (arrived_most rs (passed r s))

closed_most : (r : Row) (rs : List Row) (s : Reader) → (closed r rs s).most ≡ s.most
closed_most r rs s =
    let n : ℕ = broken r.rule (drop s.first s.numbers) in
    let next : Reader = arrived rs (passed r s) in
    either (ltb (s.at - s.start) (total r.boxes)) s (pick (eqb n 0) next (stopped n s)) refl
    (either (eqb n 0) next (stopped n s) (arrived_most rs (passed r s)) refl)

within_most : (rs : List Row) (b : Bool) (s : Reader) → (within rs b s).most ≡ s.most
within_most [] b s = refl
within_most (r ∷ rs) b s = either (ltb (s.at - s.start) (total r.boxes)) (closed r rs (noted r b s)) s (closed_most r rs (noted r b s)) refl

stepped_most : (rows : List Row) (s : Reader) (b : Bool) → (stepped rows s b).most ≡ s.most
unfolding stepped
stepped_most rows s b = either (eqb s.why 0 && ltb s.at s.room) (within (drop s.row rows) b s) s (within_most (drop s.row rows) b s) refl

pub begun_most : (rows : List Row) (most room : ℕ) → (begun rows most room).most ≡ most
unfolding begun
begun_most rows most room = arrived_most rows _

-- A run from a place on takes the bit at that place.
pub run_from : (cs : List ℕ) (s : Reader) (bs : List Bool) (k : ℕ) → k < length bs
    → let t = stepped (map (row_of s.most) cs) s (get_or bs k false) in
    run (map (row_of t.most) cs) t (drop (k + 1) bs) ≡ run (map (row_of s.most) cs) s (drop k bs)
run_from cs s bs k h =
    let rows = map (row_of s.most) cs in
    let b = get_or bs k false in
    ap (λ (n : ℕ). run (map (row_of n) cs) (stepped rows s b) (drop (k + 1) bs)) (stepped_most rows s b) ∙ rw (add-one, drop-cons bs k false)

-- How many bits there are, those before one cleared.
pub length_cleared : (start : ℕ) (bytes : List ℕ) → length (cleared start (spread 8 bytes)) ≡ start + (8 * length bytes - start)
length_cleared start bytes = rw (length-append, length-replicate, length-drop, length-spread)
