-- Where a record reads, and no write touches its bitmaps, it reads with the written bits raised: over any list of accepted calls and
-- any table.
use Prim.Native.Nat.{ℕ, zero, suc, ◌*◌, ◌-◌}
use mathlib.Core.List.{List, [], ◌∷◌}
use mathlib.Core.Bool.{Bool, false, ◌||◌}
use mathlib.Core.Path.{◌≡◌, refl, sym, ap, ◌∙◌}
use lib.ListN.{length, get_or, take, length-replicate}
use lib.Seq.{ext_get_or}
use Rattle.bits.specs.Bits.{number, spread, join, zeros}
use Rattle.bits.proofs.Cutting.{length-spread}
use Rattle.rows.specs.Row.{Row}
use Rattle.rows.specs.Walk.{done, Content, read, numbers, frame}
use Rattle.rows.specs.Raise.{Spares, AllZero, named, raised_to}
use Rattle.rows.proofs.Boxes.{length-join, numbers_spared}
use Rattle.bits.proofs.Clearing.{drop-zeros}
use Rattle.rows.proofs.Raising.{raise_law}
use Rattle.gate.specs.Writes.{applied, called, AllAccepted, writes_in}
use Rattle.gate.proofs.Laws.{Sized, bit_after_writes, length_applied, calls_apply, sized_calls, get_or-zeros, join_at}

-- Each of the writes spares a reading.
abbrev pub AllSpare : List Row → List ℕ → List (List Bool) → Type 0
AllSpare rows vals [] = Unit {0}
AllSpare rows vals (w ∷ ws) = Spares rows vals w × AllSpare rows vals ws

-- All writes as one.
abbrev pub together : List (List Bool) → List Bool
together ws = applied (zeros 232) ws

together_applied : (bs : List Bool) (ws : List (List Bool)) → length bs ≡ 232 → Sized 232 ws → applied bs ws ≡ join bs (together ws)
together_applied bs ws long sized =
    let sized' : Sized (length bs) ws = rw long sized in
    let zeroes : length (zeros 232) ≡ 232 = length-replicate 232 false in
    let one : length (together ws) ≡ length bs = length_applied (zeros 232) ws ∙ zeroes ∙ sym long in
    ext_get_or false (applied bs ws) (join bs (together ws)) (length_applied bs ws ∙ sym (length-join bs (together ws)))
    (λ i h.
    bit_after_writes bs ws i sized'
    ∙ ap (λ (b : Bool). get_or bs i false || b) (sym (bit_after_writes (zeros 232) ws i sized ∙ rw (get_or-zeros i 232)))
    ∙ sym (join_at bs (together ws) i one))

number_none : (w n : ℕ) → number (take w (zeros n)) ≡ 0
number_none zero n = refl
number_none (suc w) zero = refl
number_none (suc w) (suc n) = number_none w n

numbers-zeros : (ws : List ℕ) (n s : ℕ) → get_or (numbers ws (zeros n)) s 0 ≡ 0
numbers-zeros [] n s = refl
numbers-zeros (w ∷ ws) n zero = number_none w n
numbers-zeros (w ∷ ws) n (suc s) = rw (drop-zeros w n) (numbers-zeros ws (n - w) s)

all_zero : (us : List ℕ) → ((s : ℕ) → get_or us s 0 ≡ 0) → (ss : List ℕ) → AllZero us ss
all_zero us each [] = tt
all_zero us each (s ∷ ss) = (each s, all_zero us each ss)

all_zero_more : (us vs ws : List ℕ) → ((s : ℕ) → get_or vs s 0 ≡ 0 → get_or ws s 0 ≡ get_or us s 0)
    → (ss : List ℕ) → AllZero us ss → AllZero vs ss → AllZero ws ss
all_zero_more us vs ws same [] a b = tt
all_zero_more us vs ws same (s ∷ ss) (x, a) (y, b) = (same s y ∙ x, all_zero_more us vs ws same ss a b)

-- Writes that spare a reading spare it together.
spares_together : (rows : List Row) (vals : List ℕ) (bs : List Bool) (ws : List (List Bool)) → length bs ≡ 232 → Sized 232 ws
    → Spares rows vals bs → AllSpare rows vals ws → Spares rows vals (applied bs ws)
spares_together rows vals bs [] long sized spares all = spares
spares_together rows vals bs (w ∷ ws) long (here, sized) spares (first, rest) =
    let same : length w ≡ length bs = here ∙ sym long in
    spares_together rows vals (join bs w) ws (length-join bs w ∙ long) sized
    (all_zero_more (numbers (frame rows vals) bs) (numbers (frame rows vals) w) (numbers (frame rows vals) (join bs w))
    (λ s z. numbers_spared (frame rows vals) bs w s same z) (named rows) spares first)
    rest

-- The record after any accepted calls whose writes spare it.
pub calls_raise : (rows : List Row) (bytes : List ℕ) (calls : List (List ℕ)) {c : Content} {end : ℕ} → length bytes ≡ 29
    → read rows (spread 8 bytes) ≡ done c end
    → AllAccepted bytes calls
    → AllSpare rows c.numbers (writes_in calls)
    → read rows (spread 8 (called bytes calls)) ≡ raised_to rows c end (together (writes_in calls))
calls_raise rows bytes calls {c} {end} whole reads accepted spare =
    let vals : List ℕ = c.numbers in
    let long : length (spread 8 bytes) ≡ 232 = length-spread 8 bytes ∙ ap (λ (n : ℕ). 8 * n) whole in
    let sized : Sized 232 (writes_in calls) = sized_calls bytes calls accepted in
    let empty : length (zeros 232) ≡ 232 = length-replicate 232 false in
    let one : length (together (writes_in calls)) ≡ length (spread 8 bytes) = length_applied (zeros 232) (writes_in calls) ∙ empty ∙ sym long in
    let none : Spares rows vals (zeros 232) = all_zero (numbers (frame rows vals) (zeros 232)) (numbers-zeros (frame rows vals) 232) (named rows) in
    ap (read rows) (calls_apply bytes calls accepted ∙ together_applied (spread 8 bytes) (writes_in calls) long sized)
    ∙ raise_law rows (spread 8 bytes) (together (writes_in calls)) reads one (spares_together rows vals (zeros 232) (writes_in calls) empty sized none spare)
