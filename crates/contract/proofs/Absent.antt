-- Where rows are absent, the numbers read under them are zeros.
use Prim.Native.Nat.{ℕ, ◌+◌, ◌^◌, ◌≤◌}
use mathlib.Core.List.{List, [], ◌∷◌, ◌++◌, map, append-nil, append_assoc}
use mathlib.Core.Bool.{Bool, true, false, true≢false, false≢true}
use mathlib.Core.Path.{◌≡◌, refl, sym, ◌∙◌}
use native.Mathlib.Omega.{arith}
use lib.Dec.{ltb}
use lib.ListN.{length, take, drop, length-drop, take-append-drop}
use lib.Seq.{take-add, drop-drop}
use borrow.Author.Tests.{ltb-true}
use Rattle.rows.specs.Row.{Row, pick, told, holds}
use Rattle.rows.specs.Walk.{done, Content, read, boxes_of, exceeds, frame_on, frame, slots}
use Rattle.rows.proofs.Boxes.{length_there, numbers_fit}
use Rattle.rows.proofs.RoundTrip.{reading}

-- Zeros for some boxes.
abbrev noughts : List ℕ → List ℕ
noughts ws = map (λ (w : ℕ). 0) ws

-- Zeros for the slots of rows.
abbrev pub zero_slots : List Row → List ℕ
zero_slots [] = []
zero_slots (r ∷ rs) = noughts r.boxes ++ zero_slots rs

-- Whether each of the rows is absent behind the numbers seen and the zeros of the rows before it.
abbrev pub absent : List Row → List ℕ → Bool
absent [] seen = true
absent (r ∷ rs) seen = pick (holds (told r.cond seen)) false (absent rs (seen ++ noughts r.boxes))

-- Numbers that fit boxes of no bits are zeros, and those behind them fit the other boxes.
fit_nothing : (ws us vals : List ℕ) → length ws ≤ length vals → exceeds (noughts ws ++ us) vals ≡ false
    → (take (length ws) vals ≡ noughts ws) × (exceeds us (drop (length ws) vals) ≡ false)
fit_nothing [] us vals enough fits = (refl, fits)
fit_nothing (w ∷ ws) us [] enough fits = absurd (omega arith)
fit_nothing (w ∷ ws) us (v ∷ vals) enough fits = go (ltb v (2 ^ 0)) refl fits (λ p. fit_nothing ws us vals (omega arith) p)
  where
    go : (t : Bool) → ltb v (2 ^ 0) ≡ t → pick t (exceeds (noughts ws ++ us) vals) true ≡ false
        → (exceeds (noughts ws ++ us) vals ≡ false → (take (length ws) vals ≡ noughts ws) × (exceeds us (drop (length ws) vals) ≡ false))
        → (v ∷ take (length ws) vals ≡ 0 ∷ noughts ws) × (exceeds us (drop (length ws) vals) ≡ false)
    go true low p rest =
        let none : v ≡ 0 = omega (arith, ltb-true v (2 ^ 0) low) in
        let (zeros, others) = rest p in
        (rw (none, zeros), others)
    go false low p rest = absurd (true≢false p)

-- Numbers that fit the frame of absent rows are zeros.
absent_zeros : (rs : List Row) (seen vals : List ℕ) → length vals ≡ slots rs → absent rs seen ≡ true
    → exceeds (frame_on rs seen vals) vals ≡ false
    → vals ≡ zero_slots rs
absent_zeros [] seen [] sized off fits = refl
absent_zeros [] seen (v ∷ vals) sized off fits = absurd (omega arith)
absent_zeros (r ∷ rs) seen vals sized off fits = go (holds (told r.cond seen)) off fits (absent_zeros rs (seen ++ noughts r.boxes) (drop (length r.boxes) vals))
  where
    n : ℕ
    n = length r.boxes

    go : (b : Bool) → pick b false (absent rs (seen ++ noughts r.boxes)) ≡ true
        → exceeds (pick b r.boxes (noughts r.boxes) ++ frame_on rs (seen ++ take n vals) (drop n vals)) vals ≡ false
        → (length (drop n vals) ≡ slots rs → absent rs (seen ++ noughts r.boxes) ≡ true
        → exceeds (frame_on rs (seen ++ noughts r.boxes) (drop n vals)) (drop n vals) ≡ false
        → drop n vals ≡ zero_slots rs)
        → vals ≡ noughts r.boxes ++ zero_slots rs
    go true off fits rest = absurd (false≢true off)
    go false off fits rest =
        let (zeros, others) = fit_nothing r.boxes _ vals (omega arith) fits in
        let behind : drop n vals ≡ zero_slots rs = rest (rw length-drop (omega arith)) off (rw zeros at others) in
        sym (take-append-drop n vals) ∙ rw (zeros, behind)

-- Numbers that fit two runs of boxes fit the second, behind the first.
exceeds_behind : (us ws vs : List ℕ) → exceeds (us ++ ws) vs ≡ false → exceeds ws (drop (length us) vs) ≡ false
exceeds_behind [] ws vs fits = fits
exceeds_behind (u ∷ us) [] [] fits = refl
exceeds_behind (u ∷ us) (w ∷ ws) [] fits = refl
exceeds_behind (u ∷ us) ws (v ∷ vs) fits = go (ltb v (2 ^ u)) fits (exceeds_behind us ws vs)
  where
    go : (t : Bool) → pick t (exceeds (us ++ ws) vs) true ≡ false
        → (exceeds (us ++ ws) vs ≡ false → exceeds ws (drop (length us) vs) ≡ false)
        → exceeds ws (drop (length us) vs) ≡ false
    go true fits rest = rest fits
    go false fits rest = absurd (true≢false fits)

-- And so for two runs of rows.
frame_behind : (rs more : List Row) (seen vals : List ℕ) → exceeds (frame_on (rs ++ more) seen vals) vals ≡ false
    → exceeds (frame_on more (seen ++ take (slots rs) vals) (drop (slots rs) vals)) (drop (slots rs) vals) ≡ false
frame_behind [] more seen vals fits = rw append-nil fits
frame_behind (r ∷ rs) more seen vals fits =
    let n : ℕ = length r.boxes in
    let others = rw length_there at (exceeds_behind (boxes_of r seen) (frame_on (rs ++ more) (seen ++ take n vals) (drop n vals)) vals fits) in
    rw (take-add, ← append_assoc, ← drop-drop) (frame_behind rs more (seen ++ take n vals) (drop n vals) others)

slots_append : (rs more : List Row) → slots (rs ++ more) ≡ slots rs + slots more
slots_append [] more = omega arith
slots_append (r ∷ rs) more = let rest = slots_append rs more in omega arith

-- A reading under rows and more that are absent behind them: the more are zeros.
pub read_absent : (rs more : List Row) (bs : List Bool) {c : Content} {end : ℕ} → read (rs ++ more) bs ≡ done c end
    → absent more (take (slots rs) c.numbers) ≡ true
    → drop (slots rs) c.numbers ≡ zero_slots more
unfolding frame
read_absent rs more bs {c} {end} h off =
    let r = reading (rs ++ more) bs h in
    let vals : List ℕ = c.numbers in
    let sized : length (drop (slots rs) vals) ≡ slots more = rw length-drop (omega (arith, r.sized, slots_append rs more)) in
    let fits : exceeds (frame_on (rs ++ more) [] vals) vals ≡ false = rw (← r.held) at (numbers_fit (frame_on (rs ++ more) [] vals) bs) in
    absent_zeros more (take (slots rs) vals) (drop (slots rs) vals) sized off (frame_behind rs more [] vals fits)
