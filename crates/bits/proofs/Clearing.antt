-- Zeros, and bits with zeros before a place.
use Prim.Native.Nat.{ℕ, zero, suc, ◌+◌, ◌*◌, ◌%◌, ◌^◌, ◌-◌, ◌≤◌, ◌<◌}
use mathlib.Core.List.{List, [], ◌∷◌, ◌++◌}
use mathlib.Core.Bool.{Bool, true, false}
use mathlib.Core.Path.{◌≡◌, refl, sym, ap, ◌∙◌}
use native.Mathlib.Omega.{arith}
use native.Mathlib.Nat.{sub-zero}
use lib.ListN.{length, get_or, take, drop, length-append, length-drop, length-replicate}
use lib.Seq.{drop-drop, drop-append-le, take-append-le, take_at, drop_at}
use Rattle.std.proofs.lemmas.List.{take-replicate, drop-replicate}
use Rattle.bits.specs.Bits.{zeros, spread, cleared, cut, leading}
use Rattle.bits.proofs.Fronts.{front_take, part, part_add, part_low, part_past, part_pad, number-zeros}
use Rattle.bits.proofs.Cutting.{length-spread, part_spread, is_cut, spread_cut, cut_pad}

-- All of some zeros lead.
pub leading_zeros : (n : ℕ) → leading (zeros n) ≡ n
leading_zeros zero = refl
leading_zeros (suc n) = ap suc (leading_zeros n)

-- Bits of which all lead are zeros.
pub all_leading : (bs : List Bool) → leading bs ≡ length bs → bs ≡ zeros (length bs)
all_leading [] e = refl
all_leading (true ∷ bs) e = absurd (omega arith)
all_leading (false ∷ bs) e = ap (λ (l : List Bool). false ∷ l) (all_leading bs (omega arith))

-- Zeros in front lead, then what leads behind them.
pub leading-append-zeros : (n : ℕ) (bs : List Bool) → leading (zeros n ++ bs) ≡ n + leading bs
leading-append-zeros zero bs = omega arith
leading-append-zeros (suc n) bs = omega (arith, leading-append-zeros n bs)

-- Behind a one nothing counts.
pub leading_front_one : (a b : List Bool) → leading a < length a → leading (a ++ b) ≡ leading a
leading_front_one [] b h = absurd (omega arith)
leading_front_one (true ∷ a) b h = refl
leading_front_one (false ∷ a) b h = ap suc (leading_front_one a b (omega arith))

pub take-zeros : (k n : ℕ) → k ≤ n → take k (zeros n) ≡ zeros k
take-zeros k n h = take-replicate k n false h

pub drop-zeros : (k n : ℕ) → drop k (zeros n) ≡ zeros (n - k)
drop-zeros k n = drop-replicate k n false

-- Bits cut into numbers, and these spread: the bits, and zeros up to the end of the last number.
pub spread-cut_pad : (w n : ℕ) (bs : List Bool) → length bs ≤ w * n → spread w (cut w w n bs) ≡ bs ++ zeros (w * n - length bs)
spread-cut_pad w n bs h =
    rw (← cut_pad w w n (w * n - length bs) bs)
    (spread_cut w n (bs ++ zeros (w * n - length bs)) (rw (length-append, length-replicate) (omega arith)))

-- Numbers that are all zero spread into zeros.
pub spread-zeros : (w : ℕ) (xs : List ℕ) → ((i : ℕ) → i < length xs → get_or xs i 0 ≡ 0) → spread w xs ≡ zeros (w * length xs)
spread-zeros w xs h =
    ap (λ (l : List ℕ). spread w l) (is_cut w w (length xs) xs [] refl (λ i l. h i l ∙ sym (part_past w (w * i) [] (omega arith))))
    ∙ rw sub-zero at (spread-cut_pad w (length xs) [] (omega arith))

-- Numbers of w bits each lead in zeros to the end exactly if all of them are zero.
pub all_lead : (w : ℕ) (xs : List ℕ) → ((i : ℕ) → i < length xs → get_or xs i 0 ≡ 0) → leading (spread w xs) ≡ w * length xs
all_lead w xs h = rw (spread-zeros w xs h) (leading_zeros (w * length xs))

pub lead_all : (w : ℕ) (xs : List ℕ) → ((i : ℕ) → get_or xs i 0 < 2 ^ w) → leading (spread w xs) ≡ w * length xs → (i : ℕ) → get_or xs i 0 ≡ 0
lead_all w xs fits e i =
    let none : spread w xs ≡ zeros (length (spread w xs)) = all_leading (spread w xs) (e ∙ sym (length-spread w xs)) in
    sym (part_spread w xs i fits) ∙ ap (part w (w * i)) none ∙ part_pad w (w * i) (length (spread w xs)) [] ∙ part_past w (w * i) [] (omega arith)

pub leading-cleared : (at : ℕ) (bs : List Bool) → leading (cleared at bs) ≡ at + leading (drop at bs)
leading-cleared at bs = leading-append-zeros at (drop at bs)

pub length-cleared : (at : ℕ) (bs : List Bool) → at ≤ length bs → length (cleared at bs) ≡ length bs
length-cleared at bs h = rw (length-append, length-replicate, length-drop) (omega arith)

pub drop-cleared : (at : ℕ) (bs : List Bool) → drop at (cleared at bs) ≡ drop at bs
drop-cleared at bs = drop_at (zeros at) (drop at bs) at (length-replicate at false)

pub take-cleared : (at : ℕ) (bs : List Bool) → take at (cleared at bs) ≡ zeros at
take-cleared at bs = take_at (zeros at) (drop at bs) at (length-replicate at false)

-- A part of cleared bits that begins at or behind the place, one that ends at or before it, and one across it.
pub part_behind : (w at start : ℕ) (bs : List Bool) → at ≤ start → part w start (cleared at bs) ≡ part w start bs
part_behind w at start bs h =
    let e : at + (start - at) ≡ start = omega arith in
    rw (← e, ← drop-drop (start - at) at (cleared at bs), drop-cleared at bs, drop-drop)

pub part_before : (w at start : ℕ) (bs : List Bool) → start + w ≤ at → part w start (cleared at bs) ≡ 0
part_before w at start bs h =
    let l : length (zeros at) ≡ at = length-replicate at false in
    let m : w ≤ length (zeros (at - start)) = rw length-replicate (omega arith) in
    let k : w ≤ length (zeros (at - start) ++ drop at bs) = rw length-append (omega arith) in
    rw (
      drop-append-le start (zeros at) (drop at bs) (omega arith),
      drop-zeros start at,
      front_take w (zeros (at - start) ++ drop at bs) k,
      take-append-le w (zeros (at - start)) (drop at bs) m,
      take-zeros w (at - start) (omega arith),
    )
    (number-zeros w)

pub part_across : (v r w at start : ℕ) (bs : List Bool) → v + r ≡ w → start + v ≡ at → part w start (cleared at bs) ≡ part w start bs % 2 ^ r
part_across v r w at start bs all e =
    rw (← all, part_add v r start (cleared at bs), part_before v at start bs (omega arith), part_low v r start bs, part_behind r at (start + v) bs (omega arith))
    (omega arith)
