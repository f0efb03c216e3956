-- The bits from a place on, zeros past the end, and the numbers they spell.
use Prim.Native.Nat.{ℕ, zero, suc, ◌+◌, ◌*◌, ◌/◌, ◌%◌, ◌^◌, ◌≤◌, ◌<◌}
use mathlib.Core.List.{List, [], ◌∷◌, ◌++◌, append_assoc}
use mathlib.Core.Bool.{Bool, false}
use mathlib.Core.Path.{◌≡◌, refl, sym, ap, ◌∙◌}
use native.Mathlib.Omega.{arith}
use native.Mathlib.Nat.{suc-add, zero-add, add_comm, add-mul, mul_assoc, mod-eq_of_lt, mul-add-mod_self_right}
use lib.Pow.{high, low, pow-add, shl_lt}
use lib.ListN.{length, take, drop, length-append, length-drop, length-replicate, replicate-append-replicate, drop_of_length-le}
use lib.Seq.{drop-nil, drop-drop, take_all, take-append-le, take_at}
use Rattle.bits.specs.Bits.{number, zeros}
use Rattle.bits.proofs.Spelling.{number_append, number_lt}

-- The first w bits, zeros past the end.
abbrev pub front : ℕ → List Bool → List Bool
front zero bs = []
front (suc w) [] = false ∷ front w []
front (suc w) (b ∷ bs) = b ∷ front w bs

pub front_padded : (w k : ℕ) (bs : List Bool) → w ≤ length bs + k → take w (bs ++ zeros k) ≡ front w bs
front_padded zero k bs h = refl
front_padded (suc w) zero [] h = absurd (omega arith)
front_padded (suc w) (suc k) [] h = ap (λ (l : List Bool). false ∷ l) (front_padded w k [] (omega arith))
front_padded (suc w) k (b ∷ bs) h = ap (λ (l : List Bool). b ∷ l) (front_padded w k bs (omega arith))

pub front_take : (w : ℕ) (bs : List Bool) → w ≤ length bs → front w bs ≡ take w bs
front_take w bs h = sym (front_padded w w bs (omega arith)) ∙ take-append-le w bs (zeros w) h

pub length_front : (w : ℕ) (bs : List Bool) → length (front w bs) ≡ w
length_front zero bs = refl
length_front (suc w) [] = ap suc (length_front w [])
length_front (suc w) (b ∷ bs) = ap suc (length_front w bs)

pub front_add : (v w : ℕ) (bs : List Bool) → front (v + w) bs ≡ front v bs ++ front w (drop v bs)
front_add zero w bs = rw zero-add
front_add (suc v) w [] = rw (suc-add v w, front_add v w [], drop-nil v)
front_add (suc v) w (b ∷ bs) = rw (suc-add v w, front_add v w bs)

-- All of some bits, and zeros.
pub front_all : (w k : ℕ) (bs : List Bool) → length bs + k ≡ w → front w bs ≡ bs ++ zeros k
front_all w k bs e =
    let l : length (bs ++ zeros k) ≤ w = rw (length-append, length-replicate) (omega arith) in
    sym (front_padded w k bs (omega arith)) ∙ take_all w (bs ++ zeros k) l

-- Bits in front of others are their first bits.
pub front_at : (w : ℕ) (a b : List Bool) → length a ≡ w → front w (a ++ b) ≡ a
front_at w a b e = rw (front_take w (a ++ b) (rw length-append (omega arith)), take_at a b w e)

-- The number in the w bits from bit at on.
abbrev pub part : ℕ → ℕ → List Bool → ℕ
part w at bs = number (front w (drop at bs))

pub part_lt : (w at : ℕ) (bs : List Bool) → part w at bs < 2 ^ w
part_lt w at bs = rw (length_front w (drop at bs)) at (number_lt (front w (drop at bs)))

pub part_add : (v w at : ℕ) (bs : List Bool) → part (v + w) at bs ≡ part v at bs * 2 ^ w + part w (at + v) bs
part_add v w at bs = rw (front_add v w (drop at bs), number_append, length_front, drop-drop)

pub part_high : (v w at : ℕ) (bs : List Bool) → part (v + w) at bs / 2 ^ w ≡ part v at bs
part_high v w at bs = rw (part_add v w at bs) (high (part v at bs) w (part_lt w (at + v) bs))

pub part_low : (v w at : ℕ) (bs : List Bool) → part (v + w) at bs % 2 ^ w ≡ part w (at + v) bs
part_low v w at bs = rw (part_add v w at bs) (low (part v at bs) w (part_lt w (at + v) bs))

-- A part of a part.
pub part_part : (o w r s at : ℕ) (bs : List Bool) → o + w + r ≡ s → part s at bs / 2 ^ r % 2 ^ w ≡ part w (at + o) bs
part_part o w r s at bs e = rw (← e, part_high (o + w) r at bs) (part_low o w at bs)

-- A part as the definitions have it: zeros past the end, or within the bits.
pub part_padded : (w at : ℕ) (bs : List Bool) → part w at bs ≡ number (take w (drop at bs ++ zeros w))
part_padded w at bs = rw (front_padded w w (drop at bs) (omega arith))

pub part_take : (w at : ℕ) (bs : List Bool) → at + w ≤ length bs → part w at bs ≡ number (take w (drop at bs))
part_take w at bs h = rw (front_take w (drop at bs) (rw length-drop (omega arith)))

pub number-zeros : (k : ℕ) → number (zeros k) ≡ 0
number-zeros zero = refl
number-zeros (suc k) = number-zeros k

pub part_past : (w at : ℕ) (bs : List Bool) → length bs ≤ at → part w at bs ≡ 0
part_past w at bs h = rw (drop_of_length-le bs h, front_all w w [] (omega arith)) (number-zeros w)

front_pad : (w k : ℕ) (bs : List Bool) → front w (bs ++ zeros k) ≡ front w bs
front_pad w k bs =
    sym (front_padded w w (bs ++ zeros k) (omega arith))
    ∙ rw (append_assoc, replicate-append-replicate) (front_padded w (k + w) bs (omega arith))

-- Zeros behind some bits change no part.
pub part_pad : (w at k : ℕ) (bs : List Bool) → part w at (bs ++ zeros k) ≡ part w at bs
part_pad w at k bs = sym (last (bs ++ zeros k)) ∙ rw (front_pad (at + w) k bs) (last bs)
  where
    last : (bs : List Bool) → part (at + w) 0 bs % 2 ^ w ≡ part w at bs
    last bs = rw zero-add at (part_low at w 0 bs)

-- A number shifted over the top of its word: what is left are the bits from bit o on, and zeros.
pub shifted_out : (o r at : ℕ) (bs : List Bool) → part (o + r) at bs * 2 ^ o % 2 ^ (o + r) ≡ part r (at + o) bs * 2 ^ o
shifted_out o r at bs =
    let low : part r (at + o) bs * 2 ^ o < 2 ^ (r + o) = shl_lt r o (part_lt r (at + o) bs) in
    rw (part_add o r at bs, add-mul, mul_assoc, ← pow-add 2 r o, add_comm o r, mul-add-mod_self_right) (mod-eq_of_lt low)

-- At the end of the bits it is the part that begins there.
pub shifted_up : (o r at : ℕ) (bs : List Bool) → length bs ≤ at + o + r → part (o + r) at bs * 2 ^ o % 2 ^ (o + r) ≡ part (r + o) (at + o) bs
shifted_up o r at bs h = omega (arith, shifted_out o r at bs, part_add r o (at + o) bs, part_past o (at + o + r) bs h)
