-- Bits cut into numbers, and numbers spread into bits.
use Prim.Native.Nat.{ℕ, zero, suc, ◌+◌, ◌*◌, ◌/◌, ◌%◌, ◌^◌, ◌-◌, ◌≤◌, ◌<◌}
use mathlib.Core.List.{List, [], ◌∷◌, ◌++◌}
use mathlib.Core.Bool.{Bool, true, false}
use mathlib.Core.Path.{◌≡◌, refl, sym, ap, ◌∙◌}
use native.Mathlib.Omega.{arith}
use native.Mathlib.Numerals.{add-one}
use native.Mathlib.Nat.{mul-zero, mul-suc, add_comm}
use lib.Dec.{eqb}
use lib.Pow.{pow_pos}
use lib.ListN.{length, get_or, set, take, drop, length-append, length-drop, length-set, take-append-drop}
use lib.Seq.{drop-drop, drop_at, ext_get_or, length-take-le, take_all, take-append-le, take-suc, take-suc-set}
use Rattle.std.specs.Int.{w64, from_be_bytes}
use Rattle.bits.specs.Bits.{bit, odd, number, zeros, spread, cut, bits_of}
use Rattle.bits.specs.Inner.Words.{number_at}
use Rattle.bits.proofs.Spelling.{length-bits_of, number-bits_of, bits_of_number}
use Rattle.bits.proofs.Fronts.{front_padded, front_at, part, part_add, part_lt, part_part, part_past, part_pad, part_take}

pub length_cut : (step w n : ℕ) (bs : List Bool) → length (cut step w n bs) ≡ n
length_cut step w zero bs = refl
length_cut step w (suc n) bs = ap suc (length_cut step w n (drop step bs))

pub length-spread : (w : ℕ) (xs : List ℕ) → length (spread w xs) ≡ w * length xs
length-spread w [] = omega arith
length-spread w (x ∷ xs) = rw (length-append, length-bits_of, length-spread w xs, mul-suc) (omega arith)

pub cut_at : (step w n i : ℕ) (bs : List Bool) → i < n → get_or (cut step w n bs) i 0 ≡ part w (step * i) bs
cut_at step w zero i bs h = absurd (omega arith)
cut_at step w (suc n) zero bs h = rw (mul-zero, front_padded w w bs (omega arith))
cut_at step w (suc n) (suc i) bs h =
    rw (cut_at step w n i (drop step bs) (omega arith), drop-drop, mul-suc, add_comm (step * i) step)

pub cut_lt : (step w n : ℕ) (bs : List Bool) (i : ℕ) → get_or (cut step w n bs) i 0 < 2 ^ w
cut_lt step w zero bs i = pow_pos w
cut_lt step w (suc n) bs zero = rw (← front_padded w w bs (omega arith)) at (part_lt w 0 bs)
cut_lt step w (suc n) bs (suc i) = cut_lt step w n (drop step bs) i

-- Numbers that are, one by one, those in the bits are their cut.
pub is_cut : (step w n : ℕ) (xs : List ℕ) (bs : List Bool) → length xs ≡ n → ((i : ℕ) → i < n → get_or xs i 0 ≡ part w (step * i) bs)
    → xs ≡ cut step w n bs
is_cut step w n xs bs e h =
    ext_get_or 0 xs (cut step w n bs) (e ∙ sym (length_cut step w n bs))
    (λ i l. let k : i < n = omega arith in h i k ∙ sym (cut_at step w n i bs k))

-- A part of number i of a cut.
pub cut_part : (step s n : ℕ) (bs : List Bool) (xs : List ℕ) → xs ≡ cut step s n bs → (i o w r at : ℕ) → i < n → o + w + r ≡ s → step * i + o ≡ at
    → get_or xs i 0 / 2 ^ r % 2 ^ w ≡ part w at bs
cut_part step s n bs xs c i o w r at h e f = rw (c, cut_at step s n i bs h, part_part o w r s (step * i) bs e, f)

-- The number in some bits, taken from the words: zeros past the end, or within the bits.
pub part_at : (n : ℕ) (bs : List Bool) (words : List ℕ) → words ≡ cut 32 64 n bs → (at w : ℕ) → at / 32 < n → w ≤ 32
    → number_at words at w ≡ part w at bs
part_at n bs words c at w h l = cut_part 32 64 n bs words c (at / 32) (at % 32) w (64 - at % 32 - w) at h (omega arith) (omega arith)

pub number_at_law : (n : ℕ) (bs : List Bool) (at w : ℕ) → at / 32 < n → w ≤ 32 → at + w ≤ length bs
    → number_at (cut 32 64 n bs) at w ≡ number (take w (drop at bs))
number_at_law n bs at w h l f = part_at n bs (cut 32 64 n bs) refl at w h l ∙ part_take w at bs f

-- Number i of some that are spread.
pub part_spread : (w : ℕ) (xs : List ℕ) (i : ℕ) → ((i : ℕ) → get_or xs i 0 < 2 ^ w) → part w (w * i) (spread w xs) ≡ get_or xs i 0
part_spread w [] i h = part_past w (w * i) [] (omega arith)
part_spread w (x ∷ xs) zero h = rw (mul-zero w, front_at w (bits_of w x) (spread w xs) (length-bits_of w x)) (number-bits_of w x (h 0))
part_spread w (x ∷ xs) (suc i) h =
    rw (mul-suc w i, add_comm (w * i) w, ← drop-drop (w * i) w (bits_of w x ++ spread w xs), drop_at (bits_of w x) (spread w xs) w (length-bits_of w x))
    (part_spread w xs i (λ j. h (suc j)))

-- The bit at a place, as a number and as one of the byte that it stands in.
pub part_one : (at : ℕ) (bs : List Bool) → part 1 at bs ≡ bit (get_or bs at false)
part_one zero [] = refl
part_one zero (true ∷ bs) = refl
part_one zero (false ∷ bs) = refl
part_one (suc at) [] = refl
part_one (suc at) (b ∷ bs) = part_one at bs

pub bit_spread : (xs : List ℕ) (at : ℕ) → ((i : ℕ) → get_or xs i 0 < 2 ^ 8)
    → odd (get_or xs (at / 8) 0 / 2 ^ (7 - at % 8)) ≡ get_or (spread 8 xs) at false
bit_spread xs at fits =
    let here : 8 * (at / 8) + at % 8 ≡ at = omega arith in
    let one : get_or xs (at / 8) 0 / 2 ^ (7 - at % 8) % 2 ^ 1 ≡ bit (get_or (spread 8 xs) at false) =
    rw (part_spread 8 xs (at / 8) fits, here) at (part_part (at % 8) 1 (7 - at % 8) 8 (8 * (at / 8)) (spread 8 xs) (omega arith))
    ∙ part_one at (spread 8 xs) in
    ap (λ (n : ℕ). eqb n 1) one ∙ told (get_or (spread 8 xs) at false)
  where
    told : (b : Bool) → eqb (bit b) 1 ≡ b
    told true = refl
    told false = refl

pub cut-spread : (w : ℕ) (xs : List ℕ) → ((i : ℕ) → get_or xs i 0 < 2 ^ w) → cut w w (length xs) (spread w xs) ≡ xs
cut-spread w xs h = sym (is_cut w w (length xs) xs (spread w xs) refl (λ i l. sym (part_spread w xs i h)))

pub spread_cut : (w n : ℕ) (bs : List Bool) → length bs ≡ w * n → spread w (cut w w n bs) ≡ bs
spread_cut w zero [] h = refl
spread_cut w zero (b ∷ bs) h = absurd (omega arith)
spread_cut w (suc n) bs h =
    let m : w * suc n ≡ w * n + w = mul-suc w n in
    let l : w ≤ length bs = omega arith in
    let first : bits_of w (number (take w bs)) ≡ take w bs = rw (length-take-le w bs l) at (bits_of_number (take w bs)) in
    let rest : spread w (cut w w n (drop w bs)) ≡ drop w bs = spread_cut w n (drop w bs) (rw length-drop (omega arith)) in
    rw (take-append-le w bs (zeros w) l, first, rest, take-append-drop)

pub cut_pad : (step w n k : ℕ) (bs : List Bool) → cut step w n (bs ++ zeros k) ≡ cut step w n bs
cut_pad step w n k bs =
    is_cut step w n (cut step w n (bs ++ zeros k)) bs (length_cut step w n (bs ++ zeros k))
    (λ i h. cut_at step w n i (bs ++ zeros k) h ∙ part_pad w (step * i) k bs)

-- A list that is filled from the front with the numbers of a cut: none yet, one more, and all.
pub record Filled (step w n : ℕ) (bs : List Bool) (j : ℕ) (xs : List ℕ) : Type 0 where
  pub long : length xs ≡ n
  pub same : take j xs ≡ take j (cut step w n bs)

pub filled_none : (step w n : ℕ) (bs : List Bool) (xs : List ℕ) → length xs ≡ n → Filled step w n bs 0 xs
filled_none step w n bs xs l = record { long = l; same = refl }

pub filled_more : {step w n : ℕ} {bs : List Bool} {j : ℕ} {xs : List ℕ} {x : ℕ} (k : ℕ) → j + 1 ≡ k → Filled step w n bs j xs → j < n → x ≡ part w (step * j) bs
    → Filled step w n bs k (set xs j x)
filled_more {step} {w} {n} {bs} {j} {xs} {x} k next filled h e =
    let i : j < length xs = omega (arith, filled.long) in
    let g : j < length (cut step w n bs) = omega (arith, length_cut step w n bs) in
    record {
      long = simp length-set filled.long;
      same = rw (← next, add-one, take-suc-set xs j x i, take-suc (cut step w n bs) j 0 g, cut_at step w n j bs h, filled.same, e);
    }

pub filled_all : {step w n : ℕ} {bs : List Bool} {j : ℕ} {xs : List ℕ} → Filled step w n bs j xs → n ≤ j → xs ≡ cut step w n bs
filled_all {step} {w} {n} {bs} {j} {xs} filled h =
    let g : length (cut step w n bs) ≤ j = omega (arith, length_cut step w n bs) in
    let k : length xs ≤ j = omega (arith, filled.long) in
    sym (take_all j xs k) ∙ filled.same ∙ take_all j (cut step w n bs) g

-- The number of the eight bytes from byte i on, high byte first.
module _ (xs : List ℕ) (fits : (i : ℕ) → get_or xs i 0 < 2 ^ 8) where
  byte_at : (i at : ℕ) → 8 * i ≡ at → part 8 at (spread 8 xs) ≡ get_or xs i 0
  byte_at i at e = rw e at (part_spread 8 xs i fits)

  pub eight_bytes : (i at : ℕ) → 8 * i ≡ at
      → from_be_bytes w64 (get_or xs i 0 ∷ get_or xs (i + 1) 0 ∷ get_or xs (i + 2) 0 ∷ get_or xs (i + 3) 0
      ∷ get_or xs (i + 4) 0 ∷ get_or xs (i + 5) 0 ∷ get_or xs (i + 6) 0 ∷ get_or xs (i + 7) 0 ∷ [])
      ≡ part 64 at (spread 8 xs)
  eight_bytes i at e =
      omega (
        arith,
        part_add 8 56 at (spread 8 xs),
        part_add 8 48 (at + 8) (spread 8 xs),
        part_add 8 40 (at + 8 + 8) (spread 8 xs),
        part_add 8 32 (at + 8 + 8 + 8) (spread 8 xs),
        part_add 8 24 (at + 8 + 8 + 8 + 8) (spread 8 xs),
        part_add 8 16 (at + 8 + 8 + 8 + 8 + 8) (spread 8 xs),
        part_add 8 8 (at + 8 + 8 + 8 + 8 + 8 + 8) (spread 8 xs),
        byte_at i at e,
        byte_at (i + 1) (at + 8) (omega arith),
        byte_at (i + 2) (at + 8 + 8) (omega arith),
        byte_at (i + 3) (at + 8 + 8 + 8) (omega arith),
        byte_at (i + 4) (at + 8 + 8 + 8 + 8) (omega arith),
        byte_at (i + 5) (at + 8 + 8 + 8 + 8 + 8) (omega arith),
        byte_at (i + 6) (at + 8 + 8 + 8 + 8 + 8 + 8) (omega arith),
        byte_at (i + 7) (at + 8 + 8 + 8 + 8 + 8 + 8 + 8) (omega arith),
      )

-- Byte k of a draft of words of 32 bits.
pub draft_byte : (draft : List ℕ) (out : List Bool) → draft ≡ cut 32 32 (length draft) out → (k : ℕ) → k / 4 < length draft
    → get_or draft (k / 4) 0 / 2 ^ (24 - 8 * (k % 4)) % 2 ^ 8 ≡ part 8 (8 * k) out
draft_byte draft out e k h = cut_part 32 32 (length draft) out draft e (k / 4) (8 * (k % 4)) 8 (24 - 8 * (k % 4)) (8 * k) h (omega arith) (omega arith)
