-- What the operations on bytes do to their bits.
use Prim.Native.Nat.{ℕ, zero, suc, ◌-◌, ◌/◌, ◌%◌, ◌^◌, ◌<◌, ◌≤◌}
use mathlib.Core.List.{List, [], ◌∷◌, ◌++◌}
use mathlib.Core.Bool.{Bool, true, false}
use mathlib.Core.Path.{◌≡◌, refl, sym, ap, ◌∙◌}
use native.Mathlib.Omega.{arith}
use borrow.Author.Tests.{eq-eqb, ne_eqb, eqb-true, eqb-false}
use lib.Bits.{bit_or, or_step, or_add_and, and_le_l}
use lib.ListN.{length, length-append, get_or}
use lib.Seq.{ext_get_or, take_at, drop_at}
use Rattle.bits.specs.Bits.{odd, bits_of, bits_on, spread, cut, join}
use Rattle.bits.proofs.Cutting.{cut-spread}
use Rattle.bits.proofs.Spelling.{length-bits_of}
use Rattle.rows.proofs.Boxes.{join-append}
use Rattle.gate.specs.Writes.{only, writes_of}

even : (n : ℕ) → odd n ≡ false → n % 2 ≡ 0
even n e = let not_one : n % 2 ≡ 1 → ⊥ = eqb-false (n % 2) 1 e in omega arith

-- A bit of a bitwise or is one where it is in either.
or_odd : (a b : ℕ) (xs ys : List Bool) → odd (bit_or a b) ∷ join xs ys ≡ join (odd a ∷ xs) (odd b ∷ ys)
or_odd a b xs ys = go (odd a) (odd b) refl refl
  where
    go : (x y : Bool) → odd a ≡ x → odd b ≡ y → odd (bit_or a b) ∷ join xs ys ≡ join (x ∷ xs) (y ∷ ys)
    go true y e f = let one : bit_or a b % 2 ≡ 1 = omega (arith, or_step a b, eqb-true (a % 2) 1 e) in rw (eq-eqb _ _ one)
    go false true e f = let one : bit_or a b % 2 ≡ 1 = omega (arith, or_step a b, eqb-true (b % 2) 1 f) in rw (eq-eqb _ _ one)
    go false false e f =
        let zero : bit_or a b % 2 ≡ 1 → ⊥ = λ h. omega (arith, or_step a b, even a e, even b f) in
        rw (ne_eqb _ _ zero)

or_half : (a b : ℕ) → bit_or a b / 2 ≡ bit_or (a / 2) (b / 2)
or_half a b = omega (arith, or_step a b)

or_on : (w a b : ℕ) (xs ys : List Bool) → bits_on w (bit_or a b) (join xs ys) ≡ join (bits_on w a xs) (bits_on w b ys)
or_on zero a b xs ys = refl
or_on (suc w) a b xs ys = rw (or_half a b, or_odd a b xs ys) (or_on w (a / 2) (b / 2) (odd a ∷ xs) (odd b ∷ ys))

bits_or : (w a b : ℕ) → bits_of w (bit_or a b) ≡ join (bits_of w a) (bits_of w b)
bits_or w a b = or_on w a b [] []

-- The bits that are only in the first of two numbers.
abbrev less : ℕ → ℕ → ℕ
less a b = bit_or a b - b

pub or_above : (a b : ℕ) → b ≤ bit_or a b
or_above a b = omega (arith, or_add_and a b, and_le_l a b)

less_half : (a b : ℕ) → less a b / 2 ≡ less (a / 2) (b / 2)
less_half a b = omega (arith, or_step a b, or_above (a / 2) (b / 2))

less_odd : (a b : ℕ) (xs ys : List Bool) → odd (less a b) ∷ only xs ys ≡ only (odd a ∷ xs) (odd b ∷ ys)
less_odd a b xs ys = go (odd b) refl
  where
    go : (y : Bool) → odd b ≡ y → odd (less a b) ∷ only xs ys ≡ only (odd a ∷ xs) (y ∷ ys)
    go true e =
        let none : less a b % 2 ≡ 1 → ⊥ = λ h. omega (arith, or_step a b, or_above (a / 2) (b / 2), eqb-true (b % 2) 1 e) in
        rw (ne_eqb _ _ none)
    go false e =
        let same : less a b % 2 ≡ a % 2 = omega (arith, or_step a b, or_above (a / 2) (b / 2), even b e) in
        rw same

only_on : (w a b : ℕ) (xs ys : List Bool) → bits_on w (less a b) (only xs ys) ≡ only (bits_on w a xs) (bits_on w b ys)
only_on zero a b xs ys = refl
only_on (suc w) a b xs ys = rw (less_half a b, less_odd a b xs ys) (only_on w (a / 2) (b / 2) (odd a ∷ xs) (odd b ∷ ys))

bits_only : (w a b : ℕ) → bits_of w (less a b) ≡ only (bits_of w a) (bits_of w b)
bits_only w a b = only_on w a b [] []

-- An operation on two bytes, byte by byte.
abbrev zipped : (ℕ → ℕ → ℕ) → List ℕ → List ℕ → List ℕ
zipped f [] ys = []
zipped f (x ∷ xs) [] = []
zipped f (x ∷ xs) (y ∷ ys) = f x y ∷ zipped f xs ys

module _ (f : ℕ → ℕ → ℕ) where
  length_zipped : (xs ys : List ℕ) → length xs ≡ length ys → length (zipped f xs ys) ≡ length ys
  length_zipped [] [] e = refl
  length_zipped [] (y ∷ ys) e = absurd (omega arith)
  length_zipped (x ∷ xs) [] e = absurd (omega arith)
  length_zipped (x ∷ xs) (y ∷ ys) e = ap suc (length_zipped xs ys (omega arith))

  zipped_at : (xs ys : List ℕ) (i : ℕ) → length xs ≡ length ys → i < length ys → get_or (zipped f xs ys) i 0 ≡ f (get_or xs i 0) (get_or ys i 0)
  zipped_at [] [] i e h = absurd (omega arith)
  zipped_at [] (y ∷ ys) i e h = absurd (omega arith)
  zipped_at (x ∷ xs) [] i e h = absurd (omega arith)
  zipped_at (x ∷ xs) (y ∷ ys) zero e h = refl
  zipped_at (x ∷ xs) (y ∷ ys) (suc i) e h = zipped_at xs ys i (omega arith) (omega arith)

  zipped_is : (xs ys out : List ℕ) → length xs ≡ length ys → length out ≡ length ys
      → ((i : ℕ) → i < length out → get_or out i 0 ≡ f (get_or xs i 0) (get_or ys i 0))
      → out ≡ zipped f xs ys
  zipped_is xs ys out e long each =
      ext_get_or 0 out (zipped f xs ys) (long ∙ sym (length_zipped xs ys e)) (λ i h. each i h ∙ sym (zipped_at xs ys i e (omega arith)))

  -- What the operation does to bits, done to those of all bytes.
  spread_zipped : (g : List Bool → List Bool → List Bool)
      → g [] [] ≡ []
      → ((xs xt ys yt : List Bool) → length xs ≡ length ys → g (xs ++ xt) (ys ++ yt) ≡ g xs ys ++ g xt yt)
      → (xs ys : List ℕ) → length xs ≡ length ys
      → ((i : ℕ) → i < length ys → bits_of 8 (f (get_or xs i 0) (get_or ys i 0)) ≡ g (bits_of 8 (get_or xs i 0)) (bits_of 8 (get_or ys i 0)))
      → spread 8 (zipped f xs ys) ≡ g (spread 8 xs) (spread 8 ys)
  spread_zipped g none joins [] [] e each = sym none
  spread_zipped g none joins [] (y ∷ ys) e each = absurd (omega arith)
  spread_zipped g none joins (x ∷ xs) [] e each = absurd (omega arith)
  spread_zipped g none joins (x ∷ xs) (y ∷ ys) e each =
      let first : bits_of 8 (f x y) ≡ g (bits_of 8 x) (bits_of 8 y) = each 0 (omega arith) in
      let rest : spread 8 (zipped f xs ys) ≡ g (spread 8 xs) (spread 8 ys) =
      spread_zipped g none joins xs ys (omega arith) (λ i h. each (suc i) (omega arith)) in
      ap (λ (l : List Bool). l ++ spread 8 (zipped f xs ys)) first
      ∙ ap (λ (l : List Bool). g (bits_of 8 x) (bits_of 8 y) ++ l) rest
      ∙ sym (joins (bits_of 8 x) (spread 8 xs) (bits_of 8 y) (spread 8 ys) (length-bits_of 8 x ∙ sym (length-bits_of 8 y)))

only_append : (xs xt ys yt : List Bool) → length xs ≡ length ys → only (xs ++ xt) (ys ++ yt) ≡ only xs ys ++ only xt yt
only_append [] xt [] yt e = refl
only_append [] xt (y ∷ ys) yt e = absurd (omega arith)
only_append (x ∷ xs) xt [] yt e = absurd (omega arith)
only_append (x ∷ xs) xt (true ∷ ys) yt e = ap (λ (l : List Bool). false ∷ l) (only_append xs xt ys yt (omega arith))
only_append (x ∷ xs) xt (false ∷ ys) yt e = ap (λ (l : List Bool). x ∷ l) (only_append xs xt ys yt (omega arith))

-- Bytes each or-ed are bits joined.
pub spread_or : (xs ys out : List ℕ) → length xs ≡ length ys → length out ≡ length ys
    → ((i : ℕ) → i < length out → get_or out i 0 ≡ bit_or (get_or xs i 0) (get_or ys i 0))
    → spread 8 out ≡ join (spread 8 xs) (spread 8 ys)
spread_or xs ys out e long each =
    ap (spread 8) (zipped_is bit_or xs ys out e long each)
    ∙ spread_zipped bit_or join refl join-append xs ys e (λ i h. bits_or 8 (get_or xs i 0) (get_or ys i 0))

-- Bytes each or-ed, less the second, are the bits that are only in the first.
pub spread_only : (xs ys out : List ℕ) → length xs ≡ length ys → length out ≡ length ys
    → ((i : ℕ) → i < length out → get_or out i 0 ≡ less (get_or xs i 0) (get_or ys i 0))
    → spread 8 out ≡ only (spread 8 xs) (spread 8 ys)
spread_only xs ys out e long each =
    ap (spread 8) (zipped_is less xs ys out e long each)
    ∙ spread_zipped less only refl only_append xs ys e (λ i h. bits_only 8 (get_or xs i 0) (get_or ys i 0))

-- Bytes are what is cut from their bits.
pub back : (xs : List ℕ) (bs : List Bool) → length xs ≡ 29 → ((i : ℕ) → get_or xs i 0 < 2 ^ 8) → spread 8 xs ≡ bs → xs ≡ cut 8 8 29 bs
back xs bs long small e =
    sym (cut-spread 8 xs small) ∙ ap (λ (n : ℕ). cut 8 8 n (spread 8 xs)) long ∙ ap (λ (l : List Bool). cut 8 8 29 l) e

-- A write and the others behind it.
pub writes_more : (write rest : List ℕ) → length write ≡ 29
    → writes_of (length (write ++ rest) / 29) (write ++ rest) ≡ spread 8 write ∷ writes_of (length rest / 29) rest
writes_more write rest long =
    let more : length (write ++ rest) / 29 ≡ suc (length rest / 29) = omega (arith, length-append write rest) in
    rw (more, take_at write rest 29 long, drop_at write rest 29 long)

pub length_only : (xs ys : List Bool) → length (only xs ys) ≡ length xs
length_only [] ys = refl
length_only (x ∷ xs) [] = refl
length_only (x ∷ xs) (true ∷ ys) = ap suc (length_only xs ys)
length_only (x ∷ xs) (false ∷ ys) = ap suc (length_only xs ys)
