-- Bits and the numbers they spell: each is read back from the other.
use Prim.Native.Nat.{ℕ, zero, suc, ◌+◌, ◌*◌, ◌/◌, ◌%◌, ◌^◌, ◌<◌}
use mathlib.Core.List.{List, [], ◌∷◌, ◌++◌}
use mathlib.Core.Bool.{Bool, true, false}
use mathlib.Core.Path.{◌≡◌, refl, sym, ap, ◌∙◌}
use native.Mathlib.Omega.{arith}
use native.Mathlib.Nat.{pow-succ'}
use borrow.Author.Tests.{eqb-true, eqb-false}
use lib.ListN.{length}
use Rattle.bits.specs.Bits.{bit, number, number_on, odd, bits_on, bits_of}

pub number_on_law : (n : ℕ) (bs : List Bool) → number_on n bs ≡ n * 2 ^ length bs + number bs
number_on_law n [] = omega arith
number_on_law n (b ∷ bs) =
    let here : number_on (n * 2 + bit b) bs ≡ (n * 2 + bit b) * 2 ^ length bs + number bs = number_on_law (n * 2 + bit b) bs in
    let front : number_on (0 * 2 + bit b) bs ≡ (0 * 2 + bit b) * 2 ^ length bs + number bs = number_on_law (0 * 2 + bit b) bs in
    rw (pow-succ' 2 (length bs)) (omega arith)

pub number_append : (a b : List Bool) → number (a ++ b) ≡ number a * 2 ^ length b + number b
number_append a b = go 0 a
  where
    go : (n : ℕ) (a : List Bool) → number_on n (a ++ b) ≡ number_on n a * 2 ^ length b + number b
    go n [] = number_on_law n b
    go n (x ∷ a) = go (n * 2 + bit x) a

pub number_lt : (bs : List Bool) → number bs < 2 ^ length bs
number_lt [] = omega arith
number_lt (true ∷ bs) = rw (number_on_law (0 * 2 + 1) bs, pow-succ' 2 (length bs)) (omega (arith, number_lt bs))
number_lt (false ∷ bs) = rw (pow-succ' 2 (length bs)) (omega (arith, number_lt bs))

pub length_bits_on : (w n : ℕ) (bs : List Bool) → length (bits_on w n bs) ≡ w + length bs
length_bits_on zero n bs = omega arith
length_bits_on (suc w) n bs = length_bits_on w (n / 2) (odd n ∷ bs) ∙ omega arith

pub length-bits_of : (w n : ℕ) → length (bits_of w n) ≡ w
length-bits_of w n = length_bits_on w n [] ∙ omega arith

pub odd_bit : (n : ℕ) → bit (odd n) ≡ n % 2
odd_bit n = go (odd n) refl
  where
    go : (t : Bool) → odd n ≡ t → bit t ≡ n % 2
    go true e = sym (eqb-true _ _ e)
    go false e = let ne : n % 2 ≡ 1 → ⊥ = eqb-false _ _ e in omega arith

number_bits_on : (w m n : ℕ) (bs : List Bool) → n < 2 ^ w → number_on m (bits_on w n bs) ≡ (m * 2 ^ w + n) * 2 ^ length bs + number bs
number_bits_on zero m n bs h = let z : n ≡ 0 = omega arith in rw (number_on_law m bs, z) (omega arith)
number_bits_on (suc w) m n bs h =
    let half : n / 2 < 2 ^ w = let p = pow-succ' 2 w in omega arith in
    let rest = number_bits_on w m (n / 2) (odd n ∷ bs) half in
    let last : number_on (0 * 2 + bit (odd n)) bs ≡ (0 * 2 + bit (odd n)) * 2 ^ length bs + number bs = number_on_law (0 * 2 + bit (odd n)) bs in
    let parts : n * 2 ^ length bs ≡ (n / 2 * 2 + n % 2) * 2 ^ length bs = ap (λ (x : ℕ). x * 2 ^ length bs) (omega arith) in
    let p = pow-succ' 2 w in
    let q = pow-succ' 2 (length bs) in
    rest ∙ rw (last, odd_bit n, p, q) (omega arith)

-- A number read back from its box.
pub number-bits_of : (w n : ℕ) → n < 2 ^ w → number (bits_of w n) ≡ n
number-bits_of w n h = number_bits_on w 0 n [] h ∙ omega arith

above : (a b : List Bool) → length a ≡ length b → number_on 1 a ≡ number b → ⊥
above a b e n = let p : number_on 1 a ≡ 1 * 2 ^ length b + number a = rw e at (number_on_law 1 a) in omega (arith, number_lt b)

-- Bits of one length that spell one number are the same bits.
pub number_inj : (a b : List Bool) → length a ≡ length b → number a ≡ number b → a ≡ b
number_inj [] [] e n = refl
number_inj [] (y ∷ b) e n = absurd (omega arith)
number_inj (x ∷ a) [] e n = absurd (omega arith)
number_inj (true ∷ a) (true ∷ b) e n =
    let l : length a ≡ length b = omega arith in
    let p : number_on 1 a ≡ 1 * 2 ^ length b + number a = rw l at (number_on_law 1 a) in
    let q = number_on_law 1 b in
    let m : number a ≡ number b = omega arith in
    ap (λ (l : List Bool). true ∷ l) (number_inj a b l m)
number_inj (false ∷ a) (false ∷ b) e n = ap (λ (l : List Bool). false ∷ l) (number_inj a b (omega arith) n)
number_inj (true ∷ a) (false ∷ b) e n = absurd (above a b (omega arith) n)
number_inj (false ∷ a) (true ∷ b) e n = absurd (above b a (omega arith) (sym n))

-- The box of the number that bits spell is those bits.
pub bits_of_number : (bs : List Bool) → bits_of (length bs) (number bs) ≡ bs
bits_of_number bs =
    number_inj (bits_of (length bs) (number bs)) bs (length-bits_of (length bs) (number bs))
    (number-bits_of (length bs) (number bs) (number_lt bs))
