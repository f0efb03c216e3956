-- Bits and the numbers that they spell. Document 01, "Boxes and bitmaps": bit 0 is the top bit of byte 0, and
-- numbers stand high bit first.
use Rattle.std.specs.Prelude.{ℕ, zero, suc, ◌+◌, ◌*◌, ◌/◌, ◌%◌, List, [], ◌∷◌, ◌++◌, Bool, true, false, eqb, take, drop, replicate}

abbrev pub bit : Bool → ℕ
bit true = 1
bit false = 0

-- The number that bits spell behind a number n already read.
abbrev pub number_on : ℕ → List Bool → ℕ
number_on n [] = n
number_on n (b ∷ bs) = number_on (n * 2 + bit b) bs

-- The number that bits spell, high bit first.
abbrev pub number : List Bool → ℕ
number bs = number_on 0 bs

abbrev pub odd : ℕ → Bool
odd n = eqb (n % 2) 1

-- The last w bits of n, in front of some bits.
abbrev pub bits_on : ℕ → ℕ → List Bool → List Bool
bits_on zero n bs = bs
bits_on (suc w) n bs = bits_on w (n / 2) (odd n ∷ bs)

-- A number in a box of w bits, high bit first.
abbrev pub bits_of : ℕ → ℕ → List Bool
bits_of w n = bits_on w n []

-- The bits of numbers that have w bits each: of a record's bytes at w = 8.
abbrev pub spread : ℕ → List ℕ → List Bool
spread w [] = []
spread w (x ∷ xs) = bits_of w x ++ spread w xs

abbrev pub zeros : ℕ → List Bool
zeros n = replicate n false

-- Bits with zeros before a place.
abbrev pub cleared : ℕ → List Bool → List Bool
cleared at bs = zeros at ++ drop at bs

-- n numbers of w bits each, the next one step bits on; past the end the bits are zeros. Bytes are cut 8 8.
abbrev pub cut : ℕ → ℕ → ℕ → List Bool → List ℕ
cut step w zero bs = []
cut step w (suc n) bs = number (take w (bs ++ zeros w)) ∷ cut step w n (drop step bs)

-- Two strings of bits as one, place by place: a bit is one where it is one in either.
abbrev pub join : List Bool → List Bool → List Bool
join [] ws = []
join (b ∷ bs) [] = b ∷ bs
join (true ∷ bs) (w ∷ ws) = true ∷ join bs ws
join (false ∷ bs) (w ∷ ws) = w ∷ join bs ws

-- How many zeros stand in front of the first one (or of the end).
abbrev pub leading : List Bool → ℕ
leading [] = 0
leading (true ∷ bs) = 0
leading (false ∷ bs) = suc (leading bs)
