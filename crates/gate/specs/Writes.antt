-- Gate writes: bits only, no field is read. Document 01, "Gate writes".
use Rattle.std.specs.Prelude.{ℕ, zero, suc, ◌/◌, ◌%◌, List, [], ◌∷◌, ◌++◌, Bool, true, false, ◌&&◌, ◌||◌, ◌≡◌, eqb, ltb, length, get_or, take, drop}
use Rattle.bits.specs.Bits.{spread, cut, join, leading}
use Rattle.rows.specs.Row.{pick}
use Rattle.records.specs.Answer.{Written, refusal, accepted, denied}

-- Bits after some writes, one after the other: a gate only raises bits.
abbrev pub applied : List Bool → List (List Bool) → List Bool
applied bs [] = bs
applied bs (w ∷ ws) = applied (join bs w) ws

-- The bits that are one in the first and zero in the second.
abbrev pub only : List Bool → List Bool → List Bool
only [] ys = []
only (x ∷ xs) [] = x ∷ xs
only (x ∷ xs) (true ∷ ys) = false ∷ only xs ys
only (x ∷ xs) (false ∷ ys) = x ∷ only xs ys

-- n writes of 29 bytes each, as bits.
abbrev pub writes_of : ℕ → List ℕ → List (List Bool)
writes_of zero bytes = []
writes_of (suc n) bytes = spread 8 (take 29 bytes) ∷ writes_of n (drop 29 bytes)

abbrev pub whole : List ℕ → Bool
whole bytes = eqb (length bytes) 29

-- Applying: 1 where the record is not 29 bytes or the writes are no multiple of 29, then 11 where they are more than 15.
unfoldable pub applying : List ℕ → List ℕ → Written
applying before writes =
    pick (whole before && eqb (length writes % 29) 0)
    (pick (ltb 15 (length writes / 29)) (denied (refusal 11 0) before)
    (accepted (cut 8 8 29 (applied (spread 8 before) (writes_of (length writes / 29) writes)))))
    (denied (refusal 1 0) before)

-- Finding the write from present to wanted: 10 at the first bit that would have to fall; else the bits that are missing.
unfoldable pub finding : List ℕ → List ℕ → List ℕ → Written
finding present wanted before =
    pick (whole present && whole wanted && whole before)
    (pick (ltb (leading (only (spread 8 present) (spread 8 wanted))) 232)
    (denied (refusal 10 (leading (only (spread 8 present) (spread 8 wanted)))) before)
    (accepted (cut 8 8 29 (only (spread 8 wanted) (spread 8 present)))))
    (denied (refusal 1 0) before)

-- Joining two writes: bitwise or.
unfoldable pub joining : List ℕ → List ℕ → List ℕ → Written
joining a b before =
    pick (whole a && whole b && whole before) (accepted (cut 8 8 29 (join (spread 8 a) (spread 8 b)))) (denied (refusal 1 0) before)

-- Whether bit i is one in some of the writes.
abbrev pub in_some : ℕ → List (List Bool) → Bool
in_some i [] = false
in_some i (w ∷ ws) = get_or w i false || in_some i ws

-- A record after some calls, one after the other, each with its own lent writes.
abbrev pub called : List ℕ → List (List ℕ) → List ℕ
called bytes [] = bytes
called bytes (c ∷ cs) = called (applying bytes c).bytes cs

-- Each of the calls is accepted.
abbrev pub AllAccepted : List ℕ → List (List ℕ) → Type 0
AllAccepted bytes [] = Unit {0}
AllAccepted bytes (c ∷ cs) = ((applying bytes c).answer.number ≡ 0) × AllAccepted (applying bytes c).bytes cs

-- All writes of the calls, as bits.
abbrev pub writes_in : List (List ℕ) → List (List Bool)
writes_in [] = []
writes_in (c ∷ cs) = writes_of (length c / 29) c ++ writes_in cs

-- No bit need fall from present to wanted.
abbrev pub NoneFalls : List Bool → List Bool → Type 0
NoneFalls present wanted = (i : ℕ) → get_or present i false ≡ true → get_or wanted i false ≡ true
