-- Numbers in boxes that stand one after the other, whichever rows the boxes are of; and bits joined to such bits.
use Rattle.std.proofs.Common.{◌≡◌, ℕ, zero, suc, ◌+◌, ◌^◌, ◌<◌, ◌≤◌, Bool, true, false, ltb, List, [], ◌∷◌, ◌++◌, map, length, get_or, take, drop, sym, refl, ap, ◌∙◌, true≢false, append_assoc, append-nil, arith, length-append, length-drop, length-take, length-take-le, drop-drop, take_at, take-add, drop_at, pow_mono, ltb-true, lt-ltb}
use lib.ListN.{length-map, length-replicate}
use Rattle.bits.specs.Bits.{number, bits_of, zeros, join}
use Rattle.bits.proofs.Spelling.{number_lt, number_inj, length-bits_of, number-bits_of, bits_of_number}
use Rattle.rows.specs.Row.{pick, holds}
use Rattle.rows.specs.Walk.{total, there, exceeds, numbers, laid_on}
use Rattle.rows.specs.declared.When.{When}
use Rattle.rows.specs.Raise.{raised_in}

-- Boxes take as many bits as their parts.
pub total-append : (us ws : List ℕ) → total (us ++ ws) ≡ total us + total ws
total-append [] ws = omega arith
total-append (u ∷ us) ws = let rest = total-append us ws in omega arith

-- There is a number for each box.
pub length-numbers : (ws : List ℕ) (bs : List Bool) → length (numbers ws bs) ≡ length ws
length-numbers [] bs = refl
length-numbers (w ∷ ws) bs = ap suc (length-numbers ws (drop w bs))

-- A field has as many boxes where it is absent.
pub length_there : (t : When) (ws : List ℕ) → length (there t ws) ≡ length ws
length_there t ws = go (holds t)
  where
    go : (b : Bool) → length (pick b ws (map (λ (w : ℕ). 0) ws)) ≡ length ws
    go true = refl
    go false = length-map ws (λ (w : ℕ). 0)

-- The numbers in two runs of boxes, the second behind the first.
pub numbers-append : (us ws : List ℕ) (bs : List Bool) → numbers (us ++ ws) bs ≡ numbers us bs ++ numbers ws (drop (total us) bs)
numbers-append [] ws bs = refl
numbers-append (u ∷ us) ws bs = rw (numbers-append us ws (drop u bs), drop-drop)

-- A number read from a box never exceeds it.
pub numbers_fit : (ws : List ℕ) (bs : List Bool) → exceeds ws (numbers ws bs) ≡ false
numbers_fit [] bs = refl
numbers_fit (w ∷ ws) bs =
    let short : length (take w bs) ≤ w = simp length-take (omega arith) in
    let low : number (take w bs) < 2 ^ w = omega (arith, number_lt (take w bs), pow_mono short) in
    rw (lt-ltb _ _ low) (numbers_fit ws (drop w bs))

-- Numbers fit the boxes of two runs where they fit each.
pub exceeds_append : (us ws vs : List ℕ) → exceeds us (take (length us) vs) ≡ false
    → exceeds ws (drop (length us) vs) ≡ false → exceeds (us ++ ws) vs ≡ false
exceeds_append [] ws vs p q = q
exceeds_append (u ∷ us) ws [] p q = refl
exceeds_append (u ∷ us) ws (v ∷ vs) p q = go (ltb v (2 ^ u)) p (λ p. exceeds_append us ws vs p q)
  where
    go : (t : Bool) → pick t (exceeds us (take (length us) vs)) true ≡ false
        → (exceeds us (take (length us) vs) ≡ false → exceeds (us ++ ws) vs ≡ false) → pick t (exceeds (us ++ ws) vs) true ≡ false
    go true p rest = rest p
    go false p rest = p

-- The box of the number that stands in some bits is those bits.
pub box_of : (w : ℕ) (bs : List Bool) → w ≤ length bs → bits_of w (number (take w bs)) ≡ take w bs
box_of w bs h = rw (length-take-le w bs h) at (bits_of_number (take w bs))

-- The numbers that stand in boxes, laid again, are the bits they were read from.
pub laid_numbers : (out : List Bool) (ws : List ℕ) (bs : List Bool) → total ws ≤ length bs → laid_on out ws (numbers ws bs) ≡ out ++ take (total ws) bs
laid_numbers out [] bs h = sym (append-nil out)
laid_numbers out (w ∷ ws) bs h =
    let fits : w ≤ length bs = omega arith in
    let rest : total ws ≤ length (drop w bs) = simp length-drop (omega arith) in
    rw (box_of w bs, laid_numbers (out ++ take w bs) ws (drop w bs) rest, take-add, append_assoc)

-- What is laid behind some bits stands behind them.
pub laid_behind : (out : List Bool) (ws vs : List ℕ) → laid_on out ws vs ≡ out ++ laid_on [] ws vs
laid_behind out [] vs = sym (append-nil out)
laid_behind out (w ∷ ws) [] = sym (append-nil out)
laid_behind out (w ∷ ws) (v ∷ vs) = rw (laid_behind (out ++ bits_of w v) ws vs, laid_behind (bits_of w v) ws vs, append_assoc)

-- Boxes laid in two goes.
pub laid_append : (out : List Bool) (us ws vs : List ℕ)
    → laid_on out (us ++ ws) vs ≡ laid_on (laid_on out us (take (length us) vs)) ws (drop (length us) vs)
laid_append out [] ws vs = refl
laid_append out (u ∷ us) [] [] = refl
laid_append out (u ∷ us) (w ∷ ws) [] = refl
laid_append out (u ∷ us) ws (v ∷ vs) = laid_append (out ++ bits_of u v) us ws vs

-- Laid numbers fill their boxes.
pub length_laid : (ws vs : List ℕ) → length vs ≡ length ws → length (laid_on [] ws vs) ≡ total ws
length_laid [] vs e = refl
length_laid (w ∷ ws) [] e = absurd (omega arith)
length_laid (w ∷ ws) (v ∷ vs) e =
    let l : length vs ≡ length ws = omega arith in
    rw (laid_behind (bits_of w v) ws vs, length-append, length-bits_of, length_laid ws vs l)

-- Numbers that fit their boxes, laid in them, are read back.
pub numbers_laid : (ws vs : List ℕ) (rest : List Bool) → length vs ≡ length ws → exceeds ws vs ≡ false → numbers ws (laid_on [] ws vs ++ rest) ≡ vs
numbers_laid [] [] rest e fits = refl
numbers_laid [] (v ∷ vs) rest e fits = absurd (omega arith)
numbers_laid (w ∷ ws) [] rest e fits = absurd (omega arith)
numbers_laid (w ∷ ws) (v ∷ vs) rest e fits = go (ltb v (2 ^ w)) refl fits (λ p. numbers_laid ws vs rest (omega arith) p)
  where
    go : (t : Bool) → ltb v (2 ^ w) ≡ t → pick t (exceeds ws vs) true ≡ false → (exceeds ws vs ≡ false → numbers ws (laid_on [] ws vs ++ rest) ≡ vs)
        → numbers (w ∷ ws) (laid_on [] (w ∷ ws) (v ∷ vs) ++ rest) ≡ v ∷ vs
    go true low p back =
        let n : length (bits_of w v) ≡ w = length-bits_of w v in
        rw (laid_behind (bits_of w v) ws vs, append_assoc, take_at, drop_at, number-bits_of w v (ltb-true _ _ low), back p)
    go false low p back = absurd (true≢false p)

-- Joined bits are as long as the first.
pub length-join : (a b : List Bool) → length (join a b) ≡ length a
length-join [] b = refl
length-join (x ∷ a) [] = refl
length-join (true ∷ a) (y ∷ b) = ap suc (length-join a b)
length-join (false ∷ a) (y ∷ b) = ap suc (length-join a b)

-- The front of joined bits is the fronts joined.
pub take-join : (n : ℕ) (a b : List Bool) → take n (join a b) ≡ join (take n a) (take n b)
take-join zero a b = refl
take-join (suc n) [] b = refl
take-join (suc n) (x ∷ a) [] = refl
take-join (suc n) (true ∷ a) (y ∷ b) = rw (take-join n a b)
take-join (suc n) (false ∷ a) (y ∷ b) = rw (take-join n a b)

-- And so is what follows it.
pub drop-join : (n : ℕ) (a b : List Bool) → length b ≡ length a → drop n (join a b) ≡ join (drop n a) (drop n b)
drop-join zero a b e = refl
drop-join (suc n) [] b e = refl
drop-join (suc n) (x ∷ a) [] e = absurd (omega arith)
drop-join (suc n) (true ∷ a) (y ∷ b) e = drop-join n a b (omega arith)
drop-join (suc n) (false ∷ a) (y ∷ b) e = drop-join n a b (omega arith)

-- Bits behind bits, joined to as many behind as many.
pub join-append : (xs xt ys yt : List Bool) → length xs ≡ length ys → join (xs ++ xt) (ys ++ yt) ≡ join xs ys ++ join xt yt
join-append [] xt [] yt e = refl
join-append [] xt (y ∷ ys) yt e = absurd (omega arith)
join-append (x ∷ xs) xt [] yt e = absurd (omega arith)
join-append (true ∷ xs) xt (y ∷ ys) yt e = ap (λ (l : List Bool). true ∷ l) (join-append xs xt ys yt (omega arith))
join-append (false ∷ xs) xt (y ∷ ys) yt e = ap (λ (l : List Bool). y ∷ l) (join-append xs xt ys yt (omega arith))

-- Zeros raise nothing.
pub join-zeros : (a : List Bool) (n : ℕ) → join a (zeros n) ≡ a
join-zeros [] n = refl
join-zeros (x ∷ a) zero = refl
join-zeros (true ∷ a) (suc n) = rw (join-zeros a n)
join-zeros (false ∷ a) (suc n) = rw (join-zeros a n)

-- Bits that spell 0 are zeros.
pub number_zero : (bs : List Bool) → number bs ≡ 0 → bs ≡ zeros (length bs)
number_zero bs e = number_inj bs (zeros (length bs)) (sym (length-replicate (length bs) false)) (e ∙ sym (none (length bs)))
  where
    none : (n : ℕ) → number (zeros n) ≡ 0
    none zero = refl
    none (suc n) = none n

-- The numbers in joined bits are those of the one with those of the other raised in them.
pub numbers-join : (ws : List ℕ) (bs us : List Bool) → length us ≡ length bs → total ws ≤ length bs
    → numbers ws (join bs us) ≡ raised_in ws (numbers ws bs) (numbers ws us)
numbers-join [] bs us e h = refl
numbers-join (w ∷ ws) bs us e h =
    let rest : numbers ws (join (drop w bs) (drop w us)) ≡ raised_in ws (numbers ws (drop w bs)) (numbers ws (drop w us))
    = numbers-join ws (drop w bs) (drop w us) (simp length-drop (omega arith)) (simp length-drop (omega arith)) in
    rw (box_of w bs (omega arith), box_of w us (omega arith), take-join, drop-join, rest)

-- A box in which nothing is raised keeps its number.
pub numbers_spared : (ws : List ℕ) (bs us : List Bool) (s : ℕ) → length us ≡ length bs
    → get_or (numbers ws us) s 0 ≡ 0 → get_or (numbers ws (join bs us)) s 0 ≡ get_or (numbers ws bs) s 0
numbers_spared [] bs us s e z = refl
numbers_spared (w ∷ ws) bs us zero e z = rw (take-join, number_zero (take w us) z, join-zeros)
numbers_spared (w ∷ ws) bs us (suc s) e z = rw drop-join (numbers_spared ws (drop w bs) (drop w us) s (simp length-drop (omega arith)) z)
