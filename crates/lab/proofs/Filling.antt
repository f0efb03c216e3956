-- How a field's numbers fill, bit by bit.
use Rattle.std.proofs.Common.{◌≡◌, ℕ, zero, suc, ◌+◌, ◌-◌, ◌*◌, ◌^◌, ◌<◌, ◌≤◌, Bool, true, false, ltb, leb, List, [], ◌∷◌, ◌++◌, length, get_or, drop, set, replicate, refl, append_assoc, mod-eq_of_lt, suc-add, zero-add, arith, length-append, length-drop, drop_of_length-le, take_all, get_or-append-add, pow_mono, ltb-false, ltb-true, leb-true}
use lib.ListN.{length-replicate}
use lib.ListN.{get_or-append, replicate-append-replicate}
use lib.Seq.{take-append-le, drop-append-le, set-append_left}
use Rattle.bits.specs.Bits.{bit, number}
use Rattle.bits.proofs.Spelling.{number_append, number_lt}
use Rattle.rows.specs.Row.{pick}
use Rattle.rows.specs.Walk.{total, numbers}
use Rattle.rows.proofs.Boxes.{length-numbers}
use Rattle.rows.proofs.Margins.{both}
use Rattle.lab.specs.Machine.{box_at, behind}
use Rattle.lab.specs.Inner.Reading.{narrow}

-- A number of fewer than 32 bits, and a bit behind it.
one_more : (bs : List Bool) (b : Bool) → length bs < 32 → number (bs ++ (b ∷ [])) ≡ behind (number bs) b
one_more bs b short =
    let most : length bs ≤ 31 = omega arith in
    let low : number bs < 2 ^ 31 = omega (arith, number_lt bs, pow_mono most) in
    rw (number_append, mod-eq_of_lt low) (last b)
  where
    last : (b : Bool) → number bs * 2 ^ 1 + number (b ∷ []) ≡ number bs * 2 + bit b
    last true = refl
    last false = refl

-- Of a field's numbers so far, one bit more makes those with a bit behind the number of its box.
pub numbers_more : (ws : List ℕ) (bs : List Bool) (b : Bool) → narrow ws ≡ true → length bs < total ws
    → numbers ws (bs ++ (b ∷ [])) ≡ set (numbers ws bs) (box_at ws (length bs)) (behind (get_or (numbers ws bs) (box_at ws (length bs)) 0) b)
numbers_more [] bs b n h = absurd (omega arith)
numbers_more (w ∷ ws) bs b n h = go (ltb (length bs) w) refl (λ l. numbers_more ws (drop w bs) b (both (leb w 32) (narrow ws) n).1 l)
  where
    more : ℕ → List ℕ
    more k = set (numbers (w ∷ ws) bs) k (behind (get_or (numbers (w ∷ ws) bs) k 0) b)

    go : (t : Bool) → ltb (length bs) w ≡ t
        → (length (drop w bs) < total ws → numbers ws (drop w bs ++ (b ∷ [])) ≡ set (numbers ws (drop w bs)) (box_at ws (length (drop w bs))) (behind (get_or (numbers ws (drop w bs)) (box_at ws (length (drop w bs))) 0) b))
        → numbers (w ∷ ws) (bs ++ (b ∷ [])) ≡ more (pick t 0 (suc (box_at ws (length bs - w))))
    go true e later =
        let inside : length bs < w = ltb-true _ _ e in
        let most : w ≤ 32 = leb-true _ _ (both (leb w 32) (narrow ws) n).0 in
        let long : length (bs ++ (b ∷ [])) ≤ w = rw length-append (omega arith) in
        let fits : length bs ≤ w = omega arith in
        let short : length bs < 32 = omega arith in
        rw (take_all w (bs ++ (b ∷ [])) long, take_all w bs, drop_of_length-le (bs ++ (b ∷ [])) long, drop_of_length-le bs fits, one_more bs b)
    go false e later =
        let behind : w ≤ length bs = ltb-false _ _ e in
        let left : length (drop w bs) < total ws = rw length-drop (omega arith) in
        rw (take-append-le w bs (b ∷ []) behind, drop-append-le w bs (b ∷ []) behind, later left, length-drop)

-- That box is one of the field's.
box_inside : (ws : List ℕ) (p : ℕ) → p < total ws → box_at ws p < length ws
box_inside [] p h = absurd (omega arith)
box_inside (w ∷ ws) p h = go (ltb p w) refl (λ l. box_inside ws (p - w) l)
  where
    go : (t : Bool) → ltb p w ≡ t → (p - w < total ws → box_at ws (p - w) < length ws) → pick t 0 (suc (box_at ws (p - w))) < suc (length ws)
    go true e later = omega arith
    go false e later = let past : w ≤ p = ltb-false _ _ e in let less : p - w < total ws = omega arith in let l = later less in omega arith

-- The numbers seen, and zeros behind them in the 111 slots of a state.
abbrev pub padded : List ℕ → List ℕ
padded seen = seen ++ replicate (111 - length seen) 0

-- Zeros in front of zeros.
pub padded_zeros : (seen : List ℕ) (m : ℕ) → length seen + m ≤ 111 → padded (seen ++ replicate m 0) ≡ padded seen
padded_zeros seen m h =
    let left : m + (111 - (length seen + m)) ≡ 111 - length seen = omega arith in
    rw (length-append, length-replicate, append_assoc, replicate-append-replicate, left)

-- A slot that is not seen yet holds 0, as past the end.
pub get_or_padded : (seen : List ℕ) (k slot : ℕ) → get_or (seen ++ replicate k 0) slot 0 ≡ get_or seen slot 0
get_or_padded [] k slot = zeros k slot
  where
    zeros : (k slot : ℕ) → ◌≡◌ {A = ℕ} (get_or (replicate k 0) slot 0) 0
    zeros zero slot = refl
    zeros (suc k) zero = refl
    zeros (suc k) (suc slot) = zeros k slot
get_or_padded (x ∷ seen) k zero = refl
get_or_padded (x ∷ seen) k (suc slot) = get_or_padded seen k slot

-- A slot behind some is set behind them.
set-append_add : (xs ys : List ℕ) (n a : ℕ) → set (xs ++ ys) (length xs + n) a ≡ xs ++ set ys n a
set-append_add [] ys n a = rw zero-add
set-append_add (x ∷ xs) ys n a = rw (suc-add, set-append_add xs ys n a)

module _ (seen ws : List ℕ) (bs : List Bool) (b : Bool) (thin : narrow ws ≡ true) (more : length bs < total ws) where
  -- So a state's numbers fill.
  pub filled_more : let slot : ℕ = length seen + box_at ws (length bs) in
      set (padded (seen ++ numbers ws bs)) slot (behind (get_or (padded (seen ++ numbers ws bs)) slot 0) b)
      ≡ padded (seen ++ numbers ws (bs ++ (b ∷ [])))
  filled_more =
      let inside : k < length (numbers ws bs) = rw length-numbers (box_inside ws (length bs) more) in
      rw (
        parts bs,
        parts (bs ++ (b ∷ [])),
        numbers_more ws bs b thin more,
        get_or-append-add seen (numbers ws bs ++ pad) k 0,
        get_or-append (numbers ws bs) pad 0 k inside,
        set-append_add seen (numbers ws bs ++ pad) k,
        set-append_left (numbers ws bs) pad k,
      )
    where
      k : ℕ
      k = box_at ws (length bs)

      pad : List ℕ
      pad = replicate (111 - (length seen + length ws)) 0

      parts : (bs : List Bool) → padded (seen ++ numbers ws bs) ≡ seen ++ (numbers ws bs ++ pad)
      parts bs = rw (length-append, length-numbers, append_assoc)
