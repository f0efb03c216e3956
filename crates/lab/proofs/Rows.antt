-- The rows of a layout from a place on, how many boxes and bits a row has at most, and which box a bit is in.
use Rattle.std.proofs.Common.{◌≡◌, ℕ, zero, suc, ◌+◌, ◌-◌, ◌*◌, ◌/◌, ◌<◌, ◌≤◌, Bool, true, false, eqb, ltb, List, [], ◌∷◌, map, length, get_or, drop, replicate, sym, refl, mul-le-mul, add-one, arith, drop_of_length-le, drop-cons, ltb-false, ltb-true}
use native.Mathlib.Nat.{div-eq_of_lt, div-eq-sub-div}
use lib.ListN.{length-map, length-replicate, get_or-map}
use Rattle.rows.specs.Row.{Row, pick}
use Rattle.rows.specs.Walk.{total}
use Rattle.rows.proofs.Stepping.{total_same}
use Rattle.lab.specs.Layout.{width_of, letters_of, rule_number, boxes_of}
use Rattle.lab.specs.Machine.{box_at}

-- The rows from one on, and behind the last.
module _ (f : ℕ → Row) (cs : List ℕ) (k : ℕ) where
  pub rows_from : k < length cs → drop k (map f cs) ≡ f (get_or cs k 0) ∷ drop (k + 1) (map f cs)
  rows_from h =
      let inside : k < length (map f cs) = rw length-map h in
      rw (add-one, drop-cons (map f cs) k (f 0), get_or-map f cs k 0)

  pub rows_over : length cs ≤ k → drop k (map f cs) ≡ []
  rows_over h = let past : length (map f cs) ≤ k = rw length-map h in drop_of_length-le (map f cs) past

-- What holds of a tariff's boxes, of one box and of a text's holds of every row's.
boxes_any : (P : List ℕ → Type 0) (c : ℕ)
    → P (4 ∷ 8 ∷ 4 ∷ [])
    → P (width_of c ∷ [])
    → P (replicate (letters_of c) (width_of c))
    → P (boxes_of c)
unfolding boxes_of
boxes_any P c tariff one text = go (eqb (rule_number c) 2) (eqb (letters_of c) 0)
  where
    go : (a b : Bool) → P (pick a (4 ∷ 8 ∷ 4 ∷ []) (pick b (width_of c ∷ []) (replicate (letters_of c) (width_of c))))
    go true b = tariff
    go false true = one
    go false false = text

-- There are at most 255 boxes, of at most 255 bits.
pub few_boxes : (c : ℕ) → length (boxes_of c) ≤ 255
few_boxes c = boxes_any (λ (ws : List ℕ). length ws ≤ 255) c (omega arith) (omega arith) (rw length-replicate (omega arith))

pub few_bits : (c : ℕ) → total (boxes_of c) ≤ 255 * 255
few_bits c =
    let letters : letters_of c ≤ 255 = omega arith in
    let width : width_of c ≤ 255 = omega arith in
    boxes_any (λ (ws : List ℕ). total ws ≤ 255 * 255) c (omega arith) (omega arith) (rw total_same (mul-le-mul letters width))

-- A bit's box is one of the boxes, or behind them.
pub box_within : (ws : List ℕ) (p : ℕ) → box_at ws p ≤ length ws
box_within [] p = omega arith
box_within (w ∷ ws) p = go (ltb p w) (box_within ws (p - w))
  where
    go : (b : Bool) → box_at ws (p - w) ≤ length ws → pick b 0 (suc (box_at ws (p - w))) ≤ suc (length ws)
    go true rest = omega arith
    go false rest = omega arith

-- Boxes of one width that hold a bit have some width.
pub some_width : (k w p : ℕ) → p < k * w → 0 < w
some_width k zero p h = absurd (omega arith)
some_width k (suc w) p h = omega arith

-- Among them the bit's box is a quotient.
pub box_even : (k w p : ℕ) → p < k * w → box_at (replicate k w) p ≡ p / w
box_even zero w p h = absurd (omega arith)
box_even (suc k) w p h = go (ltb p w) refl (box_even k w (p - w))
  where
    go : (b : Bool) → ltb p w ≡ b → (p - w < k * w → box_at (replicate k w) (p - w) ≡ (p - w) / w)
        → pick b 0 (suc (box_at (replicate k w) (p - w))) ≡ p / w
    go true e rest = sym (div-eq_of_lt (ltb-true _ _ e))
    go false e rest =
        let far : w ≤ p = ltb-false _ _ e in
        let less : p - w < k * w = omega arith in
        rw (div-eq-sub-div (some_width (suc k) w p h) far, rest less) (omega arith)
