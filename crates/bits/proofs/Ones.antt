-- Zeros in front of the first one, counted in the bits and in the number.
use Prim.Native.Nat.{ℕ, zero, suc, ◌+◌, ◌*◌, ◌/◌, ◌%◌, ◌^◌, ◌-◌, ◌≤◌, ◌<◌, min}
use mathlib.Core.List.{List, [], ◌∷◌}
use mathlib.Core.Bool.{Bool, true, false}
use mathlib.Core.Path.{◌≡◌, refl, sym, ap, ◌∙◌}
use native.Mathlib.Omega.{arith}
use native.Mathlib.Nat.{add-zero, zero-mul, zero-div, pow-succ'}
use lib.Count.{count_leading_zeros, leading_length, leading_unique}
use lib.Pow.{pow_pos, shl-shr}
use lib.ListN.{length, drop, get_or, length-drop, length-replicate}
use lib.Seq.{drop-drop}
use Rattle.bits.specs.Bits.{number, spread, leading}
use Rattle.bits.proofs.Spelling.{number_on_law, number_append, number_lt}
use Rattle.bits.proofs.Fronts.{front, front_all, length_front, part, number-zeros, shifted_out}
use Rattle.bits.proofs.Cutting.{length-spread, part_spread}

leading-number : (bs : List Bool) → leading bs ≡ count_leading_zeros (length bs) (number bs)
leading-number [] = leading_unique 0 0 0 0 refl (omega arith) (omega arith)
leading-number (true ∷ bs) =
    leading_unique (suc (length bs)) (number (true ∷ bs)) 0 (suc (length bs)) (omega arith) (number_lt (true ∷ bs))
    (rw (number_on_law (0 * 2 + 1) bs, pow-succ' 2 (length bs)) (omega arith))
leading-number (false ∷ bs) =
    let l = leading_length (length bs) (number bs) (number_lt bs) in
    ap suc (leading-number bs)
    ∙ leading_unique (suc (length bs)) (number bs) (suc (count_leading_zeros (length bs) (number bs))) l.0 (omega arith) l.2 l.3

-- The zeros in front of the first one, looked for in the first w bits.
pub leading_front : (w : ℕ) (bs : List Bool) → count_leading_zeros w (number (front w bs)) ≡ leading (front w bs)
leading_front w bs = rw (length_front w bs) at (sym (leading-number (front w bs)))

leading_none : (w : ℕ) → leading (front w []) ≡ w
leading_none zero = refl
leading_none (suc w) = ap suc (leading_none w)

pub leading_here : (w : ℕ) (bs : List Bool) → leading (front w bs) < w → leading bs ≡ leading (front w bs)
leading_here zero bs h = absurd (omega arith)
leading_here (suc w) [] h = absurd (omega (arith, leading_none w))
leading_here (suc w) (true ∷ bs) h = refl
leading_here (suc w) (false ∷ bs) h = ap suc (leading_here w bs (omega arith))

pub leading_past : (w : ℕ) (bs : List Bool) → w ≤ leading (front w bs) → leading bs ≡ min w (length bs) + leading (drop w bs)
leading_past zero bs h = omega arith
leading_past (suc w) [] h = omega arith
leading_past (suc w) (true ∷ bs) h = absurd (omega arith)
leading_past (suc w) (false ∷ bs) h = let l = leading_past w bs (omega arith) in omega arith

-- Fewer bits have as few ones.
pub leading_less : (k w : ℕ) (bs : List Bool) → k ≤ w → w ≤ leading (front w bs) → k ≤ leading (front k bs)
leading_less zero w bs h l = omega arith
leading_less (suc k) zero bs h l = absurd (omega arith)
leading_less (suc k) (suc w) [] h l = omega (arith, leading_none k)
leading_less (suc k) (suc w) (true ∷ bs) h l = absurd (omega arith)
leading_less (suc k) (suc w) (false ∷ bs) h l = omega (arith, leading_less k w bs (omega arith) (omega arith))

-- Bits have a one exactly if their number is not zero.
some_one : (bs : List Bool) → (number bs ≡ 0 → ⊥) → leading bs < length bs
some_one [] h = absurd (h refl)
some_one (true ∷ bs) h = omega arith
some_one (false ∷ bs) h = omega (arith, some_one bs h)

no_one : (bs : List Bool) → number bs ≡ 0 → length bs ≤ leading bs
no_one [] h = omega arith
no_one (true ∷ bs) h = absurd (omega (arith, number_on_law (0 * 2 + 1) bs, pow_pos (length bs)))
no_one (false ∷ bs) h = omega (arith, no_one bs h)

module _ (xs : List ℕ) (fits : (i : ℕ) → get_or xs i 0 < 2 ^ 64) (at : ℕ) where
  ahead : get_or xs (at / 64) 0 * 2 ^ (at % 64) % 2 ^ 64 ≡ part (64 - at % 64) at (spread 64 xs) * 2 ^ (at % 64)
  ahead =
      let all : at % 64 + (64 - at % 64) ≡ 64 = omega arith in
      let here : 64 * (at / 64) + at % 64 ≡ at = omega arith in
      rw (all, here, part_spread 64 xs (at / 64) fits) at (shifted_out (at % 64) (64 - at % 64) (64 * (at / 64)) (spread 64 xs))

  -- A one ahead in the word,
  pub one_ahead : (get_or xs (at / 64) 0 * 2 ^ (at % 64) % 2 ^ 64 ≡ 0 → ⊥)
      → count_leading_zeros 64 (get_or xs (at / 64) 0 * 2 ^ (at % 64) % 2 ^ 64) ≡ leading (drop at (spread 64 xs))
  one_ahead some =
      let o : ℕ = at % 64 in
      let r : ℕ = 64 - at % 64 in
      let bs : List Bool = front r (drop at (spread 64 xs)) in
      let long : length bs ≡ r = length_front r (drop at (spread 64 xs)) in
      let padded : number (front 64 bs) ≡ number bs * 2 ^ o = rw (front_all 64 o bs (omega arith), number_append, number-zeros, length-replicate, add-zero) in
      let there : number bs ≡ 0 → ⊥ = λ z. some (ahead ∙ rw (z, zero-mul)) in
      let inside : leading bs < length bs = some_one bs there in
      let all : leading (front 64 bs) < length (front 64 bs) = some_one (front 64 bs) (λ z. some (ahead ∙ sym padded ∙ z)) in
      rw (ahead, ← padded, leading_front 64 bs)
      (sym (leading_here 64 bs (rw (length_front 64 bs) at all)) ∙ sym (leading_here r (drop at (spread 64 xs)) (omega arith)))

  -- and none: the next word.
  pub none_ahead : get_or xs (at / 64) 0 * 2 ^ (at % 64) % 2 ^ 64 ≡ 0 → at < 64 * length xs
      → at + leading (drop at (spread 64 xs)) ≡ (at / 64 + 1) * 64 + leading (drop ((at / 64 + 1) * 64) (spread 64 xs))
  none_ahead is h =
      let r : ℕ = 64 - at % 64 in
      let bs : List Bool = front r (drop at (spread 64 xs)) in
      let long : length bs ≡ r = length_front r (drop at (spread 64 xs)) in
      let none : number bs ≡ 0 = sym (shl-shr (number bs) (at % 64)) ∙ ap (λ (n : ℕ). n / 2 ^ (at % 64)) (sym ahead ∙ is) ∙ zero-div (2 ^ (at % 64)) in
      let next : at + r ≡ (at / 64 + 1) * 64 = omega arith in
      let past = rw (length-drop, length-spread, drop-drop, next) at (leading_past r (drop at (spread 64 xs)) (omega (arith, no_one bs none))) in
      omega arith
