-- Digits of a text one by one, and bytes two digits each.
use Prim.Native.Nat.{ℕ, zero, suc, ◌+◌, ◌*◌, ◌-◌, ◌≤◌, ◌<◌}
use mathlib.Core.List.{List, [], ◌∷◌, ◌++◌, append_assoc}
use mathlib.Core.Bool.{Bool, true, false, ◌&&◌, true≢false}
use mathlib.Core.Path.{◌≡◌, refl, sym, ◌∙◌}
use native.Mathlib.Omega.{arith}
use native.Mathlib.Numerals.{add-one}
use native.Mathlib.Nat.{add-zero}
use lib.Dec.{ltb}
use Rattle.std.specs.List.{list_all}
use lib.ListN.{length, get_or, take, drop, set}
use lib.Seq.{drop-drop, get_or-drop, take-suc-set}
use borrow.Author.Tests.{ltb-true}
use Rattle.text.specs.Hex.{choose, worth, all_digits, spelt}

-- The same as a test of each.
pub each_digit : (text : List ℕ) → list_all (λ b. ltb (worth b) 16) text ≡ all_digits text
each_digit [] = refl
each_digit (b ∷ bs) = rw (each_digit bs) (go (ltb (worth b) 16))
  where
    go : (t : Bool) → t && all_digits bs ≡ choose t (all_digits bs) false
    go true = refl
    go false = refl

-- Each of all digits is one.
pub digit_at : (text : List ℕ) (i : ℕ) → all_digits text ≡ true → i < length text → worth (get_or text i 0) ≤ 15
digit_at [] i all h = absurd (omega arith)
digit_at (b ∷ bs) i all h = go (ltb (worth b) 16) refl all i h (λ j rest. digit_at bs j rest)
  where
    go : (t : Bool) → ltb (worth b) 16 ≡ t → choose t (all_digits bs) false ≡ true → (i : ℕ) → i < length (b ∷ bs)
        → ((j : ℕ) → all_digits bs ≡ true → j < length bs → worth (get_or bs j 0) ≤ 15)
        → worth (get_or (b ∷ bs) i 0) ≤ 15
    go true e all zero h rest = let one : worth b < 16 = ltb-true (worth b) 16 e in omega arith
    go true e all (suc i) h rest = rest i all (omega arith)
    go false e all i h rest = absurd (true≢false (sym all))

-- One more byte.
pub spelt_more : (text out : List ℕ) (n i high low : ℕ) → i < n → length out ≡ n
    → high ≡ worth (get_or text (2 * i) 0)
    → low ≡ worth (get_or text (2 * i + 1) 0)
    → spelt n text ≡ take i out ++ spelt (n - i) (drop (2 * i) text)
    → spelt n text ≡ take (i + 1) (set out i (high * 16 + low)) ++ spelt (n - (i + 1)) (drop (2 * (i + 1)) text)
spelt_more text out n i high low h long first second so =
    let left : n - i ≡ suc (n - (i + 1)) = omega arith in
    let inside : i < length out = omega arith in
    let next : 2 * (i + 1) ≡ 2 * i + 2 = omega arith in
    let one : get_or (drop (2 * i) text) 0 0 ≡ get_or text (2 * i) 0 = get_or-drop (2 * i) text 0 0 ∙ rw add-zero in
    let two : get_or (drop (2 * i) text) 1 0 ≡ get_or text (2 * i + 1) 0 = get_or-drop (2 * i) text 1 0 in
    (rw (left, one, two) at so)
    ∙ rw (add-one i, take-suc-set out i (high * 16 + low) inside, append_assoc, first, second, ← add-one i, next, ← (drop-drop 2 (2 * i) text))
