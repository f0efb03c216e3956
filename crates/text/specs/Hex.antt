-- Bytes as text: pairs of digits 0-9 A-F, the high digit first.
use Rattle.std.specs.Prelude.{ℕ, zero, suc, ◌+◌, ◌*◌, ◌-◌, List, [], ◌∷◌, Bool, true, false, ◌&&◌, eqb, leb, ltb, length, get_or, drop}

abbrev pub choose : {A : Type 0} → Bool → A → A → A
choose true a b = a
choose false a b = b

-- What a digit is worth, 16 for what is none. 48 is '0', 65 is 'A'.
abbrev pub worth : ℕ → ℕ
worth b = choose (leb 48 b && leb b 57) (b - 48) (choose (leb 65 b && leb b 70) (b - 55) 16)

abbrev pub all_digits : List ℕ → Bool
all_digits [] = true
all_digits (b ∷ bs) = choose (ltb (worth b) 16) (all_digits bs) false

-- The first n bytes that a text spells.
abbrev pub spelt : ℕ → List ℕ → List ℕ
spelt zero text = []
spelt (suc n) text = (worth (get_or text 0 0) * 16 + worth (get_or text 1 0)) ∷ spelt n (drop 2 text)

-- Whether a text spells n bytes.
abbrev pub spells : ℕ → List ℕ → Bool
spells n text = eqb (length text) (2 * n) && all_digits text
