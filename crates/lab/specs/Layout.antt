-- What a row of the lab's layouts says: a number, of which each part says one thing of a field.
use Rattle.std.specs.Prelude.{ℕ, ◌/◌, ◌%◌, ◌^◌, List, [], ◌∷◌, replicate, ◌==◌}
use Rattle.rows.specs.Row.{Row, Cond, always, bit, above, pick}
use Rattle.rows.specs.declared.Rule.{Rule}
use Rattle.rows.specs.declared.Rule.TheVariants.{Any, Most, Tariff, NoSecond}

-- The width of each of its boxes.
abbrev pub width_of : ℕ → ℕ
width_of c = c % 256

-- Of a text, how many letters; 0 of any other field.
abbrev pub letters_of : ℕ → ℕ
letters_of c = c / 256 % 256

-- When it is there: 1 by a bit of a bitmap, 2 by a count, else always;
abbrev pub when_of : ℕ → ℕ
when_of c = c / 65536 % 256

-- the slot of that bitmap or count,
abbrev pub slot_of : ℕ → ℕ
slot_of c = c / 2 ^ 24 % 256

-- and the bitmap's element, or the number that the count is above.
abbrev pub element_of : ℕ → ℕ
element_of c = c / 2 ^ 32 % 32

-- Its rule: 1 at most a limit, 2 a tariff's, 3 no second element, 4 at most n, else none;
abbrev pub rule_number : ℕ → ℕ
rule_number c = c / 2 ^ 40 % 16

-- and the limit.
abbrev pub limit_of : ℕ → ℕ
limit_of c = c / 2 ^ 44

-- The boxes: a tariff's, the letters of a text, or one.
unfoldable pub boxes_of : ℕ → List ℕ
boxes_of c =
    pick (rule_number c == 2) (4 ∷ 8 ∷ 4 ∷ [])
    (pick (letters_of c == 0) (width_of c ∷ []) (replicate (letters_of c) (width_of c)))

unfoldable pub cond_of : ℕ → Cond
cond_of c =
    pick (when_of c == 1) (bit (slot_of c) (element_of c))
    (pick (when_of c == 2) (above (slot_of c) (element_of c)) always)

-- The rule, on a card with n contract records.
unfoldable pub rule_of : ℕ → ℕ → Rule
rule_of n c =
    pick (rule_number c == 1) (Most (limit_of c))
    (pick (rule_number c == 2) Tariff
    (pick (rule_number c == 3) NoSecond
    (pick (rule_number c == 4) (Most n) Any)))

abbrev pub row_of : ℕ → ℕ → Row
row_of n c = record { boxes = boxes_of c; cond = cond_of c; rule = rule_of n c }
