-- Which numbers the reading and the writing of a table can refuse with, and which of them name a field. Document 01, "Refusal
-- numbers"; 02, Q-2.
use Rattle.std.specs.Prelude.{ℕ, ◌+◌, Bool, ◌||◌, List, [], ◌∷◌, ◌++◌, ◌==◌, nat_lt}
use Rattle.rows.specs.Row.{Row, pick, among}
use Rattle.rows.specs.Walk.{total}
use Rattle.rows.specs.declared.Rule.{Rule}
use Rattle.rows.specs.declared.Rule.TheVariants.{Any, Most, Tariff, NoSecond}

-- The bits of a table with every field present.
abbrev pub widest : List Row → ℕ
widest [] = 0
widest (r ∷ rs) = total r.boxes + widest rs

-- What a rule refuses with.
abbrev pub ruled_by : Rule → List ℕ
ruled_by Any = []
ruled_by (Most m) = 4 ∷ []
ruled_by Tariff = 4 ∷ []
ruled_by NoSecond = 3 ∷ []

-- What the rules of a table refuse with.
abbrev pub ruled : List Row → List ℕ
ruled [] = []
ruled (r ∷ rs) = ruled_by r.rule ++ ruled rs

-- Reading and writing: 2 only where the table can be wider than the room, and its rules.
abbrev pub walk_numbers : ℕ → List Row → List ℕ
walk_numbers room rows = pick (nat_lt room (widest rows)) (2 ∷ ruled rows) (ruled rows)

-- In reading a list also 5, past the last field,
abbrev pub bare_numbers : ℕ → List Row → List ℕ
bare_numbers room rows = 5 ∷ walk_numbers room rows

-- and in writing 7, a number too wide or a bit of the margin out of place.
abbrev pub write_numbers : ℕ → List Row → List ℕ
write_numbers room rows = 7 ∷ walk_numbers room rows

-- The numbers of a field's own refusals. Only with these is a field named; with every other the rank is 0.
abbrev pub of_fields : List ℕ
of_fields = 2 ∷ 3 ∷ 4 ∷ 7 ∷ []

abbrev pub may_name : ℕ → ℕ → Bool
may_name n i = among n of_fields || i == 0
