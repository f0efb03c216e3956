-- The margin of a record as a value: words of 64 bits.
use Rattle.std.specs.Prelude.{ℕ, List, [], ◌∷◌, slice_index}
use Rattle.rows.specs.declared.margin.Margin.{Margin}

abbrev pub words_of : Margin → List ℕ
words_of m = m.at0 ∷ m.at64 ∷ m.at128 ∷ m.at192 ∷ []

abbrev pub margin_of : List ℕ → Margin
margin_of ws = record { at0 = slice_index ws 0; at64 = slice_index ws 1; at128 = slice_index ws 2; at192 = slice_index ws 3 }
