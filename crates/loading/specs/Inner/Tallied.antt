-- What the code of a place takes from the list's tally.
use Rattle.std.specs.Prelude.{ℕ, zero, suc, ◌≤◌, ◌≡◌, Bool, true, List}
use Rattle.rows.specs.Row.{pick}
use Rattle.lists.specs.Tally.{positions, bit_of}
use Rattle.lists.specs.declared.list.Entry.{Entry}
use Rattle.lists.specs.declared.tally.Positions.{Positions}

-- The positions are a fresh count of some entries, on positions of a kind that has all pointers from a first to a last.
pub record Shows (es : List Entry) (first last : ℕ) (p : Positions) : Type 0 where
  pub kind : ℕ → Bool
  pub fresh : p ≡ positions kind es
  pub covers : (q : ℕ) → first ≤ q → q ≤ last → kind q ≡ true

-- The lowest pointer whose bit is zero, of n from one on; 0 for none.
abbrev pub lowest_zero : ℕ → ℕ → ℕ → ℕ
lowest_zero used zero pointer = 0
lowest_zero used (suc n) pointer = pick (bit_of used pointer) (lowest_zero used n (suc pointer)) pointer
