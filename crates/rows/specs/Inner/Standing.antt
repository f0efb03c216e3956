-- Where a walk in code stands, in document 01's terms.
use Rattle.std.specs.Prelude.{ℕ, Option, None, Some}
use Rattle.rows.specs.Why.{number_of}
use Rattle.rows.specs.declared.Why.{Why}
use Rattle.rows.specs.declared.Cursor.{Cursor}

-- The bit reached, the number of the refusal, 0 for none, how many fields the walk has come to, and the number read last.
pub record Standing : Type 0 where
  pub at : ℕ
  pub why : ℕ
  pub field : ℕ
  pub number : ℕ

abbrev pub why_of : Option Why → ℕ
why_of None = 0
why_of (Some w) = number_of w

abbrev pub stand : Cursor → Standing
stand c = record { at = c.at; why = why_of c.why; field = c.field; number = c.number }
