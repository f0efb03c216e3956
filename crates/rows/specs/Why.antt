-- The refusals by their numbers. Document 01, "Refusal numbers".
use Rattle.std.specs.Prelude.{ℕ}
use Rattle.rows.specs.declared.Why.{Why}
use Rattle.rows.specs.declared.Why.TheVariants.{WrongLength, PastEnd, Unknown, OutOfRange, LeftOver, ListRule, NoFit, NoneEligible, NoPosition, MustFall, OutsideLimits}

abbrev pub number_of : Why → ℕ
number_of WrongLength = 1
number_of PastEnd = 2
number_of Unknown = 3
number_of OutOfRange = 4
number_of LeftOver = 5
number_of ListRule = 6
number_of NoFit = 7
number_of NoneEligible = 8
number_of NoPosition = 9
number_of MustFall = 10
number_of OutsideLimits = 11
