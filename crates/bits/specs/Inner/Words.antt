-- A number in the words that code reads it from.
use Rattle.std.specs.Prelude.{ℕ, ◌/◌, ◌%◌, ◌^◌, ◌-◌, List, get_or}

-- The number in the w bits from bit at on, taken from words of 64 bits that begin 32 bits apart.
abbrev pub number_at : List ℕ → ℕ → ℕ → ℕ
number_at words at w = get_or words (at / 32) 0 / 2 ^ (64 - at % 32 - w) % 2 ^ w
