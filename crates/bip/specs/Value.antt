-- The BIP contract as a value, and the numbers that stand for it in the fields. Document 02, Q-4; source document 000, sections 3.4 and
-- 3.10.
use Rattle.std.specs.Prelude.{ℕ, ◌+◌, ◌-◌, ◌*◌, ◌/◌, ◌^◌, List, [], ◌∷◌, eqb, ltb, get_or, replicate, Result, Ok, Err}
use Rattle.bits.specs.Bits.{bit, odd}
use Rattle.rows.specs.Row.{pick}
use Rattle.records.specs.Answer.{Answer, Written, Told, told_value, told_refusal, read_record, write_record}
use Rattle.bip.specs.Table.{bip}
use Rattle.bip.specs.declared.Weekdays.{Weekdays}
use Rattle.bip.specs.declared.Extension.{Extension}
use Rattle.bip.specs.declared.Extension.TheVariants.{Nothing, Tag}
use Rattle.bip.specs.declared.BipContract.{BipContract}

-- One's complement over three bytes: what stands in the record for a date, minutes since 1/1/2005, and the date for which it stands there. A
-- date too wide stays too wide.
abbrev pub complement : ℕ → ℕ
complement n = pick (ltb n (2 ^ 24)) (2 ^ 24 - 1 - n) n

-- The weekday byte is eight yes/no values, Monday the lowest bit, holidays the highest.
abbrev pub days_of : ℕ → Weekdays
days_of n =
    record {
      monday = odd n;
      tuesday = odd (n / 2);
      wednesday = odd (n / 4);
      thursday = odd (n / 8);
      friday = odd (n / 16);
      saturday = odd (n / 32);
      sunday = odd (n / 64);
      holidays = odd (n / 128);
    }

abbrev pub byte_of : Weekdays → ℕ
byte_of d =
    bit d.monday
    + 2 * bit d.tuesday
    + 4 * bit d.wednesday
    + 8 * bit d.thursday
    + 16 * bit d.friday
    + 32 * bit d.saturday
    + 64 * bit d.sunday
    + 128 * bit d.holidays

-- A tag of A000h means no further record; any other is carried as its number.
abbrev pub extension_of : ℕ → Extension
extension_of n = pick (eqb n 0xA000) Nothing (Tag n)

-- A000h given as another tag has no number of two bytes: as 2 ^ 16 it is too wide, so that it is refused as any number too wide is.
abbrev pub tag_of : Extension → ℕ
tag_of Nothing = 0xA000
tag_of (Tag n) = pick (eqb n 0xA000) (2 ^ 16) n

-- The numbers that stand in the fields, in the order of the table's slots.
abbrev pub numbers_of : BipContract → List ℕ
numbers_of b =
    b.company
    ∷ b.format
    ∷ b.rfu
    ∷ b.extra_tariff
    ∷ b.tariff
    ∷ b.serial
    ∷ complement b.start
    ∷ complement b.end
    ∷ byte_of b.days
    ∷ b.sam_serial
    ∷ b.sam_counter
    ∷ tag_of b.extension
    ∷ b.mac
    ∷ []

abbrev pub bip_of : List ℕ → BipContract
bip_of vals =
    record {
      company = get_or vals 0 0;
      format = get_or vals 1 0;
      rfu = get_or vals 2 0;
      extra_tariff = get_or vals 3 0;
      tariff = get_or vals 4 0;
      serial = get_or vals 5 0;
      start = complement (get_or vals 6 0);
      end = complement (get_or vals 7 0);
      days = days_of (get_or vals 8 0);
      sam_serial = get_or vals 9 0;
      sam_counter = get_or vals 10 0;
      extension = extension_of (get_or vals 11 0);
      mac = get_or vals 12 0;
    }

-- What a value tells: an extension by 1 and its tag, none by two zeros.
abbrev pub tagged : Extension → ℕ
tagged Nothing = 0
tagged (Tag n) = 1

abbrev pub carried : Extension → ℕ
carried Nothing = 0
carried (Tag n) = n

abbrev pub values_of : BipContract → List ℕ
values_of b =
    b.company
    ∷ b.format
    ∷ b.rfu
    ∷ b.extra_tariff
    ∷ b.tariff
    ∷ b.serial
    ∷ b.start
    ∷ b.end
    ∷ bit b.days.monday
    ∷ bit b.days.tuesday
    ∷ bit b.days.wednesday
    ∷ bit b.days.thursday
    ∷ bit b.days.friday
    ∷ bit b.days.saturday
    ∷ bit b.days.sunday
    ∷ bit b.days.holidays
    ∷ b.sam_serial
    ∷ b.sam_counter
    ∷ tagged b.extension
    ∷ carried b.extension
    ∷ b.mac
    ∷ []

-- The answer to a reading.
abbrev pub BipRead : Type 0
BipRead = Result BipContract Answer

-- The cases of the answer, each by its number, its place, its field and its values.
abbrev pub bip_told : BipRead → Told
bip_told (Ok b) = told_value (values_of b)
bip_told (Err r) = told_refusal 21 r

-- The fields fill the record: there is no margin to read, and none to write.
abbrev pub bip_read : List ℕ → BipRead
bip_read bytes = read_record (λ vals margin. Ok (bip_of vals)) Err bip bytes

abbrev pub bip_written : List ℕ → BipContract → Written
bip_written before b = write_record bip (numbers_of b) (replicate 4 0) before
