-- Contract as a value: the numbers of the head, the data that follow it (none, those of 42h or those of 50h), and its margin. Document
-- 01, "Contract, common head"; 02, Q-7.
use Rattle.std.specs.Prelude.{ℕ, ◌/◌, ◌^◌, Bool, not, ◌&&◌, ◌||◌, List, [], ◌∷◌, ◌++◌, eqb, length, get_or, Result, Ok, Err}
use Rattle.bits.specs.Bits.{odd}
use Rattle.rows.specs.Row.{Row, pick}
use Rattle.rows.specs.Walk.{and_then, refused, walk, slots_of}
use Rattle.rows.specs.Margin.{words_of, margin_of}
use Rattle.rows.specs.declared.margin.Margin.{Margin}
use Rattle.rows.specs.Table.Contract.{head, contract42, contract50}
use Rattle.records.specs.Answer.{Answer, Written, Told, told_value, told_refusal, refusal, denied, written, read_record, write_record, from}
use Rattle.contract.specs.declared.Data42.{Data42}
use Rattle.contract.specs.declared.Data50.{Data50}
use Rattle.contract.specs.declared.Data.{Data}
use Rattle.contract.specs.declared.Data.TheVariants.{Nothing, Carnet, Urban}
use Rattle.contract.specs.declared.Contract.{Contract}

-- The numbers of the head behind its bitmap.
abbrev pub behind : Contract → List ℕ
behind c =
    c.provider
    ∷ c.tariff
    ∷ c.serial
    ∷ c.class
    ∷ c.validity_bitmap
    ∷ c.start_date
    ∷ c.end_date
    ∷ c.status
    ∷ []

-- The numbers of the head, in the order of its slots.
abbrev pub head_numbers : Contract → List ℕ
head_numbers c = c.bitmap ∷ behind c

-- The numbers of the data of 42h.
abbrev pub numbers42 : Data42 → List ℕ
numbers42 d =
    d.pay_method
    ∷ d.price
    ∷ d.sale_date
    ∷ d.sale_minute
    ∷ d.agent
    ∷ d.device
    ∷ d.receipt
    ∷ d.passengers
    ∷ d.inhibition_end
    ∷ []

-- The numbers of the data of 50h.
abbrev pub numbers50 : Data50 → List ℕ
numbers50 d =
    d.end_date
    ∷ d.grey_list
    ∷ d.chrono
    ∷ d.flag
    ∷ d.bitmap
    ∷ d.agent
    ∷ d.origin
    ∷ d.destination
    ∷ d.via
    ∷ d.token1
    ∷ d.token2
    ∷ d.autoload_start
    ∷ d.autoload_end
    ∷ d.balance
    ∷ d.last_debit
    ∷ d.purse
    ∷ d.debit
    ∷ d.passengers
    ∷ d.period_end
    ∷ d.period_balance
    ∷ d.zone1
    ∷ d.zone2
    ∷ d.zone3
    ∷ d.sections
    ∷ d.sections_left
    ∷ d.stop1
    ∷ d.stop2
    ∷ d.stop3
    ∷ d.stop4
    ∷ d.line1
    ∷ d.line2
    ∷ d.weekly
    ∷ d.start_date
    ∷ d.end_minute
    ∷ d.token
    ∷ d.intermodal
    ∷ []

-- The data of 42h, of their own numbers.
abbrev pub data42_of : List ℕ → Data42
data42_of vals =
    record {
      pay_method = get_or vals 0 0;
      price = get_or vals 1 0;
      sale_date = get_or vals 2 0;
      sale_minute = get_or vals 3 0;
      agent = get_or vals 4 0;
      device = get_or vals 5 0;
      receipt = get_or vals 6 0;
      passengers = get_or vals 7 0;
      inhibition_end = get_or vals 8 0;
    }

-- And the data of 50h, of theirs.
abbrev pub data50_of : List ℕ → Data50
data50_of vals =
    record {
      end_date = get_or vals 0 0;
      grey_list = get_or vals 1 0;
      chrono = get_or vals 2 0;
      flag = get_or vals 3 0;
      bitmap = get_or vals 4 0;
      agent = get_or vals 5 0;
      origin = get_or vals 6 0;
      destination = get_or vals 7 0;
      via = get_or vals 8 0;
      token1 = get_or vals 9 0;
      token2 = get_or vals 10 0;
      autoload_start = get_or vals 11 0;
      autoload_end = get_or vals 12 0;
      balance = get_or vals 13 0;
      last_debit = get_or vals 14 0;
      purse = get_or vals 15 0;
      debit = get_or vals 16 0;
      passengers = get_or vals 17 0;
      period_end = get_or vals 18 0;
      period_balance = get_or vals 19 0;
      zone1 = get_or vals 20 0;
      zone2 = get_or vals 21 0;
      zone3 = get_or vals 22 0;
      sections = get_or vals 23 0;
      sections_left = get_or vals 24 0;
      stop1 = get_or vals 25 0;
      stop2 = get_or vals 26 0;
      stop3 = get_or vals 27 0;
      stop4 = get_or vals 28 0;
      line1 = get_or vals 29 0;
      line2 = get_or vals 30 0;
      weekly = get_or vals 31 0;
      start_date = get_or vals 32 0;
      end_minute = get_or vals 33 0;
      token = get_or vals 34 0;
      intermodal = get_or vals 35 0;
    }

-- A contract of the head's slots, with no data and nothing in its margin.
abbrev pub head_of : List ℕ → Contract
head_of vals =
    record {
      bitmap = get_or vals 0 0;
      provider = get_or vals 1 0;
      tariff = get_or vals 2 0;
      serial = get_or vals 3 0;
      class = get_or vals 4 0;
      validity_bitmap = get_or vals 5 0;
      start_date = get_or vals 6 0;
      end_date = get_or vals 7 0;
      status = get_or vals 8 0;
      «data» = Nothing;
      margin = margin_of [];
    }

-- The head of a contract with these data and this margin.
abbrev pub with_rest : Contract → Data → Margin → Contract
with_rest c d m =
    record {
      bitmap = c.bitmap;
      provider = c.provider;
      tariff = c.tariff;
      serial = c.serial;
      class = c.class;
      validity_bitmap = c.validity_bitmap;
      start_date = c.start_date;
      end_date = c.end_date;
      status = c.status;
      «data» = d;
      margin = m;
    }

-- The type 42h.
abbrev pub is_carnet : ℕ → Bool
is_carnet kind = eqb kind 66

-- The type 50h.
abbrev pub is_urban : ℕ → Bool
is_urban kind = eqb kind 80

-- The table of a type.
abbrev pub table_of : ℕ → List Row
table_of kind = pick (is_carnet kind) contract42 contract50

-- Bit [6] of the head's bitmap says that the data follow.
abbrev pub follow : ℕ → Bool
follow bitmap = odd (bitmap / 2 ^ 6)

-- The data of a type, where they follow: they stand behind the nine slots of the head.
abbrev pub data_of : ℕ → List ℕ → Data
data_of kind vals =
    pick (follow (get_or vals 0 0)) (pick (is_carnet kind) (Carnet (data42_of (from 9 9 vals))) (Urban (data50_of (from 9 36 vals)))) Nothing

-- A contract of the slots of its type's table and the words of its margin.
abbrev pub contract_of : ℕ → List ℕ → List ℕ → Contract
contract_of kind vals margin = with_rest (head_of vals) (data_of kind vals) (margin_of margin)

-- The types that there are.
abbrev pub known : ℕ → Bool
known kind = is_carnet kind || is_urban kind

-- The numbers of the data behind their type: 0 alone for none.
abbrev pub data_told : Data → List ℕ
data_told Nothing = 0 ∷ []
data_told (Carnet d) = 66 ∷ numbers42 d
data_told (Urban d) = 80 ∷ numbers50 d

-- The answer to a reading.
abbrev pub ContractRead : Type 0
ContractRead = Result Contract Answer

-- The cases of the answer to a reading, each by its number, its place, its field and its values.
abbrev pub contract_told : ContractRead → Told
contract_told (Ok c) = told_value (head_numbers c ++ (data_told c.«data» ++ words_of c.margin))
contract_told (Err r) = told_refusal 14 r

-- Refusal 1 for the length comes first, then 3 for the type.
abbrev pub checked : {A : Type 0} → ℕ → List ℕ → A → (ℕ → A) → A
checked kind bytes go stop = pick (eqb (length bytes) 29) (pick (known kind) go (stop 3)) (stop 1)

-- Reading a contract under a type.
abbrev pub contract_read : ℕ → List ℕ → ContractRead
contract_read kind bytes =
    checked kind bytes (read_record (λ vals margin. Ok (contract_of kind vals margin)) Err (table_of kind) bytes) (λ n. Err (refusal n 0))

-- Data agree with bit [6] and the type: none where it is zero, those of the type where it is one.
abbrev pub suit : ℕ → Bool → Data → Bool
suit kind there Nothing = not there
suit kind there (Carnet d) = there && is_carnet kind
suit kind there (Urban d) = there && is_urban kind

-- Whether the data of a contract agree.
abbrev pub agrees : ℕ → Contract → Bool
agrees kind c = suit kind (follow c.bitmap) c.«data»

-- The data to write under 42h: zeros where there are none.
abbrev pub carnet : Data → Data42
carnet Nothing = data42_of []
carnet (Carnet d) = d
carnet (Urban d) = data42_of []

-- And under 50h.
abbrev pub urban : Data → Data50
urban Nothing = data50_of []
urban (Carnet d) = data50_of []
urban (Urban d) = d

-- The numbers to write under a type: the head's, then those of the data.
abbrev pub numbers_of : ℕ → Contract → List ℕ
numbers_of kind c = head_numbers c ++ pick (is_carnet kind) (numbers42 (carnet c.«data»)) (numbers50 (urban c.«data»))

-- Data that do not agree: 7 at the first bit after the head, as a whole under the rank of their first field, if the head has no
-- fault. Document 02, Q-2.
abbrev pub disagreement : Contract → List ℕ → Written
disagreement c before = written before (and_then (walk 232 (slots_of (head_numbers c)) head 0 [] 0) (λ vals end. refused 7 end 9))

-- Writing a contract under a type.
abbrev pub contract_written : ℕ → Contract → List ℕ → Written
contract_written kind c before =
    checked kind before
    (pick (agrees kind c) (write_record (table_of kind) (numbers_of kind c) (words_of c.margin) before) (disagreement c before))
    (λ n. denied (refusal n 0) before)
