-- Environment as a value: named numbers, in the order of the table's slots, and its margin.
use Rattle.std.specs.Prelude.{ℕ, List, [], ◌∷◌, ◌++◌, get_or, Result, Ok, Err}
use Rattle.rows.specs.Margin.{words_of, margin_of}
use Rattle.rows.specs.Table.Environment.{environment}
use Rattle.records.specs.Answer.{Answer, Written, Told, told_value, told_refusal, read_record, write_record}
use Rattle.records.specs.declared.environment.Environment.{Environment}

abbrev pub numbers_of : Environment → List ℕ
numbers_of e =
    e.version
    ∷ e.bitmap
    ∷ e.network
    ∷ e.issuer
    ∷ e.end_date
    ∷ e.pay_method
    ∷ e.authenticator
    ∷ e.select_list
    ∷ e.data_bitmap
    ∷ e.card_status
    ∷ []

abbrev pub environment_of : List ℕ → List ℕ → Environment
environment_of vals margin =
    record {
      version = get_or vals 0 0;
      bitmap = get_or vals 1 0;
      network = get_or vals 2 0;
      issuer = get_or vals 3 0;
      end_date = get_or vals 4 0;
      pay_method = get_or vals 5 0;
      authenticator = get_or vals 6 0;
      select_list = get_or vals 7 0;
      data_bitmap = get_or vals 8 0;
      card_status = get_or vals 9 0;
      margin = margin_of margin;
    }

-- The answer to a reading.
abbrev pub EnvironmentRead : Type 0
EnvironmentRead = Result Environment Answer

-- The cases of the answer, each by its number, its place, its field and its values.
abbrev pub environment_told : EnvironmentRead → Told
environment_told (Ok e) = told_value (numbers_of e ++ words_of e.margin)
environment_told (Err r) = told_refusal 14 r

abbrev pub environment_read : List ℕ → EnvironmentRead
environment_read bytes = read_record (λ vals margin. Ok (environment_of vals margin)) Err environment bytes

abbrev pub environment_written : List ℕ → Environment → Written
environment_written before e = write_record environment (numbers_of e) (words_of e.margin) before
