-- What the steps of a contract's reader and writer give.
use Rattle.std.specs.Prelude.{ℕ, true, false, List, [], ◌++◌, ◌≡◌, ◌≢◌, eqb}
use Rattle.rows.specs.Row.{pick}
use Rattle.rows.specs.Inner.Step.{Drafted}
use Rattle.rows.specs.Inner.Line.{start, Taken, Puts}
use Rattle.rows.specs.Inner.Standing.{Standing}
use Rattle.rows.specs.Margin.{margin_of}
use Rattle.rows.specs.Table.Contract.{head}
use Rattle.contract.specs.Contract.{table_of, head_numbers, numbers_of, with_rest, contract_of, agrees}
use Rattle.contract.specs.declared.Contract.{Contract}
use Rattle.contract.specs.declared.Data.{Data}

-- The takes of a type's whole table: the head's numbers and those behind it, of which the data are made. Where no data follow, the
-- rows behind the head are absent, and code does not come to them: it stands at the same bit with the same refusal.
pub record TakeOf (words : List ℕ) (kind : ℕ) (h : Contract) (d : Data) (last : Standing) : Type 0 where
  pub behind : List ℕ
  pub end : Standing
  pub taken : Taken words 232 (table_of kind) [] start (head_numbers h ++ behind) end
  pub here : end.at ≡ last.at
  pub clear : last.why ≡ 0 → end.why ≡ 0
  pub same : last.why ≢ 0 → end ≡ last
  pub made : (margin : List ℕ) → contract_of kind (head_numbers h ++ behind) margin ≡ with_rest h d (margin_of margin)

-- A cursor behind the head, where the data do not agree.
abbrev pub disagreed : Standing → Standing
disagreed e = pick (eqb e.why 0) (record { at = e.at; why = 7; field = 10; number = 0 }) e

-- The puts of the head alone, for data that do not agree.
pub record PutHead (c : Contract) (xs : List ℕ) (d : Standing) : Type 0 where
  pub draft : List ℕ
  pub last : Standing
  pub puts : Puts 232 (head_numbers c) head [] xs start (head_numbers c) draft last
  pub stops : d ≡ disagreed last

-- The puts of a contract under a type.
pub record PutOf (kind : ℕ) (c : Contract) (xs ys : List ℕ) (d : Standing) : Type 0 where
  pub ready : Drafted ys 232 d
  pub agreed : agrees kind c ≡ true → Puts 232 (numbers_of kind c) (table_of kind) [] xs start (numbers_of kind c) ys d
  pub opposed : agrees kind c ≡ false → PutHead c xs d
