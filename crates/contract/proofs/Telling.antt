-- What the answer to a reading tells is the whole of it: answers that tell the same are equal.
use Prim.Native.Nat.{ℕ, ◌+◌}
use mathlib.Core.List.{List}
use mathlib.Core.Path.{◌≡◌, refl}
use lib.ListN.{get_or, drop}
use Rattle.rows.specs.Row.{pick}
use Rattle.rows.specs.Margin.{margin_of}
use Rattle.records.specs.Answer.{Told, refusal_at}
use Rattle.records.proofs.Telling.{told_one}
use Rattle.contract.specs.Contract.{head_of, with_rest, data42_of, data50_of, is_carnet, is_urban, contract_told}
use Rattle.contract.specs.declared.Data.{Data}
use Rattle.contract.specs.declared.Data.TheVariants.{Nothing, Carnet, Urban}
use Rattle.contract.specs.Contract.{ContractRead}
use Rattle.std.specs.Prelude.{Ok, Err}

-- The data of a type and of their numbers.
abbrev data_back : ℕ → List ℕ → Data
data_back kind vals = pick (is_carnet kind) (Carnet (data42_of vals)) (pick (is_urban kind) (Urban (data50_of vals)) Nothing)

-- How many numbers the data have behind their type.
abbrev many : ℕ → ℕ
many kind = pick (is_carnet kind) 9 (pick (is_urban kind) 36 0)

-- The type stands behind the head, and the margin behind the data.
abbrev contract_back : Told → ContractRead
contract_back t =
    let kind : ℕ = get_or t.values 9 0 in
    pick t.holds
    (Ok
    (with_rest (head_of t.values) (data_back kind (drop 10 t.values)) (margin_of (drop (10 + many kind) t.values))))
    (Err (refusal_at t.number t.place t.field))

contract_returned : (r : ContractRead) → contract_back (contract_told r) ≡ r
contract_returned (Ok c) = go c.«data»
  where
    go : (d : Data) → contract_back (contract_told (Ok (with_rest c d c.margin))) ≡ Ok (with_rest c d c.margin)
    go Nothing = refl
    go (Carnet d) = refl
    go (Urban d) = refl
contract_returned (Err r) = refl

pub contract_one : (r s : ContractRead) → contract_told r ≡ contract_told s → r ≡ s
contract_one = told_one contract_told contract_back contract_returned
