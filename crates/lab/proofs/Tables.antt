-- The tables fit the second reader's state.
use Rattle.std.proofs.Common.{◌≡◌, ℕ, ◌≤◌, Bool, true, false, List, get_or, refl, arith}
use Rattle.rows.specs.Row.{pick}
use Rattle.rows.specs.Margin.{margin_of}
use Rattle.rows.specs.Walk.{slots}
use Rattle.rows.specs.Table.Environment.{environment}
use Rattle.rows.specs.Table.Event.{event}
use Rattle.rows.specs.Table.Holder.{holder}
use Rattle.rows.specs.Table.Contract.{head, data42, data50, contract42, contract50}
use Rattle.rows.specs.Table.BestContracts.{contract_list}
use Rattle.rows.specs.Table.Special.{special_list}
use Rattle.records.specs.Answer.{from}
use Rattle.contract.specs.Contract.{data42_of, data50_of, head_of, with_rest, is_carnet, table_of, follow, contract_of}
use Rattle.contract.specs.declared.Contract.{Contract}
use Rattle.contract.specs.declared.Data.TheVariants.{Nothing, Carnet, Urban}
use Rattle.lab.specs.Inner.Reading.{Fits}

pub environment_fits : Fits environment 29 10
unfolding environment
environment_fits = record { room = omega arith; low = omega arith; count = omega arith; few = omega arith; fits = refl }

pub event_fits : Fits event 29 36
unfolding event
event_fits = record { room = omega arith; low = omega arith; count = omega arith; few = omega arith; fits = refl }

pub holder_fits : (bytes : ℕ) → bytes ≤ 116 → Fits holder bytes 111
unfolding holder
holder_fits bytes area = record { room = area; low = omega arith; count = omega arith; few = omega arith; fits = refl }

pub carnet_fits : Fits contract42 29 45
unfolding contract42 head data42
carnet_fits = record { room = omega arith; low = omega arith; count = omega arith; few = omega arith; fits = refl }

pub urban_fits : Fits contract50 29 45
unfolding contract50 head data50
urban_fits = record { room = omega arith; low = omega arith; count = omega arith; few = omega arith; fits = refl }

pub list_fits : (n : ℕ) → Fits (contract_list n) 29 49
unfolding contract_list
list_fits n = record { room = omega arith; low = omega arith; count = omega arith; few = omega arith; fits = refl }

pub special_fits : Fits special_list 29 21
unfolding special_list
special_fits = record { room = omega arith; low = omega arith; count = omega arith; few = omega arith; fits = refl }

pub environment_slots : slots environment ≡ 10
unfolding environment
environment_slots = refl

pub event_slots : slots event ≡ 36
unfolding event
event_slots = refl

pub holder_slots : slots holder ≡ 111
unfolding holder
holder_slots = refl

pub carnet_slots : slots contract42 ≡ 18
unfolding contract42 head data42
carnet_slots = refl

pub urban_slots : slots contract50 ≡ 45
unfolding contract50 head data50
urban_slots = refl

pub list_slots : (n : ℕ) → slots (contract_list n) ≡ 49
unfolding contract_list
list_slots n = refl

pub special_slots : slots special_list ≡ 21
unfolding special_list
special_slots = refl

-- A contract's table has 18 slots or 45, and its value is made of those alone.
pub contract_slots : (kind : ℕ) → slots (table_of kind) ≡ pick (is_carnet kind) 18 45
unfolding contract42 contract50 head data42 data50
contract_slots kind = go (is_carnet kind)
  where
    go : (b : Bool) → slots (pick b contract42 contract50) ≡ pick b 18 45
    go true = refl
    go false = refl

pub contract_own : (kind : ℕ) (numbers margin : List ℕ) → contract_of kind (from 0 (pick (is_carnet kind) 18 45) numbers) margin ≡ contract_of kind numbers margin
contract_own kind numbers margin = go (is_carnet kind)
  where
    made : Bool → List ℕ → Contract
    made b vals =
        with_rest (head_of vals) (pick (follow (get_or vals 0 0)) (pick b (Carnet (data42_of (from 9 9 vals))) (Urban (data50_of (from 9 36 vals)))) Nothing)
        (margin_of margin)

    go : (b : Bool) → made b (from 0 (pick b 18 45) numbers) ≡ made b numbers
    go true = refl
    go false = refl
