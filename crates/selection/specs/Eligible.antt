-- Which entries of the contract list a gate may use, and which of these it uses. Document 01, "Which contract the gate uses".
use Rattle.std.specs.Prelude.{ℕ, suc, Bool, true, false, ◌&&◌, ◌||◌, List, [], ◌∷◌, eqb, ltb, leb}
use Rattle.bits.specs.Bits.{odd}
use Rattle.rows.specs.Row.{pick}
use Rattle.records.specs.Answer.{Answer, refusal}
use Rattle.records.specs.Order.{record_at}
use Rattle.lists.specs.declared.list.Entry.{Entry}
use Rattle.contract.specs.Contract.{contract_read}
use Rattle.contract.specs.declared.Contract.{Contract}
use Rattle.contract.specs.declared.Data.{Data}
use Rattle.contract.specs.declared.Data.TheVariants.{Nothing, Carnet, Urban}
use Rattle.contract.specs.Contract.{ContractRead}
use Rattle.std.specs.Prelude.{Ok, Err}

-- Priorities 0 to 11 are usable.
abbrev pub usable : Entry → Bool
usable e = leb e.priority 11

-- The contract's provider is there, and is the gate's operator.
abbrev pub provides : ℕ → Contract → Bool
provides operator c = odd c.bitmap && eqb c.provider operator

-- Key 0 opens to all; 1 to 14 to the operator of that number; 15 to an operator of 15 or more that is the contract's provider.
abbrev pub opens : ℕ → ℕ → Contract → Bool
opens operator key c =
    pick (eqb key 0) true (pick (leb key 14) (eqb key operator) (eqb key 15 && leb 15 operator && provides operator c))

-- A start or an end that is absent or zero limits nothing.
abbrev pub not_before : ℕ → ℕ → Bool
not_before day start = eqb start 0 || leb start day

abbrev pub not_after : ℕ → ℕ → Bool
not_after day end = eqb end 0 || leb day end

-- With 50h also its own end date and group [12], the start date.
abbrev pub data_in_force : ℕ → Data → Bool
data_in_force day Nothing = true
data_in_force day (Carnet d) = true
data_in_force day (Urban d) = not_before day d.start_date && not_after day d.end_date

abbrev pub in_force : ℕ → Contract → Bool
in_force day c = not_before day c.start_date && not_after day c.end_date && data_in_force day c.«data»

-- A record that does not read makes its entry ineligible.
abbrev pub serves : ℕ → ℕ → Entry → ContractRead → Bool
serves day operator e (Ok c) = opens operator e.key c && in_force day c
serves day operator e (Err r) = false

-- An entry is eligible: its priority is usable, and its record reads under its type as a contract that serves.
abbrev pub eligible : ℕ → ℕ → List ℕ → Entry → Bool
eligible day operator file e = usable e && serves day operator e (contract_read e.kind (record_at file e.pointer))

-- A choice: the refusal, and the chosen entry's position in the list, from 1, its pointer and its priority.
pub record Selection : Type 0 where
  pub refusal : Answer
  pub position : ℕ
  pub pointer : ℕ
  pub priority : ℕ

-- No entry chosen yet.
abbrev pub nobody : Selection
nobody = record { refusal = refusal 0 0; position = 0; pointer = 0; priority = 0 }

abbrev pub chosen_at : ℕ → Entry → Selection
chosen_at position e = record { refusal = refusal 0 0; position = position; pointer = e.pointer; priority = e.priority }

-- An entry goes before the one chosen so far if there is none, or its priority number is lower.
abbrev pub goes_before : Entry → Selection → Bool
goes_before e best = eqb best.position 0 || ltb e.priority best.priority

abbrev pub better : Bool → ℕ → Entry → Selection → Selection
better ok position e best = pick (ok && goes_before e best) (chosen_at position e) best

-- The choice among entries from a position on: of those that are eligible the one with the lowest priority number, the
-- earliest listed among equals.
abbrev pub choose : (Entry → Bool) → ℕ → Selection → List Entry → Selection
choose ok position best [] = best
choose ok position best (e ∷ es) = choose ok (suc position) (better (ok e) position e best) es
