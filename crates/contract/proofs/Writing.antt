-- From the puts of a contract to the answer about the bytes: where the data agree it is the writing of the table, and where
-- they do not, 7 behind the head.
use Prim.Native.Nat.{ℕ, ◌-◌}
use mathlib.Core.List.{List, [], ◌++◌}
use mathlib.Core.Bool.{Bool, true, false}
use mathlib.Core.Path.{◌≡◌, refl, sym, ap, ◌∙◌}
use native.Mathlib.Omega.{arith}
use lib.Dec.{eqb}
use lib.ListN.{length}
use borrow.Author.Tests.{eq-eqb, eqb-false}
use Rattle.bits.specs.Bits.{cut, spread}
use Rattle.rows.specs.Row.{pick}
use Rattle.rows.specs.Walk.{Outcome, done, refused, and_then, slots}
use Rattle.rows.specs.Margin.{words_of}
use Rattle.rows.specs.Inner.Step.{Drafted, Kept, Packed}
use Rattle.rows.specs.Inner.Standing.{Standing}
use Rattle.rows.specs.Table.Contract.{head, data42, data50, contract42, contract50}
use Rattle.rows.proofs.Running.{puts_walk}
use Rattle.rows.proofs.Tables.{head_rows}
use Rattle.records.specs.Answer.{denied, written, write_record}
use Rattle.records.specs.Inner.Met.{met}
use Rattle.contract.specs.Contract.{is_carnet, known, table_of, agrees, carnet, urban, numbers42, numbers50, head_numbers, numbers_of, disagreement, contract_written}
use Rattle.contract.specs.Inner.Steps.{disagreed, PutHead, PutOf}
use Rattle.contract.specs.declared.Contract.{Contract}
use Rattle.records.proofs.Answering.{record_unput, record_written}
use Rattle.contract.proofs.Reading.{few_rows}

-- A contract has a number for each slot of its type's table.
pub contract_sized : (kind : ℕ) (c : Contract) → length (numbers_of kind c) ≡ slots (table_of kind)
unfolding head data42 data50 contract42 contract50
contract_sized kind c = go (is_carnet kind)
  where
    go : (b : Bool)
        → length (head_numbers c ++ pick b (numbers42 (carnet c.«data»)) (numbers50 (urban c.«data»))) ≡ slots (pick b contract42 contract50)
    go true = refl
    go false = refl

-- A cursor behind the head where the data do not agree is within the room.
pub disagreed_ready : {draft : List ℕ} {e : Standing} → Drafted draft 232 e → Drafted draft 232 (disagreed e)
disagreed_ready {draft} {e} ready = go (eqb e.why 0)
  where
    go : (b : Bool) → Drafted draft 232 (pick b (record { at = e.at; why = 7; field = 10; number = 0 }) e)
    go true = record { within = ready.within; longer = ready.longer }
    go false = ready

-- The puts of the head alone come to a refusal: the head's own, or 7 behind it.
module _ (c : Contract) (before xs : List ℕ) (d : Standing) (empty : xs ≡ cut 32 32 (length xs) []) (put : PutHead c xs d) where
  e : Standing
  e = put.last

  stopped : Bool → Standing
  stopped b = pick b (record { at = e.at; why = 7; field = 10; number = 0 }) e

  head_stops : d.why ≡ 0 → ⊥
  unfolding e stopped
  head_stops ok = go (eqb e.why 0) refl (rw put.stops at ok)
    where
      go : (b : Bool) → eqb e.why 0 ≡ b → (stopped b).why ≡ 0 → ⊥
      go true t h = omega arith
      go false t h = eqb-false _ _ t h

  head_denied : denied (met d) before ≡ disagreement c before
  unfolding e stopped head
  head_denied =
      let w = puts_walk 232 head (head_numbers c) xs (head_numbers c) put.draft e (omega (arith, head_rows)) refl empty put.puts in
      rw put.stops
      (go (eqb e.why 0) refl ∙ ap (λ (o : Outcome (List ℕ)). written before (and_then o (λ vals end. refused 7 end 9))) (sym w.says))
    where
      go : (b : Bool) → eqb e.why 0 ≡ b
          → denied (met (stopped b)) before
          ≡ written before (and_then (pick b (done (head_numbers c) e.at) (refused e.why e.at (e.field - 1))) (λ vals end. refused 7 end 9))
      go true t = refl
      go false t = rw t

module _ (kind : ℕ) (c : Contract) (before xs ys : List ℕ) (d : Standing)
    (whole : length before ≡ 29)
    (there : known kind ≡ true)
    (empty : xs ≡ cut 32 32 (length xs) [])
    (put : PutOf kind c xs ys d) where
  -- Refused at a field, or because the data do not agree.
  pub contract_unput : (d.why ≡ 0 → ⊥) → denied (met d) before ≡ contract_written kind c before
  contract_unput why = rw (eq-eqb _ _ whole, there) (go (agrees kind c) refl)
    where
      go : (b : Bool) → agrees kind c ≡ b
          → denied (met d) before ≡ pick b (write_record (table_of kind) (numbers_of kind c) (words_of c.margin) before) (disagreement c before)
      go true agree =
          record_unput (table_of kind) (numbers_of kind c) (words_of c.margin) xs _ ys before d (few_rows kind) (contract_sized kind c) empty whole (put.agreed agree) why
      go false differ = head_denied c before xs d empty (put.opposed differ)

  -- Written, or refused for its margin.
  pub contract_written_law : (zs after : List ℕ) (e : Standing) → d.why ≡ 0 → Kept ys zs 232 d (spread 64 (words_of c.margin)) e → Packed zs e before after
      → record { answer = met e; bytes = after } ≡ contract_written kind c before
  contract_written_law zs after e ok kept packed = rw (eq-eqb _ _ whole, there) (go (agrees kind c) refl)
    where
      go : (b : Bool) → agrees kind c ≡ b
          → record { answer = met e; bytes = after }
          ≡ pick b (write_record (table_of kind) (numbers_of kind c) (words_of c.margin) before) (disagreement c before)
      go true agree =
          record_written (table_of kind) (numbers_of kind c) (words_of c.margin) xs _ ys before d (few_rows kind) (contract_sized kind c) empty zs after e ok packed whole
          (put.agreed agree) kept
      go false differ = absurd (head_stops c before xs d empty (put.opposed differ) ok)
