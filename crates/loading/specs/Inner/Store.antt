-- What loading's code does, in terms of the values that it read.
use Rattle.std.specs.Prelude.{ℕ, Bool, List, eqb}
use Rattle.rows.specs.Row.{pick}
use Rattle.records.specs.Answer.{refusal, Answer}
use Rattle.records.specs.Order.{Attempt, got, next}
use Rattle.lists.specs.List.{list_written, ListRead}
use Rattle.lists.specs.Entries.{counted, without_pointer, appended}
use Rattle.lists.specs.declared.list.ContractList.{ContractList}
use Rattle.contract.specs.Contract.{contract_read}
use Rattle.loading.specs.Place.{place}
use Rattle.loading.specs.Loading.{Lent, Outcome, contract_got, blocking, loaded, both_or_neither, new_entry, placed, Loaded}
use Rattle.loading.specs.declared.Order.{Order}

-- The old list without the pointer's entry, and with the new one.
abbrev pub renewed : Order → ContractList → ℕ → ContractList
renewed o old pointer = appended o.c (new_entry o pointer) (without_pointer o.c pointer old)

-- What is left to do when the pointer is known.
unfoldable pub stored : Order → List ℕ → List ℕ → ContractList → List ℕ → ℕ → Outcome
stored o list file old new pointer =
    pick (eqb pointer 0) (loaded (refusal 9 0) 0 list file)
    (both_or_neither list file pointer (list_written o.n o.c (renewed o old pointer) list) (placed pointer new file))

-- The contract file after an answer: the new record at its pointer's place, or nothing changed.
abbrev pub file_after : Loaded → List ℕ → List ℕ → List ℕ
file_after r new file = pick (eqb r.refusal.number 0) (placed r.pointer new file) file

-- All but the contract list is read, in order: the pointers that are blocked, and the new contract under its type.
unfoldable pub rest_read : Order → Lent → Attempt (ℕ → Bool)
rest_read o lent =
    next (blocking o lent.special lent.journal lent.records lent.codes)
    (λ is_blocked. next (contract_got (contract_read o.kind lent.new)) (λ new. got is_blocked))

-- Then the list's refusal comes first, that of the rest next.
unfoldable pub ended : Order → List ℕ → List ℕ → List ℕ → Answer → (ℕ → Bool) → ListRead → Outcome
ended o list file new rest is_blocked r =
    pick (eqb r.refusal.number 0)
    (pick (eqb rest.number 0)
    (stored o list file r.list new (place is_blocked o.n o.c o.counter (counted r.list)))
    (loaded rest 0 list file))
    (loaded r.refusal 0 list file)
