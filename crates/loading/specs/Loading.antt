-- Loading, over bytes. Document 01, "Where a new contract goes" and "Refusal numbers"; 02, Q-3.
use Rattle.std.specs.Prelude.{ℕ, ◌+◌, ◌-◌, ◌*◌, ◌/◌, ◌%◌, ◌^◌, Bool, not, ◌&&◌, List, ◌++◌, eqb, ltb, leb, length, take, drop, Result, Ok, Err}
use Rattle.rows.specs.Row.{pick}
use Rattle.records.specs.Answer.{Answer, Written, as_answer, refusal}
use Rattle.records.specs.declared.Refusal.{Refusal}
use Rattle.records.specs.Order.{Attempt, got, stopped, next, needs, events}
use Rattle.lists.specs.List.{list_read, list_written}
use Rattle.lists.specs.Entries.{counted, listing, attempted}
use Rattle.lists.specs.Special.{SpecialRead, special_read}
use Rattle.lists.specs.declared.list.Entry.{Entry}
use Rattle.lists.specs.declared.special.SpecialEntry.{SpecialEntry}
use Rattle.contract.specs.Contract.{ContractRead, contract_read}
use Rattle.contract.specs.declared.Contract.{Contract}
use Rattle.loading.specs.Blocking.{moment, blocked}
use Rattle.loading.specs.Place.{place, afterwards}
use Rattle.loading.specs.declared.Order.{Order}
use Rattle.loading.specs.declared.Lengths.{Lengths}

-- What is lent and only read: special event list, journal, special event records, new contract record, a bit for each event code.
pub record Lent : Type 0 where
  pub special : List ℕ
  pub journal : List ℕ
  pub records : List ℕ
  pub new : List ℕ
  pub codes : List ℕ

-- The lengths of all that is lent agree with the card.
abbrev pub lengths : Order → Lengths → Bool
lengths o l =
    eqb l.list 29
    && eqb l.file (29 * o.n)
    && eqb l.special 29
    && eqb (l.journal % 29) 0
    && eqb l.records (29 * o.s)
    && eqb l.new 29
    && eqb l.codes 32

-- A network that is absent is zero.
abbrev pub network_fits : Order → Bool
network_fits o = pick o.has_network (ltb o.network (2 ^ 24)) (eqb o.network 0)

-- The new entry's numbers, with a priority that is defined.
abbrev pub entry_fits : Order → Bool
entry_fits o =
    leb o.key 15 && leb o.kind 255 && leb o.priority 15 && not (eqb o.priority 13) && network_fits o

-- All parameters, with the number of journal records.
abbrev pub limits : Order → ℕ → Bool
limits o records =
    leb 1 o.n
    && leb o.n 8
    && leb o.c 4
    && leb o.c o.n
    && leb o.s 4
    && leb records 15
    && leb o.day 16383
    && leb o.minute 1439
    && leb o.hours 255
    && entry_fits o

-- The special event list that was read, its counted entries; or the refusal.
abbrev pub specials : SpecialRead → Attempt (List SpecialEntry)
specials r = pick (eqb r.refusal.number 0) (got (take r.list.count r.list.entries)) (stopped r.refusal)

abbrev pub contract_got : ContractRead → Attempt Contract
contract_got (Ok c) = got c
contract_got (Err r) = stopped r

-- The pointers that are blocked, all events read: the special event list, the journal, then all special event records.
unfoldable pub blocking : Order → List ℕ → List ℕ → List ℕ → List ℕ → Attempt (ℕ → Bool)
blocking o special journal records codes =
    next (specials (special_read o.s special))
    (λ entries. next (events (length journal / 29) journal 0)
    (λ past. next (events o.s records 0)
    (λ special_events. got (blocked codes (moment o.day o.minute) o.hours past entries special_events))))

-- The new entry, with a network or without, which then is zero.
abbrev pub new_entry : Order → ℕ → Entry
new_entry o pointer =
    record {
      bitmap = pick o.has_network 7 6;
      network = pick o.has_network o.network 0;
      key = o.key;
      kind = o.kind;
      priority = o.priority;
      pointer = pointer;
    }

-- The contract file with the new record at its pointer's place.
abbrev pub placed : ℕ → List ℕ → List ℕ → List ℕ
placed pointer new file = take (29 * (pointer - 1)) file ++ (new ++ drop (29 * (pointer - 1) + 29) file)

-- A list that was read, and the pointer that the rule names on it.
pub record Found : Type 0 where
  pub entries : List Entry
  pub pointer : ℕ

-- 9 where it names none.
abbrev pub found : List Entry → ℕ → Attempt Found
found es pointer = needs (not (eqb pointer 0)) 9 (got (record { entries = es; pointer = pointer }))

-- All is read, in order: the contract list, the events, the new contract under its type.
unfoldable pub placing : Order → List ℕ → Lent → Attempt Found
placing o list lent =
    next (attempted (list_read o.n o.c list))
    (λ l. next (blocking o lent.special lent.journal lent.records lent.codes)
    (λ is_blocked. next (contract_got (contract_read o.kind lent.new))
    (λ new. found (counted l) (place is_blocked o.n o.c o.counter (counted l)))))

abbrev pub lengths_of : List ℕ → List ℕ → Lent → Lengths
lengths_of list file lent =
    record {
      list = length list;
      file = length file;
      special = length lent.special;
      journal = length lent.journal;
      records = length lent.records;
      new = length lent.new;
      codes = length lent.codes;
    }

-- The refusals, all but the last.
unfoldable pub finding : Order → List ℕ → List ℕ → Lent → Attempt Found
finding o list file lent =
    needs (lengths o (lengths_of list file lent)) 1 (needs (limits o (length lent.journal / 29)) 11 (placing o list lent))

-- The answer: the refusal, and the pointer of the new contract, 0 where refused.
pub record Loaded : Type 0 where
  pub refusal : Answer
  pub pointer : ℕ

-- The answer that code gives.
abbrev pub loaded_answer : Result ℕ Refusal → Loaded
loaded_answer (Ok p) = record { refusal = refusal 0 0; pointer = p }
loaded_answer (Err r) = record { refusal = as_answer r; pointer = 0 }

-- What loading leaves: the answer, the contract list and the contract file.
pub record Outcome : Type 0 where
  pub answer : Loaded
  pub list : List ℕ
  pub file : List ℕ

abbrev pub loaded : Answer → ℕ → List ℕ → List ℕ → Outcome
loaded r pointer list file = record { answer = record { refusal = r; pointer = pointer }; list = list; file = file }

-- Both buffers change where the list afterwards was written, and neither where it was refused.
abbrev pub both_or_neither : List ℕ → List ℕ → ℕ → Written → List ℕ → Outcome
both_or_neither list file pointer w file_after =
    pick (eqb w.answer.number 0) (loaded (refusal 0 0) pointer w.bytes file_after) (loaded w.answer 0 list file)

-- The list afterwards is written, 2 where it does not fit, and the new record to its place.
abbrev pub storing : Order → List ℕ → List ℕ → List ℕ → Found → Outcome
storing o list file new f =
    both_or_neither list file f.pointer
    (list_written o.n o.c (listing o.c (afterwards (new_entry o f.pointer) f.entries)) list)
    (placed f.pointer new file)

abbrev pub settled : Order → List ℕ → List ℕ → List ℕ → Attempt Found → Outcome
settled o list file new (got f) = storing o list file new f
settled o list file new (stopped r) = loaded r 0 list file

-- Where a new contract goes: the answer, and the two lent buffers afterwards.
unfoldable pub loading : Order → List ℕ → List ℕ → Lent → Outcome
loading o list file lent = settled o list file lent.new (finding o list file lent)
