-- What operations do to a contract list: they speak of its counted entries, in order.
use Rattle.std.specs.Prelude.{ℕ, ◌+◌, ◌-◌, ◌*◌, List, [], ◌∷◌, ◌++◌, ◌&&◌, eqb, ltb, leb, length, set, take}
use Rattle.bits.specs.Bits.{odd}
use Rattle.rows.specs.Row.{pick}
use Rattle.rows.specs.Walk.{total, first_past, rank_past}
use Rattle.rows.specs.Change.{place_of}
use Rattle.rows.specs.Table.BestContracts.{contract_list}
use Rattle.records.specs.Answer.{refusal_at, named}
use Rattle.records.specs.Order.{Attempt, got, stopped}
use Rattle.records.specs.Answer.{Answer}
use Rattle.lists.specs.List.{entry_of, entry_at, numbers_of}
use Rattle.lists.specs.Tally.{used_up, how_many, tally_of, entered, removed, revalued, at_pointer}
use Rattle.lists.specs.declared.list.Entry.{Entry}
use Rattle.lists.specs.declared.list.ContractList.{ContractList}
use Rattle.lists.specs.List.{ListRead}

-- The counted entries.
abbrev pub counted : ContractList → List Entry
counted l = take l.count l.entries

-- The list of some entries, at most eight, with their tally.
abbrev pub listing : ℕ → List Entry → ContractList
listing c es = record { count = length es; entries = named (entry_of [] 0) 0 8 es; tally = tally_of c es }

-- A list that was read, or the refusal.
abbrev pub attempted : ListRead → Attempt ContractList
attempted r = pick (eqb r.refusal.number 0) (got r.list) (stopped r.refusal)

-- An entry with another priority.
abbrev pub recoded : ℕ → Entry → Entry
recoded code e =
    record {
      bitmap = e.bitmap;
      network = e.network;
      key = e.key;
      kind = e.kind;
      priority = code;
      pointer = e.pointer;
    }

-- Entries of which the one at a position, from 1, has another priority.
abbrev pub recoded_at : ℕ → ℕ → List Entry → List Entry
recoded_at position code [] = []
recoded_at position code (e ∷ es) = pick (eqb position 1) (recoded code e) e ∷ recoded_at (position - 1) code es

-- A list with another priority at a position of a counted entry. Another position changes nothing.
abbrev pub with_priority : ℕ → ℕ → ℕ → ContractList → ContractList
with_priority c position code l =
    let old : Entry = entry_at l (position - 1) in
    pick (leb 1 position && leb position (length (counted l)))
    (record {
      count = l.count;
      entries = recoded_at position code l.entries;
      tally = at_pointer c old.pointer (revalued old.priority code) l.tally;
    })
    l

-- Where the four bits of its priority stand in the record: slot 6 × position - 1 of the table.
abbrev pub priority_place : ℕ → ContractList → ℕ → ℕ
priority_place n l position = place_of (contract_list n) (numbers_of l) (6 * position - 1)

-- Entries without any of a pointer.
abbrev pub without : ℕ → List Entry → List Entry
without pointer [] = []
without pointer (e ∷ es) = pick (eqb e.pointer pointer) (without pointer es) (e ∷ without pointer es)

-- A list without any entry of a pointer.
abbrev pub without_pointer : ℕ → ℕ → ContractList → ContractList
without_pointer c pointer l =
    record {
      count = length (without pointer (counted l));
      entries = named (entry_of [] 0) 0 8 (without pointer (counted l));
      tally = at_pointer c pointer (removed pointer (how_many (λ e. eqb e.pointer pointer && used_up e) (counted l))) l.tally;
    }

-- A list with an entry more, behind the others. A full list stays as it is.
abbrev pub appended : ℕ → Entry → ContractList → ContractList
appended c e l =
    pick (ltb l.count 8)
    (record {
      count = l.count + 1;
      entries = set l.entries l.count e;
      tally = at_pointer c e.pointer (entered e.pointer e.priority) l.tally;
    })
    l

-- The widths of an entry's fields: bitmap, network (0 where the bitmap's element [0] does not mark it), tariff (4, 8 and 4
-- bits), pointer.
abbrev pub entry_fields : Entry → List ℕ
entry_fields e = 3 ∷ pick (odd e.bitmap) 24 0 ∷ 16 ∷ 5 ∷ []

abbrev pub entries_fields : List Entry → List ℕ
entries_fields [] = []
entries_fields (e ∷ es) = entry_fields e ++ entries_fields es

-- The widths of the fields of a list of some entries, in card order: the count, then entry by entry.
abbrev pub list_fields : List Entry → List ℕ
list_fields es = 4 ∷ entries_fields es

-- How many bits it takes.
abbrev pub list_bits : List Entry → ℕ
list_bits es = total (list_fields es)

-- Where it takes more than a record's 232: 2 at the first field that ends past them, by its place and its rank.
abbrev pub overfull : List Entry → Answer
overfull es = refusal_at 2 (first_past 232 (list_fields es) 0) (rank_past 232 (list_fields es) 0 0)
