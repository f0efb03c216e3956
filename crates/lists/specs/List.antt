-- The contract list as a value: its count and its entries, in the order of the table's slots, and its tally.
use Rattle.std.specs.Prelude.{ℕ, ◌+◌, List, [], ◌∷◌, ◌++◌, Bool, ◌||◌, eqb, ltb, get_or, take, Result, Ok, Err}
use Rattle.rows.specs.Row.{pick}
use Rattle.rows.specs.Table.BestContracts.{contract_list}
use Rattle.records.specs.Answer.{Answer, Written, as_answer, refusal, denied}
use Rattle.records.specs.declared.Refusal.{Refusal}
use Rattle.lists.specs.Listing.{at_fault, read_list, write_list}
use Rattle.lists.specs.Tally.{tally_of, same_tally}
use Rattle.lists.specs.declared.list.Entry.{Entry}
use Rattle.lists.specs.declared.list.ContractList.{ContractList}
use Rattle.lists.specs.declared.tally.Positions.{Positions}
use Rattle.lists.specs.declared.tally.Tally.{Tally}

abbrev pub entry_numbers : Entry → List ℕ
entry_numbers e = e.bitmap ∷ e.network ∷ e.key ∷ e.kind ∷ e.priority ∷ e.pointer ∷ []

-- The entry whose first slot is i.
abbrev pub entry_of : List ℕ → ℕ → Entry
entry_of vals i =
    record {
      bitmap = get_or vals i 0;
      network = get_or vals (i + 1) 0;
      key = get_or vals (i + 2) 0;
      kind = get_or vals (i + 3) 0;
      priority = get_or vals (i + 4) 0;
      pointer = get_or vals (i + 5) 0;
    }

-- Entry k, from 0.
abbrev pub entry_at : ContractList → ℕ → Entry
entry_at l k = get_or l.entries k (entry_of [] 0)

abbrev pub numbers_of : ContractList → List ℕ
numbers_of l =
    l.count
    ∷ (entry_numbers (entry_at l 0)
    ++ (entry_numbers (entry_at l 1)
    ++ (entry_numbers (entry_at l 2)
    ++ (entry_numbers (entry_at l 3)
    ++ (entry_numbers (entry_at l 4) ++ (entry_numbers (entry_at l 5) ++ (entry_numbers (entry_at l 6) ++ entry_numbers (entry_at l 7))))))))

abbrev pub entries_of : List ℕ → List Entry
entries_of vals =
    entry_of vals 1
    ∷ entry_of vals 7
    ∷ entry_of vals 13
    ∷ entry_of vals 19
    ∷ entry_of vals 25
    ∷ entry_of vals 31
    ∷ entry_of vals 37
    ∷ entry_of vals 43
    ∷ []

-- With the tally of its counted entries, on a card with c counter positions.
abbrev pub list_of : ℕ → List ℕ → ContractList
list_of c vals =
    record {
      count = get_or vals 0 0;
      entries = entries_of vals;
      tally = tally_of c (take (get_or vals 0 0) (entries_of vals));
    }

-- A card has 1 to 8 contract records, and up to 4 counter positions among them.
abbrev pub outside : ℕ → ℕ → Bool
outside n c = ltb n 1 || ltb 8 n || ltb 4 c || ltb n c

-- The first entry at fault, of 8 with 6 slots each, the bitmap's elements [1] and [2] being the tariff and the pointer.
abbrev pub list_fault : ℕ → List ℕ → ℕ
list_fault n vals = at_fault 8 6 3 n vals

-- The answer to a reading.
pub record ListRead : Type 0 where
  pub refusal : Answer
  pub list : ContractList

abbrev pub got_list : ContractList → ListRead
got_list l = record { refusal = refusal 0 0; list = l }

-- A tally of nothing.
abbrev pub no_positions : Positions
no_positions = record { used = 0; spent = 0 }

abbrev pub no_tally : Tally
no_tally = record { counter = no_positions; plain = no_positions }

-- Refused, the list is all zeros, its tally too.
abbrev pub no_list : Answer → ListRead
no_list r = record { refusal = r; list = record { count = 0; entries = entries_of []; tally = no_tally } }

-- The answer that code gives.
abbrev pub list_answer : Result ContractList Refusal → ListRead
list_answer (Ok l) = got_list l
list_answer (Err r) = no_list (as_answer r)

abbrev pub list_read : ℕ → ℕ → List ℕ → ListRead
list_read n c bytes = read_list (λ vals. got_list (list_of c vals)) no_list (list_fault n) (outside n c) (contract_list n) bytes

-- The tally is a fresh count of the counted entries.
abbrev pub fair : ℕ → ContractList → Bool
fair c l = same_tally l.tally (tally_of c (take l.count l.entries))

-- Last of all, where nothing else was refused: 6 at place 0 where it is not.
abbrev pub fairly : Bool → List ℕ → Written → Written
fairly is_fair before w = pick (eqb w.answer.number 0) (pick is_fair w (denied (refusal 6 0) before)) w

abbrev pub list_written : ℕ → ℕ → ContractList → List ℕ → Written
list_written n c l before =
    fairly (fair c l) before (write_list (list_fault n) (outside n c) (contract_list n) (numbers_of l) before)
