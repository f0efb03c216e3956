-- The special event list as a value: its count and its entries, in the order of the table's slots.
use Rattle.std.specs.Prelude.{ℕ, ◌+◌, List, [], ◌∷◌, ◌++◌, ltb, get_or, Result, Ok, Err}
use Rattle.rows.specs.Table.Special.{special_list}
use Rattle.records.specs.Answer.{Answer, Written, as_answer, refusal}
use Rattle.records.specs.declared.Refusal.{Refusal}
use Rattle.lists.specs.Listing.{at_fault, read_list, write_list}
use Rattle.lists.specs.declared.special.SpecialEntry.{SpecialEntry}
use Rattle.lists.specs.declared.special.SpecialList.{SpecialList}

abbrev pub entry_numbers : SpecialEntry → List ℕ
entry_numbers e = e.bitmap ∷ e.network ∷ e.provider ∷ e.seriousness ∷ e.pointer ∷ []

-- The entry whose first slot is i.
abbrev pub entry_of : List ℕ → ℕ → SpecialEntry
entry_of vals i =
    record {
      bitmap = get_or vals i 0;
      network = get_or vals (i + 1) 0;
      provider = get_or vals (i + 2) 0;
      seriousness = get_or vals (i + 3) 0;
      pointer = get_or vals (i + 4) 0;
    }

-- Entry k, from 0.
abbrev pub entry_at : SpecialList → ℕ → SpecialEntry
entry_at l k = get_or l.entries k (entry_of [] 0)

abbrev pub numbers_of : SpecialList → List ℕ
numbers_of l =
    l.count
    ∷ (entry_numbers (entry_at l 0)
    ++ (entry_numbers (entry_at l 1) ++ (entry_numbers (entry_at l 2) ++ entry_numbers (entry_at l 3))))

abbrev pub special_of : List ℕ → SpecialList
special_of vals =
    record {
      count = get_or vals 0 0;
      entries = entry_of vals 1 ∷ entry_of vals 6 ∷ entry_of vals 11 ∷ entry_of vals 16 ∷ [];
    }

-- The first entry at fault, of 4 with 5 slots each, on a card with s special event records, the bitmap's elements [1] to [3]
-- being the provider, the seriousness and the pointer.
abbrev pub special_fault : ℕ → List ℕ → ℕ
special_fault s vals = at_fault 4 5 7 s vals

-- The answer to a reading.
pub record SpecialRead : Type 0 where
  pub refusal : Answer
  pub list : SpecialList

abbrev pub got_special : SpecialList → SpecialRead
got_special l = record { refusal = refusal 0 0; list = l }

-- Refused, the list is all zeros.
abbrev pub no_special : Answer → SpecialRead
no_special r = record { refusal = r; list = special_of [] }

-- The answer that code gives.
abbrev pub special_answer : Result SpecialList Refusal → SpecialRead
special_answer (Ok l) = got_special l
special_answer (Err r) = no_special (as_answer r)

-- A card has 0 to 4 special event records.
abbrev pub special_read : ℕ → List ℕ → SpecialRead
special_read s bytes = read_list (λ vals. got_special (special_of vals)) no_special (special_fault s) (ltb 4 s) special_list bytes

abbrev pub special_written : ℕ → SpecialList → List ℕ → Written
special_written s l before = write_list (special_fault s) (ltb 4 s) special_list (numbers_of l) before
