-- Holder as a value: named numbers, in the order of the table's slots, and its margin. A text is a list of its letters.
use Rattle.std.specs.Prelude.{ℕ, ◌+◌, List, [], ◌∷◌, ◌++◌, ◌≡◌, length, get_or, Result, Ok, Err}
use Rattle.rows.specs.Table.Holder.{holder}
use Rattle.records.specs.Answer.{Answer, Written, as_answer, refusal, read_area, write_area, from}
use Rattle.records.specs.declared.Refusal.{Refusal}
use Rattle.holder.specs.declared.Holder.{Holder}
use Rattle.holder.specs.declared.Profile.{Profile}

-- The numbers of a profile.
abbrev pub profile_numbers : Profile → List ℕ
profile_numbers p = p.bitmap ∷ p.network ∷ p.number ∷ p.date ∷ []

-- The profile in the four slots from i on.
abbrev pub profile_of : ℕ → List ℕ → Profile
profile_of i vals =
    record { bitmap = get_or vals i 0; network = get_or vals (i + 1) 0; number = get_or vals (i + 2) 0; date = get_or vals (i + 3) 0 }

-- A profile that is not there.
abbrev pub absent : Profile
absent = profile_of 0 []

abbrev pub numbers_of : Holder → List ℕ
numbers_of h =
    h.bitmap
    ∷ h.name_bitmap
    ∷ from 0 17 h.surname
    ++ (from 0 17 h.forename
    ++ (h.birth_bitmap
    ∷ h.birth_date
    ∷ from 0 23 h.birth_place
    ++ (from 0 17 h.birth_name
    ++ (h.id
    ∷ h.country
    ∷ h.company
    ∷ h.profile_count
    ∷ profile_numbers (get_or h.profiles 0 absent)
    ++ (profile_numbers (get_or h.profiles 1 absent)
    ++ (profile_numbers (get_or h.profiles 2 absent)
    ++ (profile_numbers (get_or h.profiles 3 absent)
    ++ (h.data_bitmap
    ∷ h.card_status
    ∷ h.telepayment
    ∷ h.residence
    ∷ h.commercial_id
    ∷ h.work_place
    ∷ h.study_place
    ∷ h.sale_device
    ∷ h.authenticator
    ∷ h.start1
    ∷ h.start2
    ∷ h.start3
    ∷ h.start4
    ∷ []))))))))

-- A Holder of these texts, this margin, and its other numbers by their slots.
abbrev pub with_texts : List ℕ → List ℕ → List ℕ → List ℕ → List ℕ → List ℕ → Holder
with_texts vals surname forename place name margin =
    record {
      bitmap = get_or vals 0 0;
      name_bitmap = get_or vals 1 0;
      surname = surname;
      forename = forename;
      birth_bitmap = get_or vals 36 0;
      birth_date = get_or vals 37 0;
      birth_place = place;
      birth_name = name;
      id = get_or vals 78 0;
      country = get_or vals 79 0;
      company = get_or vals 80 0;
      profile_count = get_or vals 81 0;
      profiles = profile_of 82 vals ∷ profile_of 86 vals ∷ profile_of 90 vals ∷ profile_of 94 vals ∷ [];
      data_bitmap = get_or vals 98 0;
      card_status = get_or vals 99 0;
      telepayment = get_or vals 100 0;
      residence = get_or vals 101 0;
      commercial_id = get_or vals 102 0;
      work_place = get_or vals 103 0;
      study_place = get_or vals 104 0;
      sale_device = get_or vals 105 0;
      authenticator = get_or vals 106 0;
      start1 = get_or vals 107 0;
      start2 = get_or vals 108 0;
      start3 = get_or vals 109 0;
      start4 = get_or vals 110 0;
      margin = margin;
    }

abbrev pub holder_of : List ℕ → List ℕ → Holder
holder_of vals margin = with_texts vals (from 2 17 vals) (from 19 17 vals) (from 38 23 vals) (from 61 17 vals) (from 0 15 margin)

-- The texts and the margin have their length, as every Holder's in code.
pub record Spelled (h : Holder) : Type 0 where
  pub surname : length h.surname ≡ 17
  pub forename : length h.forename ≡ 17
  pub birth_place : length h.birth_place ≡ 23
  pub birth_name : length h.birth_name ≡ 17
  pub margin : length h.margin ≡ 15

-- The answer to a reading.
pub record HolderRead : Type 0 where
  pub refusal : Answer
  pub holder : Holder

abbrev pub read_of : Holder → HolderRead
read_of h = record { refusal = refusal 0 0; holder = h }

-- Refused, the Holder is of zeros.
abbrev pub unread : Answer → HolderRead
unread r = record { refusal = r; holder = holder_of [] [] }

-- The answer that code gives.
abbrev pub holder_answer : Result Holder Refusal → HolderRead
holder_answer (Ok h) = read_of h
holder_answer (Err r) = unread (as_answer r)

abbrev pub holder_read : List ℕ → HolderRead
holder_read bytes = read_area (λ vals margin. read_of (holder_of vals margin)) unread holder bytes

abbrev pub holder_written : List ℕ → Holder → Written
holder_written before h = write_area holder (numbers_of h) h.margin before
