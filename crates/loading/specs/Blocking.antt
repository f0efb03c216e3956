-- Which pointers the events block. Document 01, "Where a new contract goes"; 02, Q-3.
use Rattle.std.specs.Prelude.{ℕ, suc, ◌+◌, ◌-◌, ◌*◌, ◌/◌, ◌^◌, Bool, false, ◌&&◌, ◌||◌, List, [], ◌∷◌, eqb, ltb, get_or}
use Rattle.bits.specs.Bits.{odd, spread}
use Rattle.records.specs.declared.event.Event.{Event}
use Rattle.lists.specs.declared.special.SpecialEntry.{SpecialEntry}

abbrev pub some : {A : Type 0} → (A → Bool) → List A → Bool
some test [] = false
some test (a ∷ rest) = test a || some test rest

-- Minutes since the first minute of day 0.
abbrev pub moment : ℕ → ℕ → ℕ
moment day minute = day * 1440 + minute

abbrev pub names : ℕ → Event → Bool
names pointer e = eqb e.pointer pointer

-- Later than now, or less than 60 × hours minutes old.
abbrev pub recent : ℕ → ℕ → Event → Bool
recent now hours e = ltb now (moment e.date e.minute) || ltb (now - moment e.date e.minute) (60 * hours)

-- The event has a code, element [2], and that code is marked: its bit is one. Bit 0 is that of code 0.
abbrev pub journey : List ℕ → Event → Bool
journey codes e = odd (e.bitmap / 2 ^ 2) && get_or (spread 8 codes) e.code false

-- A journal event blocks a pointer. An inspection does not, whatever it names.
abbrev pub blocks : List ℕ → ℕ → ℕ → ℕ → Event → Bool
blocks codes now hours pointer e = names pointer e && (journey codes e && recent now hours e)

-- Whether special event record k is listed.
abbrev pub listed : List SpecialEntry → ℕ → Bool
listed entries k = some (λ e. eqb e.pointer k) entries

-- A listed special event's record names a pointer, of those from record k on.
abbrev pub named_by_special : List SpecialEntry → ℕ → ℕ → List Event → Bool
named_by_special entries pointer k [] = false
named_by_special entries pointer k (e ∷ records) =
    (names pointer e && listed entries k) || named_by_special entries pointer (suc k) records

-- A pointer is blocked by the journal, or by the special events.
abbrev pub blocked : List ℕ → ℕ → ℕ → List Event → List SpecialEntry → List Event → ℕ → Bool
blocked codes now hours journal entries records pointer =
    some (blocks codes now hours pointer) journal || named_by_special entries pointer 1 records
