-- The pointer that the rule names for a new contract, and the list afterwards. Document 01, "Where a new contract goes".
use Rattle.std.specs.Prelude.{ℕ, zero, suc, ◌-◌, Bool, not, ◌&&◌, List, [], ◌∷◌, ◌++◌, eqb, leb}
use Rattle.rows.specs.Row.{pick}
use Rattle.lists.specs.Entries.{without}
use Rattle.lists.specs.declared.list.Entry.{Entry}
use Rattle.loading.specs.Blocking.{some}

-- A pointer is free: no entry has it, whatever the events say.
abbrev pub free : List Entry → ℕ → Bool
free es pointer = not (some (λ e. eqb e.pointer pointer) es)

-- An entry is erasable: its priority is 15 and its pointer not blocked.
abbrev pub erasable : (ℕ → Bool) → Entry → Bool
erasable blocked e = eqb e.priority 15 && not (blocked e.pointer)

-- The lowest free pointer of n, from one on; 0 for none.
abbrev pub lowest_free : List Entry → ℕ → ℕ → ℕ
lowest_free es zero pointer = 0
lowest_free es (suc n) pointer = pick (free es pointer) pointer (lowest_free es n (suc pointer))

abbrev pub within : ℕ → ℕ → ℕ → Bool
within first last pointer = leb first pointer && leb pointer last

-- The pointer of the erasable entry listed first, among pointers from a first to a last; 0 for none.
abbrev pub first_erasable : (ℕ → Bool) → ℕ → ℕ → List Entry → ℕ
first_erasable blocked first last [] = 0
first_erasable blocked first last (e ∷ es) =
    pick (within first last e.pointer && erasable blocked e) e.pointer (first_erasable blocked first last es)

abbrev pub or_else : ℕ → ℕ → ℕ
or_else a b = pick (eqb a 0) b a

-- Counter pointers are 1 to c, the others up to n plain.
abbrev pub counter_place : (ℕ → Bool) → ℕ → List Entry → ℕ
counter_place blocked c es = or_else (lowest_free es c 1) (first_erasable blocked 1 c es)

abbrev pub plain_place : (ℕ → Bool) → ℕ → ℕ → List Entry → ℕ
plain_place blocked n c es = or_else (lowest_free es (n - c) (suc c)) (first_erasable blocked (suc c) n es)

-- The pointer for a new contract, with a counter or without; 0 for none.
abbrev pub place : (ℕ → Bool) → ℕ → ℕ → Bool → List Entry → ℕ
place blocked n c counter es =
    pick counter (counter_place blocked c es) (or_else (plain_place blocked n c es) (counter_place blocked c es))

-- The old list in order, without any entry of the new one's pointer, then the new one.
abbrev pub afterwards : Entry → List Entry → List Entry
afterwards new es = without new.pointer es ++ (new ∷ [])
