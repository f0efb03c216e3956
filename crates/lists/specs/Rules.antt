-- The rule of both lists, refusal 6. Document 01, "Numbers with a range": each counted entry has every element but the network
-- present; pointers are distinct, from 1 to a limit; a repeated one is the later entry's fault.
use Rattle.std.specs.Prelude.{ℕ, suc, ◌/◌, List, [], ◌∷◌, ◌++◌, Bool, ◌&&◌, not, eqb, leb, length}
use Rattle.rows.specs.Row.{pick, among}

-- Whether an entry keeps the rule, with the pointers before it: its bitmap, but for element [0], the network, is full.
abbrev pub keeps : ℕ → ℕ → List ℕ → ℕ → ℕ → Bool
keeps full limit before bitmap pointer =
    eqb (bitmap / 2) full && leb 1 pointer && leb pointer limit && not (among pointer before)

-- The number, from 1, of the first entry that does not, 0 for none, of those that follow some.
abbrev pub fault_after : ℕ → ℕ → List ℕ → List ℕ → List ℕ → ℕ
fault_after full limit before [] pointers = 0
fault_after full limit before (bitmap ∷ bitmaps) [] = 0
fault_after full limit before (bitmap ∷ bitmaps) (pointer ∷ pointers) =
    pick (keeps full limit before bitmap pointer)
    (fault_after full limit (before ++ (pointer ∷ [])) bitmaps pointers)
    (suc (length before))

-- The same of all the entries counted.
abbrev pub first_at_fault : ℕ → ℕ → List ℕ → List ℕ → ℕ
first_at_fault full limit bitmaps pointers = fault_after full limit [] bitmaps pointers
