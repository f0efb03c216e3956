-- What the contract list and the special event list share: a count and entries of so many slots each, the bitmap first and the
-- pointer last; read and written as any record, but without a margin, and then held to their rule. Document 01, "Refusal numbers",
-- the order.
use Rattle.std.specs.Prelude.{ℕ, zero, suc, ◌+◌, List, [], ◌∷◌, Bool, eqb, length, get_or, take}
use Rattle.bits.specs.Bits.{spread}
use Rattle.rows.specs.Row.{Row, pick}
use Rattle.rows.specs.Walk.{Outcome, done, refused, and_then, read_bare, write_bare}
use Rattle.records.specs.Answer.{Written, refusal, denied, written, answered}
use Rattle.lists.specs.Rules.{first_at_fault}
use Rattle.records.specs.Answer.{Answer}

-- One number of each of n entries of size slots, from a slot on.
abbrev pub column : ℕ → ℕ → ℕ → List ℕ → List ℕ
column zero size slot vals = []
column (suc n) size slot vals = get_or vals slot 0 ∷ column n size (slot + size) vals

-- The first of the counted entries that does not keep the rule.
abbrev pub at_fault : ℕ → ℕ → ℕ → ℕ → List ℕ → ℕ
at_fault n size full limit vals =
    let count : ℕ = get_or vals 0 0 in
    first_at_fault full limit (take count (column n size 1 vals)) (take count (column n size size vals))

-- After all else: 6 at the entry at fault, 0 for none.
abbrev pub obeying : {A : Type 0} → ℕ → A → ℕ → Outcome A
obeying k a end = pick (eqb k 0) (done a end) (refused 6 k 0)

-- Reading a list from a record: 1; 11 where its parameter is outside its limits; the walk and 5; 6.
unfoldable pub read_list : {A : Type 0} → (List ℕ → A) → (Answer → A) → (List ℕ → ℕ) → Bool → List Row → List ℕ → A
read_list good bad fault outside rows bytes =
    pick (eqb (length bytes) 29)
    (pick outside (bad (refusal 11 0)) (answered good bad (and_then (read_bare rows (spread 8 bytes)) (λ vals end. obeying (fault vals) vals end))))
    (bad (refusal 1 0))

-- Writing a list to a record.
unfoldable pub write_list : (List ℕ → ℕ) → Bool → List Row → List ℕ → List ℕ → Written
write_list fault outside rows vals before =
    pick (eqb (length before) 29)
    (pick outside (denied (refusal 11 0) before) (written before (and_then (write_bare rows 232 vals) (λ bs end. obeying (fault vals) bs end))))
    (denied (refusal 1 0) before)
