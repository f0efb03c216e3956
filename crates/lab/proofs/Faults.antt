-- The first entry of a list that does not keep the rule, an entry at a time.
use Rattle.std.proofs.Common.{◌≡◌, ℕ, zero, suc, ◌+◌, ◌-◌, ◌*◌, ◌<◌, ◌≤◌, min, Bool, true, false, leb, List, [], ◌∷◌, ◌++◌, length, get_or, take, refl, ap, add-zero, mul-zero, mul-suc, add-one, arith, leb-true, leb-false}
use native.Mathlib.Nat.{sub-zero}
use lib.Seq.{take-nil}
use Rattle.rows.specs.Row.{pick}
use Rattle.lists.specs.Rules.{keeps, fault_after}
use Rattle.lists.specs.Listing.{column, at_fault}

-- A column has a number for each entry.
length_column : (n size slot : ℕ) (vals : List ℕ) → length (column n size slot vals) ≡ n
length_column zero size slot vals = refl
length_column (suc n) size slot vals = ap suc (length_column n size (slot + size) vals)

-- The numbers from entry k on are its own and those behind it.
pub column_from : (n size slot k : ℕ) (vals : List ℕ) → k < n
    → column (n - k) size (slot + size * k) vals ≡ get_or vals (slot + size * k) 0 ∷ column (n - (k + 1)) size (slot + size * (k + 1)) vals
column_from n size slot k vals h =
    let one : n - k ≡ suc (n - (k + 1)) = omega arith in
    let next : slot + size * (k + 1) ≡ slot + size * k + size = rw (add-one, mul-suc) (omega arith) in
    rw (one, next)

-- Those up to entry k are those before it and its own.
column_last : (k size slot : ℕ) (vals : List ℕ) → column k size slot vals ++ (get_or vals (slot + size * k) 0 ∷ []) ≡ column (suc k) size slot vals
column_last zero size slot vals = rw (mul-zero, add-zero)
column_last (suc k) size slot vals =
    let same : slot + size * suc k ≡ slot + size + size * k = rw mul-suc (omega arith) in
    rw (same, column_last k size (slot + size) vals)

module _ (n size full limit : ℕ) (vals : List ℕ) where
  -- One number of each counted entry from entry k on.
  abbrev counted : ℕ → ℕ → List ℕ
  counted slot k = take (get_or vals 0 0 - k) (column (n - k) size (slot + size * k) vals)

  -- The first at fault of these entries, with the pointers before them.
  unfoldable pub fault_from : ℕ → ℕ
  fault_from k = fault_after full limit (column k size size vals) (counted 1 k) (counted size k)

  -- From the first entry on it is the first of all.
  pub fault_first : at_fault n size full limit vals ≡ fault_from 0
  unfolding fault_from
  fault_first = simp (sub-zero, mul-zero, add-zero)

  -- It is entry k, where that does not keep the rule, or one behind it;
  pub fault_next : (k : ℕ) → k < n → k < get_or vals 0 0
      → fault_from k ≡ pick (keeps full limit (column k size size vals) (get_or vals (1 + size * k) 0) (get_or vals (size + size * k) 0)) (fault_from (k + 1)) (k + 1)
  unfolding fault_from
  fault_next k h counts =
      let one : get_or vals 0 0 - k ≡ suc (get_or vals 0 0 - (k + 1)) = omega arith in
      rw (one, column_from n size 1 k vals h, column_from n size size k vals h, length_column, add-one, column_last)

  -- and none behind the last entry, or the last counted.
  pub fault_past : (k : ℕ) → min n (get_or vals 0 0) ≤ k → fault_from k ≡ 0
  unfolding fault_from
  fault_past k h = go (leb n k) refl
    where
      go : (b : Bool) → leb n k ≡ b → fault_after full limit (column k size size vals) (counted 1 k) (counted size k) ≡ 0
      go true e = let none : n - k ≡ 0 = omega (arith, leb-true _ _ e) in rw (none, take-nil)
      go false e = let none : get_or vals 0 0 - k ≡ 0 = omega (arith, leb-false _ _ e) in rw none
