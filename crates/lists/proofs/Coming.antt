-- What the reading and the writing of a list come to.
use Prim.Native.Nat.{ℕ}
use mathlib.Core.Bool.{Bool, true, false}
use mathlib.Core.List.{List, [], ◌∷◌}
use mathlib.Core.Path.{◌≡◌, refl}
use native.Mathlib.Omega.{arith}
use lib.Dec.{eqb}
use lib.ListN.{length}
use borrow.Author.Tests.{eqb-true}
use Rattle.bits.specs.Bits.{spread}
use Rattle.rows.specs.Row.{Row, pick}
use Rattle.rows.specs.Walk.{Outcome, done, refused, and_then, read_bare, write_bare}
use Rattle.rows.specs.Refusing.{bare_numbers, write_numbers}
use Rattle.rows.proofs.Refusing.{Refuses, refuses_then, refuses_behind, bare_write_number}
use Rattle.records.specs.Answer.{refusal, accepted, answered}
use Rattle.records.proofs.Coming.{ComesTo, unwritten, either, stops, answered_comes, written_comes, bare_bytes_number}
use Rattle.lists.specs.Listing.{obeying, read_list, write_list}
use Rattle.records.specs.Answer.{Answer}

-- Held to a list's rule, an outcome can also be refused with 6; and there are 1 and 11 before it.
obeying_number : {A : Type 0} (k : A → ℕ) (ns : List ℕ) (o : Outcome A) → Refuses ns o
    → Refuses (1 ∷ 11 ∷ 6 ∷ ns) (and_then o (λ a end. obeying (k a) a end))
obeying_number {A} k ns o why =
    refuses_then (1 ∷ 11 ∷ 6 ∷ ns) o (λ a end. obeying (k a) a end) (refuses_behind (1 ∷ 11 ∷ 6 ∷ []) ns o why) (λ a end. go (eqb (k a) 0) a end (k a))
  where
    go : (t : Bool) (a : A) (end place : ℕ) → Refuses (1 ∷ 11 ∷ 6 ∷ ns) (pick t (done a end) (refused 6 place 0))
    go true a end place = tt
    go false a end place = record { some = λ z. omega arith; listed = refl; named = refl }

module _ {A B : Type 0} {good : A → B} {bad : Answer → B} (value_of : List ℕ → A) (fault : List ℕ → ℕ) (outside : Bool) (rows : List Row) (bytes : List ℕ) where
  pub listing_comes : ComesTo good bad (1 ∷ 11 ∷ 6 ∷ bare_numbers 232 rows) (read_list (λ vals. good (value_of vals)) bad fault outside rows bytes)
  unfolding read_list
  listing_comes = go (eqb (length bytes) 29) refl
    where
      o : Outcome (List ℕ)
      o = and_then (read_bare rows (spread 8 bytes)) (λ vals end. obeying (fault vals) vals end)

      go : (t : Bool) → eqb (length bytes) 29 ≡ t
          → ComesTo good bad (1 ∷ 11 ∷ 6 ∷ bare_numbers 232 rows)
          (pick t (pick outside (bad (refusal 11 0)) (answered (λ vals. good (value_of vals)) bad o)) (bad (refusal 1 0)))
      go true long =
          either outside (stops (refusal 11 0) refl refl refl)
          (answered_comes value_of o
          (obeying_number fault (bare_numbers 232 rows) (read_bare rows (spread 8 bytes)) (bare_bytes_number rows bytes (rw (eqb-true (length bytes) 29 long)))))
      go false short = stops (refusal 1 0) refl refl refl

pub listing_write_comes : (fault : List ℕ → ℕ) (outside : Bool) (rows : List Row) (vals before : List ℕ)
    → ComesTo accepted (unwritten before) (1 ∷ 11 ∷ 6 ∷ write_numbers 232 rows) (write_list fault outside rows vals before)
unfolding write_list
listing_write_comes fault outside rows vals before =
    either (eqb (length before) 29)
    (either outside (stops (refusal 11 0) refl refl refl)
    (written_comes before (and_then (write_bare rows 232 vals) (λ bs end. obeying (fault vals) bs end))
    (obeying_number (λ bs. fault vals) (write_numbers 232 rows) (write_bare rows 232 vals) (bare_write_number rows 232 vals))))
    (stops (refusal 1 0) refl refl refl)
