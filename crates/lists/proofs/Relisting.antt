-- The round trips of both lists: a list's rule looks only at the numbers, which each way keeps.
use Prim.Native.Nat.{ℕ, ◌^◌, ◌<◌}
use mathlib.Core.List.{List}
use mathlib.Core.Bool.{Bool, true, false}
use mathlib.Core.Path.{◌≡◌, refl, sym, ap, ◌∙◌}
use native.Mathlib.Omega.{arith}
use lib.Dec.{eqb}
use lib.ListN.{length, get_or}
use borrow.Author.Tests.{eqb-true, eq-eqb}
use Rattle.bits.specs.Bits.{spread}
use Rattle.rows.specs.Row.{Row, pick}
use Rattle.rows.specs.Walk.{Outcome, done, refused, and_then, read_bare, write_bare, slots}
use Rattle.rows.proofs.RoundTrip.{bare_slots}
use Rattle.rows.proofs.Refusing.{bare_refused, bare_write_refused}
use Rattle.records.specs.Answer.{Written, refusal, refusal_at, accepted, denied, written, answered}
use Rattle.lists.specs.Listing.{obeying, read_list, write_list}
use Rattle.records.specs.Answer.{Answer}
use Rattle.records.proofs.Inverse.{bare_slots_read_write, bare_slots_write_read}

-- A list that keeps its rule is written as its table is.
obeying_none : {A : Type 0} (k : ℕ) (o : Outcome A) → k ≡ 0 → and_then o (λ a end. obeying k a end) ≡ o
obeying_none k (done a end) none = rw (eq-eqb _ _ none)
obeying_none k (refused n at i) none = refl

-- What was written was not refused, and kept the rule.
written_obeying : (rows : List Row) (vals before after : List ℕ) (k : ℕ)
    → written before (and_then (write_bare rows 232 vals) (λ bs end. obeying k bs end)) ≡ accepted after
    → (k ≡ 0) × (written before (write_bare rows 232 vals) ≡ accepted after)
written_obeying rows vals before after k = go (write_bare rows 232 vals) refl (eqb k 0) refl
  where
    go : (o : Outcome (List Bool)) → write_bare rows 232 vals ≡ o → (t : Bool) → eqb k 0 ≡ t
        → written before (and_then o (λ bs end. pick t (done bs end) (refused 6 k 0))) ≡ accepted after
        → (k ≡ 0) × (written before o ≡ accepted after)
    go (done bs end) e true none h = (eqb-true k 0 none, h)
    go (done bs end) e false some h = absurd (let six : ◌≡◌ {A = ℕ} 6 0 = ap (λ (w : Written). w.answer.number) h in omega arith)
    go (refused n at i) e t some h = absurd (bare_write_refused rows 232 vals e (ap (λ (w : Written). w.answer.number) h))

module _ {L A : Type 0} (good : L → A) (bad : Answer → A)
    (same : (a b : L) → good a ≡ good b → a ≡ b)
    (apart : (r : Answer) (l : L) → bad r ≡ good l → r.number ≡ 0)
    (fault : List ℕ → ℕ) (outside : Bool) (rows : List Row) (numbers_of : L → List ℕ) (value_of : List ℕ → L) where
  -- A list that was read, written onto any record, is the same bytes.
  pub listing_read_write : ((vals : List ℕ) → length vals ≡ slots rows → numbers_of (value_of vals) ≡ vals)
      → (bytes onto : List ℕ) (l : L) → ((i : ℕ) → get_or bytes i 0 < 2 ^ 8) → length onto ≡ 29
      → read_list (λ vals. good (value_of vals)) bad fault outside rows bytes ≡ good l
      → write_list fault outside rows (numbers_of l) onto ≡ accepted bytes
  unfolding read_list write_list
  listing_read_write forth bytes onto l small whole h = rw (eq-eqb _ _ whole) (go (eqb (length bytes) 29) refl outside (read_bare rows (spread 8 bytes)) refl h)
    where
      kept : (vals : List ℕ) (end : ℕ) → length bytes ≡ 29 → read_bare rows (spread 8 bytes) ≡ done vals end → (t : Bool) → eqb (fault vals) 0 ≡ t
          → answered (λ xs. good (value_of xs)) bad (pick t (done vals end) (refused 6 (fault vals) 0)) ≡ good l
          → written onto (and_then (write_bare rows 232 (numbers_of l)) (λ bs end. obeying (fault (numbers_of l)) bs end)) ≡ accepted bytes
      kept vals end long r true none h =
          let whose : numbers_of l ≡ vals = ap numbers_of (sym (same (value_of vals) l h)) ∙ forth vals (bare_slots rows (spread 8 bytes) r) in
          rw (whose, obeying_none (fault vals) (write_bare rows 232 vals) (eqb-true _ _ none))
          (bare_slots_read_write rows 232 bytes onto (rw long) small (whole ∙ sym long) r)
      kept vals end long r false some h = absurd (let six : ◌≡◌ {A = ℕ} 6 0 = apart (refusal 6 (fault vals)) l h in omega arith)

      go : (b : Bool) → eqb (length bytes) 29 ≡ b → (out : Bool) → (o : Outcome (List ℕ)) → read_bare rows (spread 8 bytes) ≡ o
          → pick b (pick out (bad (refusal 11 0)) (answered (λ vals. good (value_of vals)) bad (and_then o (λ vals end. obeying (fault vals) vals end)))) (bad (refusal 1 0)) ≡ good l
          → pick out (denied (refusal 11 0) onto) (written onto (and_then (write_bare rows 232 (numbers_of l)) (λ bs end. obeying (fault (numbers_of l)) bs end))) ≡ accepted bytes
      go true w false (done vals end) r h = kept vals end (eqb-true _ _ w) r (eqb (fault vals) 0) refl h
      go true w false (refused n at i) r h = absurd (bare_refused rows (spread 8 bytes) r (apart (refusal_at n at i) l h))
      go true w true o r h = absurd (let eleven : ◌≡◌ {A = ℕ} 11 0 = apart (refusal 11 0) l h in omega arith)
      go false w out o r h = absurd (let one : ◌≡◌ {A = ℕ} 1 0 = apart (refusal 1 0) l h in omega arith)

  -- A list that was written, read again, is the same value.
  pub listing_write_read : (before after : List ℕ) (l : L) → length (numbers_of l) ≡ slots rows → value_of (numbers_of l) ≡ l
      → write_list fault outside rows (numbers_of l) before ≡ accepted after
      → read_list (λ vals. good (value_of vals)) bad fault outside rows after ≡ good l
  unfolding read_list write_list
  listing_write_read before after l sized back = go (eqb (length before) 29) refl outside
    where
      go : (b : Bool) → eqb (length before) 29 ≡ b → (out : Bool)
          → pick b (pick out (denied (refusal 11 0) before) (written before (and_then (write_bare rows 232 (numbers_of l)) (λ bs end. obeying (fault (numbers_of l)) bs end)))) (denied (refusal 1 0) before) ≡ accepted after
          → pick (eqb (length after) 29) (pick out (bad (refusal 11 0)) (answered (λ vals. good (value_of vals)) bad (and_then (read_bare rows (spread 8 after)) (λ vals end. obeying (fault vals) vals end)))) (bad (refusal 1 0)) ≡ good l
      go true w false h =
          let long : length before ≡ 29 = eqb-true _ _ w in
          let (none, clean) = written_obeying rows (numbers_of l) before after (fault (numbers_of l)) h in
          let again = bare_slots_write_read rows 232 before (rw long) (numbers_of l) after sized clean in
          rw (eq-eqb _ _ (again.2 ∙ long), again.1, eq-eqb _ _ none, back)
      go true w true h = absurd (let eleven : ◌≡◌ {A = ℕ} 11 0 = ap (λ (x : Written). x.answer.number) h in omega arith)
      go false w out h = absurd (let one : ◌≡◌ {A = ℕ} 1 0 = ap (λ (x : Written). x.answer.number) h in omega arith)
