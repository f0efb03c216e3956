-- A change of priority alters the four bits of that one priority, and nothing else.
use Prim.Native.Nat.{ℕ, ◌≤◌}
use mathlib.Core.Bool.{Bool, true, false, ◌||◌}
use mathlib.Core.List.{List, [], ◌∷◌}
use mathlib.Core.Path.{◌≡◌, refl, sym, ap, ◌∙◌}
use mathlib.Core.Logic.{◌⊎◌, inl, inr, ⊎_elim}
use native.Mathlib.Omega.{arith}
use lib.Dec.{eqb, ltb}
use lib.ListN.{length}
use borrow.Author.Tests.{eqb-false, eq-eqb, ne_eqb, ltb-false, le-ltb}
use Rattle.bits.specs.Bits.{cut, spread}
use Rattle.bits.proofs.Cutting.{spread_cut}
use Rattle.rows.specs.Row.{pick}
use Rattle.rows.specs.Change.{with_box}
use Rattle.rows.proofs.Refusing.{Refusing}
use Rattle.records.specs.Answer.{Written, refusal, accepted, denied}
use Rattle.records.specs.Answer.{Answer}
use Rattle.records.proofs.Coming.{ComesTo, fine, faulty, unwritten, written_kept}
use Rattle.lists.specs.List.{got_list, no_list, list_read, list_written}
use Rattle.lists.specs.Entries.{attempted, with_priority, priority_place}
use Rattle.lists.specs.declared.list.ContractList.{ContractList}
use Rattle.lists.specs.List.{ListRead}
use Rattle.lists.proofs.list.Laws.{list_write_read, list_comes}
use Rattle.lists.proofs.Entries.{length_with_priority}
use Rattle.lists.proofs.Kept.{list_kept, list_was_read}
use Rattle.lists.proofs.Recoding.{list_recoded}
use Rattle.selection.specs.Selection.{changing, changed, settled}

-- A change that may be made: the list reads, has the position, and the code is a priority.
pub record MayChange (before : List ℕ) (n counters position code : ℕ) : Type 0 where
  pub l : ContractList
  pub reading : list_read n counters before ≡ got_list l
  pub low : 1 ≤ position
  pub high : position ≤ l.count
  pub fits : code ≤ 15
  pub defined : code ≡ 13 → ⊥

-- It is made: only the four bits change.
pub four_bits : {before : List ℕ} {n counters position code : ℕ} (m : MayChange before n counters position code)
    → changing before n counters position code ≡ accepted (cut 8 8 (length before) (with_box (priority_place n m.l position) 4 code (spread 8 before)))
unfolding changing
four_bits {before} {n} {counters} {position} {code} m =
    let long = (list_was_read n counters before m.l m.reading).long in
    let low = m.low in
    let other : eqb position 0 ≡ false = ne_eqb position 0 (λ e. omega arith) in
    rw (eq-eqb _ _ long, other, ne_eqb _ _ m.defined, le-ltb _ _ m.fits, m.reading, le-ltb _ _ m.high)
    (list_recoded n counters before m.l position code m.reading m.low m.high m.fits m.defined).0

-- Afterwards the record reads as the old list with that one priority changed.
pub reads_changed : {before : List ℕ} {n counters position code : ℕ} (m : MayChange before n counters position code)
    → list_read n counters (changing before n counters position code).bytes ≡ got_list (with_priority counters position code m.l)
reads_changed {before} {n} {counters} {position} {code} m =
    let list = (list_recoded n counters before m.l position code m.reading m.low m.high m.fits m.defined).0 in
    let eight : length (with_priority counters position code m.l).entries ≡ 8 = length_with_priority counters position code m.l ∙ (list_kept n counters before m.l m.reading).eight in
    rw (four_bits m) (list_write_read n counters before _ (with_priority counters position code m.l) eight list)

-- Bit for bit: those of the record afterwards.
pub bits_changed : {before : List ℕ} {n counters position code : ℕ} (m : MayChange before n counters position code)
    → spread 8 (changing before n counters position code).bytes ≡ with_box (priority_place n m.l position) 4 code (spread 8 before)
bits_changed {before} {n} {counters} {position} {code} m =
    rw (four_bits m)
    (spread_cut 8 (length before) _ (list_recoded n counters before m.l position code m.reading m.low m.high m.fits m.defined).1)

-- A change may be made, or is refused with one of these numbers and changes nothing.
may_change : (before : List ℕ) (n counters position code : ℕ)
    → MayChange before n counters position code
    ⊎ ((r : Answer) × Refusing r.number r.field (1 ∷ 11 ∷ 2 ∷ 4 ∷ 5 ∷ 6 ∷ []) × (changing before n counters position code ≡ unwritten before r))
unfolding changing
may_change before n counters position code =
    go (eqb (length before) 29) (eqb position 0) refl (eqb code 13) refl (ltb 15 code) refl refl (list_comes n counters before)
  where
    Judged : Written → Type 0
    Judged w = MayChange before n counters position code ⊎ ((r : Answer) × Refusing r.number r.field (1 ∷ 11 ∷ 2 ∷ 4 ∷ 5 ∷ 6 ∷ []) × (w ≡ unwritten before r))

    eleven : Judged (denied (refusal 11 0) before)
    eleven = inr (refusal 11 0, record { some = λ z. omega arith; listed = refl; named = refl }, refl)

    counted : (l : ContractList) → list_read n counters before ≡ got_list l → eqb position 0 ≡ false → eqb code 13 ≡ false → ltb 15 code ≡ false
        → (t : Bool) → ltb l.count position ≡ t
        → Judged (pick t (denied (refusal 11 0) before) (list_written n counters (with_priority counters position code l) before))
    counted l same b c d true e = eleven
    counted l same b c d false e =
        let other : position ≡ 0 → ⊥ = eqb-false _ _ b in
        inl (record { l = l; reading = same; low = omega arith; high = ltb-false _ _ e; fits = ltb-false _ _ d; defined = eqb-false _ _ c })

    go : (a b : Bool) → eqb position 0 ≡ b → (c : Bool) → eqb code 13 ≡ c → (d : Bool) → ltb 15 code ≡ d
        → {r : ListRead} → list_read n counters before ≡ r → ComesTo got_list no_list (1 ∷ 11 ∷ 2 ∷ 4 ∷ 5 ∷ 6 ∷ []) r
        → Judged (pick a (pick (b || c || d) (denied (refusal 11 0) before) (settled before (changed n counters position code before) (attempted r))) (denied (refusal 1 0) before))
    go false b eb c ec d ed is told = inr (refusal 1 0, record { some = λ z. omega arith; listed = refl; named = refl }, refl)
    go true true eb c ec d ed is told = eleven
    go true false eb true ec d ed is told = eleven
    go true false eb false ec true ed is told = eleven
    go true false eb false ec false ed is (fine l) = counted l is eb ec ed (ltb l.count position) refl
    go true false eb false ec false ed is (faulty r why) = inr (r, why, rw (ne_eqb _ _ why.some))

-- Every change that is accepted is such a one.
pub accepted_change : (before : List ℕ) (n counters position code : ℕ) → (changing before n counters position code).answer.number ≡ 0 → MayChange before n counters position code
accepted_change before n counters position code zero =
    ⊎_elim (λ m. m) (λ x. absurd (x.1.some (sym (ap (λ (w : Written). w.answer.number) x.2) ∙ zero))) (may_change before n counters position code)

-- The refusals of a change.
pub change_comes : (before : List ℕ) (n counters position code : ℕ)
    → ComesTo accepted (unwritten before) (1 ∷ 11 ∷ 2 ∷ 4 ∷ 5 ∷ 6 ∷ []) (changing before n counters position code)
change_comes before n counters position code =
    ⊎_elim (λ (m : MayChange before n counters position code). rw (four_bits m) (fine _)) (λ x. rw x.2 (faulty x.0 x.1))
    (may_change before n counters position code)

-- Refused, the bytes are as they were.
pub refused_unchanged : (before : List ℕ) (n counters position code : ℕ) → ((changing before n counters position code).answer.number ≡ 0 → ⊥)
    → (changing before n counters position code).bytes ≡ before
refused_unchanged before n counters position code = written_kept before (change_comes before n counters position code)
