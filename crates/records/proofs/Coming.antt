-- What operations come to: a value, or a refusal with one of some numbers that leaves the bytes lent to be written as they were.
use Prim.Native.Nat.{ℕ, ◌*◌}
use mathlib.Core.List.{List, [], ◌∷◌}
use mathlib.Core.Bool.{Bool, true, false}
use mathlib.Core.Path.{◌≡◌, refl}
use lib.Dec.{eqb}
use lib.ListN.{length}
use borrow.Author.Tests.{eqb-true, eqb-false}
use Rattle.bits.specs.Bits.{spread}
use Rattle.bits.proofs.Cutting.{length-spread}
use Rattle.rows.specs.Row.{Row, pick, among}
use Rattle.rows.specs.Walk.{Outcome, done, refused, read, read_bare, write}
use Rattle.rows.specs.Refusing.{walk_numbers, bare_numbers, write_numbers, may_name}
use Rattle.rows.proofs.Refusing.{Refusing, Refuses, refuses_behind, within, among_within, read_number, bare_number, write_number}
use Rattle.records.specs.Answer.{Written, refusal, refusal_at, accepted, denied, written, answered, valued, content, read_record, write_record, area_length, read_area, write_area}
use Rattle.records.specs.Answer.{Answer}

-- The answer of a value, or that of a refusal with one of some numbers, which names a field only if it is a field's own.
pub data ComesTo {A B : Type 0} (good : A → B) (bad : Answer → B) (ns : List ℕ) : B → Type 0 where
  fine : (a : A) → ComesTo good bad ns (good a)
  faulty : (r : Answer) → Refusing r.number r.field ns → ComesTo good bad ns (bad r)

-- A writing that is refused: the bytes are as they were.
abbrev pub unwritten : List ℕ → Answer → Written
unwritten before r = denied r before

module _ {A B : Type 0} {good : A → B} {bad : Answer → B} where
  pub comes_within : {ms ns : List ℕ} {b : B} → ComesTo good bad ms b → within ms ns ≡ true → ComesTo good bad ns b
  comes_within (fine a) all = fine a
  comes_within {ms} {ns} (faulty r why) all = faulty r (record { some = why.some; listed = among_within r.number ms ns all why.listed; named = why.named })

  pub either : {ns : List ℕ} {b c : B} (t : Bool) → ComesTo good bad ns b → ComesTo good bad ns c → ComesTo good bad ns (pick t b c)
  either true p q = p
  either false p q = q

  pub stops : {ns : List ℕ} (r : Answer) → eqb r.number 0 ≡ false → among r.number ns ≡ true → may_name r.number r.field ≡ true
      → ComesTo good bad ns (bad r)
  stops r some listed named = faulty r (record { some = eqb-false _ _ some; listed = listed; named = named })

  pub answered_comes : {C : Type 0} (value_of : C → A) {ns : List ℕ} (o : Outcome C) → Refuses ns o
      → ComesTo good bad ns (answered (λ c. good (value_of c)) bad o)
  answered_comes value_of (done c end) why = fine (value_of c)
  answered_comes value_of (refused n at i) why = faulty (refusal_at n at i) why

pub written_comes : (before : List ℕ) {ns : List ℕ} (o : Outcome (List Bool)) → Refuses ns o → ComesTo accepted (unwritten before) ns (written before o)
written_comes before (done bs end) why = fine _
written_comes before (refused n at i) why = faulty (refusal_at n at i) why

-- A table that is read from bytes refuses with its own numbers for so much room.
bytes_number : (rows : List Row) (bytes : List ℕ) {room : ℕ} → 8 * length bytes ≡ room → Refuses (walk_numbers room rows) (read rows (spread 8 bytes))
bytes_number rows bytes long = rw (length-spread 8 bytes, long) at (read_number rows (spread 8 bytes))

pub bare_bytes_number : (rows : List Row) (bytes : List ℕ) {room : ℕ} → 8 * length bytes ≡ room
    → Refuses (bare_numbers room rows) (read_bare rows (spread 8 bytes))
bare_bytes_number rows bytes long = rw (length-spread 8 bytes, long) at (bare_number rows (spread 8 bytes))

-- Reading a record or an area: 1, or the table's own.
module _ {A B : Type 0} {good : A → B} {bad : Answer → B} (value_of : List ℕ → List ℕ → A) (rows : List Row) (bytes : List ℕ) where
  room_comes : (n : ℕ) (t : Bool) (room : ℕ) → (t ≡ true → 8 * length bytes ≡ room)
      → ComesTo good bad (1 ∷ walk_numbers room rows) (pick t (answered (valued n (λ vals margin. good (value_of vals margin))) bad (read rows (spread 8 bytes))) (bad (refusal 1 0)))
  room_comes n true room long =
      answered_comes (valued n value_of) (read rows (spread 8 bytes))
      (refuses_behind (1 ∷ []) (walk_numbers room rows) (read rows (spread 8 bytes)) (bytes_number rows bytes (long refl)))
  room_comes n false room long = stops (refusal 1 0) refl refl refl

  pub record_comes : ComesTo good bad (1 ∷ walk_numbers 232 rows) (read_record (λ vals margin. good (value_of vals margin)) bad rows bytes)
  unfolding read_record
  record_comes = room_comes 4 (eqb (length bytes) 29) 232 (λ e. rw (eqb-true (length bytes) 29 e))

  pub area_comes : ComesTo good bad (1 ∷ walk_numbers (8 * length bytes) rows) (read_area (λ vals margin. good (value_of vals margin)) bad rows bytes)
  unfolding read_area
  area_comes = room_comes 15 (area_length (length bytes)) (8 * length bytes) (λ e. refl)

-- Writing one likewise.
module _ (rows : List Row) (vals margin before : List ℕ) where
  onto_comes : (t : Bool) (room : ℕ)
      → ComesTo accepted (unwritten before) (1 ∷ write_numbers room rows)
      (pick t (written before (write rows room (content vals margin))) (denied (refusal 1 0) before))
  onto_comes t room =
      either t
      (written_comes before (write rows room (content vals margin))
      (refuses_behind (1 ∷ []) (write_numbers room rows) (write rows room (content vals margin)) (write_number rows room (content vals margin))))
      (stops (refusal 1 0) refl refl refl)

  pub record_write_comes : ComesTo accepted (unwritten before) (1 ∷ write_numbers 232 rows) (write_record rows vals margin before)
  unfolding write_record
  record_write_comes = onto_comes (eqb (length before) 29) 232

  pub area_write_comes : ComesTo accepted (unwritten before) (1 ∷ write_numbers (8 * length before) rows) (write_area rows vals margin before)
  unfolding write_area
  area_write_comes = onto_comes (area_length (length before)) (8 * length before)

-- A writing whose number is 0 was accepted, and with any other the bytes are as they were.
pub written_taken : (before : List ℕ) {ns : List ℕ} {w : Written} → ComesTo accepted (unwritten before) ns w → w.answer.number ≡ 0 → w ≡ accepted w.bytes
written_taken before (fine bytes) z = refl
written_taken before (faulty r why) z = absurd (why.some z)

pub written_kept : (before : List ℕ) {ns : List ℕ} {w : Written} → ComesTo accepted (unwritten before) ns w → (w.answer.number ≡ 0 → ⊥) → w.bytes ≡ before
written_kept before (fine bytes) some = absurd (some refl)
written_kept before (faulty r why) some = refl
