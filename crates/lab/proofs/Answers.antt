-- From a run of the second reader to the answer about a record, an area or a list.
use Rattle.std.proofs.Common.{Option, None, Some, is_some, Result, Ok, Err, ◌≡◌, ◌≢◌, ℕ, zero, suc, ◌+◌, ◌-◌, ◌*◌, ◌^◌, ◌<◌, ◌≤◌, Bool, true, false, List, [], length, take, drop, refl, ap, ◌∙◌, arith, length-drop, length-take-le, drop-cons, take-take, eq-eqb, ne_eqb, eqb}
use Rattle.bits.specs.Bits.{spread, cut, cleared, leading}
use Rattle.bits.proofs.Cutting.{length-spread}
use Rattle.rows.specs.Row.{Row, pick}
use Rattle.rows.specs.Walk.{Outcome, done, refused, and_then, walk, boxes_at, holding, blank, read, read_bare, slots}
use Rattle.rows.proofs.Naming.{read_names}
use Rattle.rows.specs.Inner.Standing.{why_of}
use Rattle.rows.specs.declared.Why.{Why}
use Rattle.lab.specs.Machine.{begun, run}
use Rattle.lab.specs.Inner.Reading.{met, Fits, said, read_with}
use Rattle.lab.specs.Machine.{Reader}
use Rattle.lab.proofs.Following.{outcome, followed}
use Rattle.lab.proofs.Running.{length_cleared}
use Rattle.lab.specs.Machine.{reader}
use Rattle.lab.specs.declared.state.State.{State}
use Rattle.records.proofs.Telling.{why_one}
use Rattle.records.proofs.Answering.{answer_none, answer_one}
use Rattle.records.specs.declared.Refusal.{Refusal}
use Rattle.records.specs.Answer.{as_answer, refusal, refusal_at, heard, answered, valued, from, read_record, area_length, read_area}
use Rattle.lists.specs.Listing.{obeying, read_list}
use Rattle.records.specs.Answer.{Answer}

pub unmet : (w : Option Why) → is_some w ≡ false → why_of w ≡ 0
unmet None e = refl
unmet (Some w) e = cc

-- A state in code is told whole by the reader's state.
pub state_one : (s t : State) → reader s ≡ reader t → s ≡ t
state_one s t same =
    let why = why_one s.why t.why (ap (λ (r : Reader). r.why) same) in
    λ i. record {
      room = (same i).room;
      most = (same i).most;
      at = (same i).at;
      why = why i;
      row = (same i).row;
      start = (same i).start;
      first = (same i).first;
      numbers = (same i).numbers;
    }

-- What a state met.
pub met_none : (s : Reader) → refusal 0 0 ≡ met s → s.why ≡ 0
met_none s e = answer_none s.why s.start s.row e

pub met_one : (r : Refusal) (s : Reader) → as_answer r ≡ met s → s.why ≢ 0
met_one r s e = answer_one r s.why s.start s.row e

-- The first numbers, by name.
front_from : (l : List ℕ) (i n : ℕ) → i + n ≤ length l → from i n l ≡ take n (drop i l)
front_from l i zero h = refl
front_from l i (suc n) h =
    let rest : suc i + n ≤ length l = omega arith in
    rw (drop-cons l i 0 (omega arith), front_from l (suc i) n rest)

-- The reading of a list, before its rule.
abbrev bare_of : List Row → List ℕ → Result (List ℕ) Answer
bare_of rows bytes = answered Ok Err (read_bare rows (spread 8 bytes))

module _ (rows : List Row) (most : ℕ) (bytes : List ℕ) (n : ℕ) (s : Reader) (fits : Fits rows (length bytes) n)
    (runs : s ≡ run rows (begun rows most (8 * length bytes)) (spread 8 bytes)) where
  -- The last state tells the walk.
  tells : outcome (slots rows) s ≡ walk (length (spread 8 bytes)) (boxes_at (spread 8 bytes)) rows 0 [] 0
  tells =
      let long : length (spread 8 bytes) ≡ 8 * length bytes = length-spread 8 bytes in
      rw runs
      (rw (← long)
      (followed most rows (spread 8 bytes) (slots rows) (omega (arith, fits.few, fits.count)) refl (rw long fits.fits)))

  -- Read, or refused.
  pub tells_read : s.why ≡ 0 → read rows (spread 8 bytes) ≡ done (holding (spread 8 bytes) (take (slots rows) s.numbers) s.start) s.start
  unfolding read
  tells_read ok = rw (← tells, eq-eqb _ _ ok)

  pub tells_refused : (s.why ≡ 0 → ⊥) → read rows (spread 8 bytes) ≡ refused s.why s.start s.row
  unfolding read
  tells_refused why = rw (← tells, ne_eqb _ _ why)

  -- The row at fault is one of the table's.
  pub row_low : (s.why ≡ 0 → ⊥) → s.row < 2 ^ 32
  row_low why =
      let names = read_names rows (spread 8 bytes) s.why s.start s.row (tells_refused why) in
      let left : length (drop names.before rows) ≡ suc (length names.behind) = ap length names.own in
      let rank : s.row ≡ 0 + names.before = names.rank in
      let low : length rows < 2 ^ 32 = fits.low in
      let past : length (drop names.before rows) ≡ length rows - names.before = length-drop names.before rows in
      omega arith

  -- The first numbers of a state, where more were copied.
  firsts : {numbers : List ℕ} → n ≤ length s.numbers → numbers ≡ take n s.numbers → from 0 (slots rows) numbers ≡ take (slots rows) s.numbers
  firsts {numbers} wide same =
      let all : length (take n s.numbers) ≡ n = length-take-le n s.numbers wide in
      let inside : 0 + slots rows ≤ length (take n s.numbers) = omega (arith, fits.count) in
      rw same (front_from (take n s.numbers) 0 (slots rows) inside) ∙ take-take (slots rows) n s.numbers fits.count

  module _ (r : Refusal) (one : as_answer r ≡ met s) where
    at_fault : s.why ≡ 0 → ⊥
    at_fault = met_one r s one

    -- Refused, this is what a reading with a margin says,
    pub with_refused : (k words : ℕ) → said k (Err r) ≡ read_with words rows bytes
    with_refused k words = rw (tells_refused at_fault, one, ne_eqb _ _ at_fault)

    -- and a list's.
    pub bare_refused : Err (as_answer r) ≡ bare_of rows bytes
    unfolding read_bare
    bare_refused = rw (tells_refused at_fault, one, ne_eqb _ _ at_fault)

  module _ (none : refusal 0 0 ≡ met s) where
    -- Read, this is what one with a margin says,
    pub with_all : (words : ℕ) {numbers margin : List ℕ} → n ≤ length s.numbers → numbers ≡ take n s.numbers
        → margin ≡ cut 64 64 words (cleared s.start (spread 8 bytes)) → said (slots rows) (Ok (numbers, margin)) ≡ read_with words rows bytes
    with_all words wide same left = rw (tells_read (met_none s none), left, firsts wide same)

    -- and a list's: 5 at the first one behind it.
    pub bare_five : (one : ℕ) → one ≡ leading (cleared s.start (spread 8 bytes)) → one < 8 * length bytes
        → Err (refusal_at 5 one 0) ≡ bare_of rows bytes
    unfolding read_bare blank
    bare_five one first inside =
        let long = length_cleared s.start bytes in
        let short : leading (cleared s.start (spread 8 bytes)) ≡ length (cleared s.start (spread 8 bytes)) → ⊥ = λ h. omega arith in
        rw (tells_read (met_none s none), ne_eqb _ _ short, first)

    pub bare_all : {numbers : List ℕ} → leading (cleared s.start (spread 8 bytes)) ≡ length (cleared s.start (spread 8 bytes))
        → slots rows ≡ n → numbers ≡ take n s.numbers → Ok numbers ≡ bare_of rows bytes
    unfolding read_bare blank
    bare_all all exact same = rw (tells_read (met_none s none), eq-eqb _ _ all, same, exact)

-- An answer made of what a reading said, and a value made of numbers and a margin.
abbrev pub made : {V A : Type 0} → (V → A) → (Answer → A) → Result V Answer → A
made good bad (Ok v) = good v
made good bad (Err r) = bad r

abbrev pub paired : {A : Type 0} → (List ℕ → List ℕ → A) → List ℕ × List ℕ → A
paired good got = good got.0 got.1

made_answered : {V W A : Type 0} (f : V → W) (good : W → A) (bad : Answer → A) (o : Outcome V)
    → made good bad (answered (λ v. Ok (f v)) Err o) ≡ answered (λ v. good (f v)) bad o
made_answered f good bad (done a end) = refl
made_answered f good bad (refused n at i) = refl

-- The answers that readings come to, of rows that are a table of n slots.
module _ {A : Type 0} {rows laid : List Row} (bytes : List ℕ) (n : ℕ) (table : laid ≡ rows) (count : slots rows ≡ n)
    (good : List ℕ → List ℕ → A) (bad : Answer → A) (got : Result (List ℕ × List ℕ) Refusal) where
  answers : (words : ℕ) → said (slots laid) got ≡ read_with words laid bytes
      → made (paired good) bad (said n got) ≡ answered (valued words good) bad (read rows (spread 8 bytes))
  answers words says =
      ap (made (paired good) bad) (rw (table, count) at says)
      ∙ made_answered (valued words (λ vals margin. (vals, margin))) (paired good) bad (read rows (spread 8 bytes))

  -- Of a record,
  pub record_answers : length bytes ≡ 29 → said (slots laid) got ≡ read_with 4 laid bytes
      → made (paired good) bad (said n got) ≡ read_record good bad rows bytes
  unfolding read_record
  record_answers whole says = rw (eq-eqb _ _ whole) (answers 4 says)

  -- and of an area.
  pub area_answers : area_length (length bytes) ≡ true → said (slots laid) got ≡ read_with 15 laid bytes
      → made (paired good) bad (said n got) ≡ read_area good bad rows bytes
  unfolding read_area
  area_answers whole says = rw whole (answers 15 says)

-- The answer that the reading of a list comes to.
pub list_answers : {A : Type 0} {rows laid : List Row} (bytes : List ℕ) {outside : Bool} (good : List ℕ → A) (bad : Answer → A) (fault : List ℕ → ℕ)
    (got : Result (List ℕ) Refusal) → laid ≡ rows → length bytes ≡ 29 → outside ≡ false
    → heard got ≡ read_list Ok Err fault false laid bytes → made good bad (heard got) ≡ read_list good bad fault outside rows bytes
unfolding read_list
list_answers {rows} bytes good bad fault got table whole inside says =
    rw (eq-eqb _ _ whole, inside)
    (ap (made good bad) (rw (table, eq-eqb _ _ whole) at says)
    ∙ made_answered (λ (v : List ℕ). v) good bad (and_then (read_bare rows (spread 8 bytes)) (λ vals end. obeying (fault vals) vals end)))

-- A list is held to its rule behind its reading.
abbrev pub held : (List ℕ → ℕ) → Result (List ℕ) Answer → Result (List ℕ) Answer
held fault = made (λ (vals : List ℕ). pick (eqb (fault vals) 0) (Ok vals) (Err (refusal_at 6 (fault vals) 0))) Err

pub listed_answers : (rows : List Row) (bytes : List ℕ) (fault : List ℕ → ℕ) (says : Result (List ℕ) Answer)
    → length bytes ≡ 29 → says ≡ bare_of rows bytes → held fault says ≡ read_list Ok Err fault false rows bytes
unfolding read_list
listed_answers rows bytes fault says whole e = rw (eq-eqb _ _ whole) (ap (held fault) e ∙ go (read_bare rows (spread 8 bytes)))
  where
    choose : (b : Bool) (vals : List ℕ) (end : ℕ) → pick b (Ok vals) (Err (refusal_at 6 (fault vals) 0)) ≡ answered Ok Err (pick b (done vals end) (refused 6 (fault vals) 0))
    choose true vals end = refl
    choose false vals end = refl

    go : (o : Outcome (List ℕ)) → held fault (answered Ok Err o) ≡ answered Ok Err (and_then o (λ vals end. obeying (fault vals) vals end))
    go (done vals end) = choose (eqb (fault vals) 0) vals end
    go (refused n at i) = refl
