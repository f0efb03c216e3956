-- From a line of takes or puts over the words of a record or an area to the answer about its bytes.
use Prim.Native.Nat.{ℕ, ◌-◌, ◌*◌, ◌^◌, ◌≤◌, ◌<◌}
use mathlib.Core.List.{List, []}
use mathlib.Core.Bool.{Bool, true, false}
use mathlib.Core.Path.{◌≡◌, refl, sym, ap, ◌∙◌}
use native.Mathlib.Omega.{arith}
use Rattle.std.specs.Prelude.{◌≢◌}
use lib.Dec.{eqb}
use lib.ListN.{length}
use borrow.Author.Tests.{eq-eqb, ne_eqb, eqb-true, eqb-false}
use Rattle.bits.specs.Bits.{cut, spread, cleared}
use Rattle.bits.proofs.Cutting.{length_cut, length-spread}
use Rattle.rows.specs.Row.{Row, pick}
use Rattle.rows.specs.Walk.{done, refused, holding, read, write, slots}
use Rattle.rows.specs.Inner.Step.{Kept, Packed}
use Rattle.rows.specs.Inner.Line.{start, Taken, Puts, tells}
use Rattle.rows.specs.Inner.Standing.{Standing}
use Rattle.rows.proofs.Running.{takes_read, puts_walk, puts_refused, puts_kept}
use Rattle.records.specs.declared.Refusal.{Refusal}
use Rattle.rows.specs.Why.{number_of}
use Rattle.rows.proofs.Stepping.{numbered}
use Rattle.records.specs.Answer.{as_answer, refusal, refusal_at, denied, written, answered, valued, content, read_record, write_record, area_length, read_area, write_area}
use Rattle.records.specs.Inner.Met.{met}
use Rattle.records.specs.Answer.{Answer}

-- The words of a record are eight.
pub eight_words : (bytes words : List ℕ) → words ≡ cut 32 64 8 (spread 8 bytes) → 8 ≡ length words
eight_words bytes words cuts = sym (ap length cuts ∙ length_cut 32 64 8 (spread 8 bytes))

pub all_words : (bytes words : List ℕ) → words ≡ cut 32 64 8 (spread 8 bytes) → words ≡ cut 32 64 (length words) (spread 8 bytes)
all_words bytes words cuts = rw (← eight_words bytes words cuts) cuts

-- What was met, as code tells it: nothing, so that there was no refusal, or one.
pub answer_none : (n at i : ℕ) → refusal 0 0 ≡ pick (eqb n 0) (refusal 0 0) (refusal_at n at i) → n ≡ 0
answer_none n at i e = go (eqb n 0) refl (ap (λ (a : Answer). a.number) e)
  where
    go : (b : Bool) → eqb n 0 ≡ b → 0 ≡ (pick b (refusal 0 0) (refusal_at n at i)).number → n ≡ 0
    go true h z = eqb-true _ _ h
    go false h z = sym z

pub answer_one : (r : Refusal) (n at i : ℕ) → as_answer r ≡ pick (eqb n 0) (refusal 0 0) (refusal_at n at i) → n ≢ 0
answer_one r n at i e = go (eqb n 0) refl (ap (λ (a : Answer). a.number) e)
  where
    go : (b : Bool) → eqb n 0 ≡ b → number_of r.why ≡ (pick b (refusal 0 0) (refusal_at n at i)).number → n ≢ 0
    go true h z = absurd (numbered r.why z)
    go false h z = eqb-false _ _ h

pub met_none : (d : Standing) → refusal 0 0 ≡ met d → d.why ≡ 0
met_none d e = answer_none d.why d.at (d.field - 1) e

pub met_one : (r : Refusal) (d : Standing) → as_answer r ≡ met d → d.why ≢ 0
met_one r d e = answer_one r d.why d.at (d.field - 1) e

module _ {A : Type 0} (good : List ℕ → List ℕ → A) (bad : Answer → A) (rows : List Row) (bytes words all : List ℕ) (d : Standing) where
  module _ {room : ℕ} (n : ℕ) (few : length rows < 2 ^ 32) (long : 8 * length bytes ≡ room)
      (cuts : words ≡ cut 32 64 (length words) (spread 8 bytes))
      (taken : Taken words room rows [] start all d) where
    says : answered (valued n good) bad (read rows (spread 8 bytes)) ≡ answered (valued n good) bad (tells d (holding (spread 8 bytes) all d.at))
    says = ap (answered (valued n good) bad) (takes_read words room (spread 8 bytes) (length-spread 8 bytes ∙ long) cuts rows all d few taken.takes)

    says_read : {margin : List ℕ} → d.why ≡ 0 → margin ≡ cut 64 64 n (cleared d.at (spread 8 bytes))
        → answered (valued n good) bad (read rows (spread 8 bytes)) ≡ good all margin
    says_read ok left = says ∙ rw (eq-eqb _ _ ok) (ap (good all) (sym left))

    says_refused : (d.why ≡ 0 → ⊥) → answered (valued n good) bad (read rows (spread 8 bytes)) ≡ bad (met d)
    says_refused why = says ∙ rw (ne_eqb _ _ why)

  module _ (few : length rows < 2 ^ 32)
      (whole : length bytes ≡ 29)
      (cuts : words ≡ cut 32 64 8 (spread 8 bytes))
      (taken : Taken words 232 rows [] start all d) where
    pub record_read : {margin : List ℕ} → d.why ≡ 0 → margin ≡ cut 64 64 4 (cleared d.at (spread 8 bytes)) → good all margin ≡ read_record good bad rows bytes
    unfolding read_record
    record_read ok left = rw (eq-eqb _ _ whole) (sym (says_read 4 few (rw whole) (all_words bytes words cuts) taken ok left))

    pub record_refused : (d.why ≡ 0 → ⊥) → bad (met d) ≡ read_record good bad rows bytes
    unfolding read_record
    record_refused why = rw (eq-eqb _ _ whole) (sym (says_refused 4 few (rw whole) (all_words bytes words cuts) taken why))

  module _ (few : length rows < 2 ^ 32)
      (whole : area_length (length bytes) ≡ true)
      (cuts : words ≡ cut 32 64 (length words) (spread 8 bytes))
      (taken : Taken words (8 * length bytes) rows [] start all d) where
    pub area_read : {margin : List ℕ} → d.why ≡ 0 → margin ≡ cut 64 64 15 (cleared d.at (spread 8 bytes)) → good all margin ≡ read_area good bad rows bytes
    unfolding read_area
    area_read ok left = rw whole (sym (says_read 15 few refl cuts taken ok left))

    pub area_refused : (d.why ≡ 0 → ⊥) → bad (met d) ≡ read_area good bad rows bytes
    unfolding read_area
    area_refused why = rw whole (sym (says_refused 15 few refl cuts taken why))

pub record_short : {A : Type 0} (good : List ℕ → List ℕ → A) (bad : Answer → A) (rows : List Row) (bytes : List ℕ)
    → (length bytes ≡ 29 → ⊥)
    → bad (refusal 1 0) ≡ read_record good bad rows bytes
unfolding read_record
record_short good bad rows bytes short = rw (ne_eqb _ _ short)

pub area_short : {A : Type 0} (good : List ℕ → List ℕ → A) (bad : Answer → A) (rows : List Row) (bytes : List ℕ)
    → area_length (length bytes) ≡ false
    → bad (refusal 1 0) ≡ read_area good bad rows bytes
unfolding read_area
area_short good bad rows bytes short = rw short

-- An area is at most 928 bits.
pub area_room : (n : ℕ) → area_length n ≡ true → n ≤ 116
unfolding area_length
area_room n = go (eqb n 29) refl (eqb n 58) refl (eqb n 87) refl
  where
    go : (a : Bool) → eqb n 29 ≡ a → (b : Bool) → eqb n 58 ≡ b → (c : Bool) → eqb n 87 ≡ c
        → pick a true (pick b true (pick c true (eqb n 116))) ≡ true
        → n ≤ 116
    go true h b _ c _ _ = let e : n ≡ 29 = eqb-true n 29 h in omega arith
    go false _ true h c _ _ = let e : n ≡ 58 = eqb-true n 58 h in omega arith
    go false _ false _ true h _ = let e : n ≡ 87 = eqb-true n 87 h in omega arith
    go false _ false _ false _ h = let e : n ≡ 116 = eqb-true n 116 h in omega arith

-- What the end of a writing leaves in the bytes, and the answer: of a draft that has the bits written where the cursor met nothing.
pub packed_answer : (xs ys before after : List ℕ) (c : Standing) (bits : List Bool)
    → Packed ys c before after
    → (c.why ≡ 0 → ys ≡ cut 32 32 (length xs) bits)
    → written before (tells c bits) ≡ record { answer = met c; bytes = after }
packed_answer xs ys before after c bits packed drawn = go (eqb c.why 0) refl
  where
    go : (b : Bool) → eqb c.why 0 ≡ b
        → written before (pick b (done bits c.at) (refused c.why c.at (c.field - 1)))
        ≡ record { answer = pick b (refusal 0 0) (refusal_at c.why c.at (c.field - 1)); bytes = after }
    go true e =
        let ok : c.why ≡ 0 = eqb-true _ _ e in
        let long : length ys ≡ length xs = ap length (drawn ok) ∙ length_cut 32 32 (length xs) bits in
        let bytes : after ≡ cut 8 8 (length before) bits = packed.written ok bits (rw long (drawn ok)) in
        rw (← bytes)
    go false e = rw (packed.kept (eqb-false _ _ e))

module _ (rows : List Row) (vals margin xs all ys before : List ℕ) (d : Standing) (few : length rows < 2 ^ 32)
    (sized : length vals ≡ slots rows)
    (empty : xs ≡ cut 32 32 (length xs) []) where
  -- A writing that is refused at a field leaves the bytes,
  says_unput : {room : ℕ} → Puts room vals rows [] xs start all ys d → (d.why ≡ 0 → ⊥)
      → written before (write rows room (content vals margin)) ≡ denied (met d) before
  says_unput {room} puts why =
      let w = puts_walk room rows vals xs all ys d few sized empty puts in
      ap (written before) (puts_refused room rows vals xs ys (spread 64 margin) d w why) ∙ rw (ne_eqb _ _ why)

  pub record_unput : length before ≡ 29 → Puts 232 vals rows [] xs start all ys d → (d.why ≡ 0 → ⊥)
      → denied (met d) before ≡ write_record rows vals margin before
  unfolding write_record
  record_unput whole puts why = rw (eq-eqb _ _ whole) (sym (says_unput puts why))

  pub area_unput : area_length (length before) ≡ true → Puts (8 * length before) vals rows [] xs start all ys d → (d.why ≡ 0 → ⊥)
      → denied (met d) before ≡ write_area rows vals margin before
  unfolding write_area
  area_unput whole puts why = rw whole (sym (says_unput puts why))

  -- and one that comes to its end gives what the margin's put gives.
  module _ (zs after : List ℕ) (e : Standing) (ok : d.why ≡ 0) (packed : Packed zs e before after) where
    says_written : {room : ℕ} → Puts room vals rows [] xs start all ys d → Kept ys zs room d (spread 64 margin) e
        → written before (write rows room (content vals margin)) ≡ record { answer = met e; bytes = after }
    says_written {room} puts kept =
        let w = puts_walk room rows vals xs all ys d few sized empty puts in
        let (says, drawn) = puts_kept room rows vals xs ys zs (spread 64 margin) d e w ok kept in
        ap (written before) says ∙ packed_answer xs zs before after e _ packed drawn

    pub record_written : length before ≡ 29 → Puts 232 vals rows [] xs start all ys d → Kept ys zs 232 d (spread 64 margin) e
        → record { answer = met e; bytes = after } ≡ write_record rows vals margin before
    unfolding write_record
    record_written whole puts kept = rw (eq-eqb _ _ whole) (sym (says_written puts kept))

    pub area_written : area_length (length before) ≡ true → Puts (8 * length before) vals rows [] xs start all ys d
        → Kept ys zs (8 * length before) d (spread 64 margin) e
        → record { answer = met e; bytes = after } ≡ write_area rows vals margin before
    unfolding write_area
    area_written whole puts kept = rw whole (sym (says_written puts kept))

pub record_unwritten : (rows : List Row) (vals margin before : List ℕ) → (length before ≡ 29 → ⊥)
    → denied (refusal 1 0) before ≡ write_record rows vals margin before
unfolding write_record
record_unwritten rows vals margin before short = rw (ne_eqb _ _ short)

pub area_unwritten : (rows : List Row) (vals margin before : List ℕ) → area_length (length before) ≡ false
    → denied (refusal 1 0) before ≡ write_area rows vals margin before
unfolding write_area
area_unwritten rows vals margin before short = rw short
