-- Typed values and the slots of their table: where each is a view of the other, the round trips of the rows are round trips of
-- the values and the bytes.
use Prim.Native.Nat.{ℕ, zero, suc, ◌+◌, ◌-◌, ◌*◌, ◌^◌, ◌≤◌, ◌<◌}
use mathlib.Core.List.{List, ◌++◌}
use mathlib.Core.Bool.{Bool, true, false}
use mathlib.Core.Path.{◌≡◌, refl, sym, ap, ◌∙◌}
use native.Mathlib.Omega.{arith}
use lib.ListN.{length, get_or, take, drop, drop_of_length-le, take-append-drop}
use lib.Seq.{drop-cons}
use Rattle.bits.specs.Bits.{cut, spread, zeros}
use Rattle.bits.proofs.Cutting.{length_cut, length-spread, spread_cut, cut-spread, cut_pad}
use Rattle.bits.proofs.Clearing.{length-cleared, spread-cut_pad}
use lib.Dec.{eqb}
use borrow.Author.Tests.{eqb-true, eq-eqb}
use Rattle.rows.specs.Row.{Row, pick}
use Rattle.rows.specs.Walk.{Outcome, done, refused, Content, read, read_bare, write, write_bare, slots}
use Rattle.rows.proofs.RoundTrip.{reading, read_write, writing, write_read, bare_read_write, bare_write_length, bare_write_read}
use Rattle.rows.proofs.Refusing.{write_refused, bare_write_refused}
use Rattle.records.specs.Answer.{Written, refusal, refusal_at, accepted, denied, written, answered, valued, content, read_record, write_record, from, named}
use Rattle.records.specs.Answer.{Answer}

-- The values of a type are named views of a table's slots, as far as those were read from so much room, and of the words of a margin.
pub record View {A : Type 0} (rows : List Row) (room words : ℕ) (numbers_of words_of : A → List ℕ) (value_of : List ℕ → List ℕ → A) : Type 0 where
  pub sized : (a : A) → length (numbers_of a) ≡ slots rows
  pub margins : (a : A) → length (words_of a) ≡ words
  pub back : (a : A) → value_of (numbers_of a) (words_of a) ≡ a
  pub forth : (bs : List Bool) (margin : List ℕ) {c : Content} {end : ℕ} → length bs ≡ room → read rows bs ≡ done c end
      → numbers_of (value_of c.numbers margin) ≡ c.numbers
  pub kept : (vals margin : List ℕ) → length margin ≡ words → words_of (value_of vals margin) ≡ margin

module _ {A : Type 0} (d : A) where
  named_drop : (i n : ℕ) (l : List A) → length l ≡ i + n → named d i n l ≡ drop i l
  named_drop i zero l h = let all : length l ≤ i = omega arith in sym (drop_of_length-le l all)
  named_drop i (suc n) l h = rw (drop-cons l i d (omega arith), named_drop (suc i) n l (omega arith))

  -- A list of n elements is its n elements by name.
  pub named_all : (n : ℕ) (l : List A) → length l ≡ n → named d 0 n l ≡ l
  named_all n l h = named_drop 0 n l (omega arith)

  -- And n elements from i on are those by name.
  pub named_part : (i n : ℕ) (l : List A) → i + n ≤ length l → named d i n l ≡ take n (drop i l)
  named_part i zero l h = refl
  named_part i (suc n) l h = rw (drop-cons l i d (omega arith), named_part (suc i) n l (omega arith))

pub from_all : (n : ℕ) (vals : List ℕ) → length vals ≡ n → from 0 n vals ≡ vals
from_all n vals h = named_all 0 n vals h

-- Bits that were written are all of the bytes.
bytes_written : (bytes onto : List ℕ) (o : Outcome (List Bool)) {end : ℕ} → ((i : ℕ) → get_or bytes i 0 < 2 ^ 8) → length onto ≡ length bytes
    → o ≡ done (spread 8 bytes) end → written onto o ≡ accepted bytes
bytes_written bytes onto o small long e = rw (e, long, cut-spread 8 bytes small)

-- The bits of a writing that was accepted.
record Accepted (before after : List ℕ) (o : Outcome (List Bool)) : Type 0 where
  bits : List Bool
  end : ℕ
  comes : o ≡ done bits end
  all : length bits ≡ 8 * length before → spread 8 after ≡ bits
  long : length after ≡ length before

accepted_bits : (before after : List ℕ) (o : Outcome (List Bool)) → ((n at i : ℕ) → o ≡ refused n at i → n ≡ 0 → ⊥)
    → written before o ≡ accepted after → Accepted before after o
accepted_bits before after o some h = go o refl h
  where
    go : (p : Outcome (List Bool)) → o ≡ p → written before p ≡ accepted after → Accepted before after o
    go (done bs end) e h =
        let bytes : cut 8 8 (length before) bs ≡ after = ap (λ (w : Written). w.bytes) h in
        record {
          bits = bs;
          end = end;
          comes = e;
          all = λ long. rw (← bytes) (spread_cut 8 (length before) bs long);
          long = rw (← bytes) (length_cut 8 8 (length before) bs);
        }
    go (refused n at i) e h = absurd (some n at i e (ap (λ (w : Written). w.answer.number) h))

-- Of a list's numbers: what was read, written onto as many bytes, is the same bytes, and what was written is read again.
module _ (rows : List Row) (room : ℕ) where
  pub bare_slots_read_write : (bytes onto : List ℕ) → 8 * length bytes ≡ room → ((i : ℕ) → get_or bytes i 0 < 2 ^ 8) → length onto ≡ length bytes
      → {vals : List ℕ} {end : ℕ} → read_bare rows (spread 8 bytes) ≡ done vals end
      → written onto (write_bare rows room vals) ≡ accepted bytes
  bare_slots_read_write bytes onto whole small long {vals} h =
      bytes_written bytes onto (write_bare rows room vals) small long (rw (length-spread 8 bytes, whole) at (bare_read_write rows (spread 8 bytes) h))

  pub bare_slots_write_read : (before : List ℕ) → 8 * length before ≡ room → (vals after : List ℕ) → length vals ≡ slots rows
      → written before (write_bare rows room vals) ≡ accepted after
      → (end : ℕ) × (read_bare rows (spread 8 after) ≡ done vals end) × (length after ≡ length before)
  bare_slots_write_read before whole vals after sized h =
      let w = accepted_bits before after (write_bare rows room vals) (λ n at i. bare_write_refused rows room vals) h in
      let bits : spread 8 after ≡ w.bits = w.all (bare_write_length rows room vals sized w.comes ∙ sym whole) in
      (w.end, rw bits (bare_write_read rows room vals sized w.comes), w.long)

-- Of numbers and a margin in so many words, which cover the room.
module _ (rows : List Row) (room words : ℕ) (covers : room ≤ 64 * words) where
  pub slots_read_write : (bytes onto : List ℕ) → 8 * length bytes ≡ room → ((i : ℕ) → get_or bytes i 0 < 2 ^ 8) → length onto ≡ length bytes
      → {c : Content} {end : ℕ} → read rows (spread 8 bytes) ≡ done c end
      → written onto (write rows room (content c.numbers (cut 64 64 words c.margin))) ≡ accepted bytes
  slots_read_write bytes onto whole small long {c} {end} h =
      let bs : List Bool = spread 8 bytes in
      let size : length bs ≡ room = length-spread 8 bytes ∙ whole in
      let r = reading rows bs h in
      let margin : length c.margin ≡ room = ap length r.margin ∙ length-cleared end bs r.inside ∙ size in
      let padded : spread 64 (cut 64 64 words c.margin) ≡ c.margin ++ zeros (64 * words - length c.margin) =
      spread-cut_pad 64 words c.margin (rw margin covers) in
      let again : write rows room (content c.numbers (cut 64 64 words c.margin)) ≡ done bs end =
      rw padded (rw size at (read_write rows bs (64 * words - length c.margin) h)) in
      bytes_written bytes onto (write rows room (content c.numbers (cut 64 64 words c.margin))) small long again

  pub slots_write_read : (before : List ℕ) → 8 * length before ≡ room → (vals margin after : List ℕ) → length vals ≡ slots rows → length margin ≡ words
      → ((i : ℕ) → get_or margin i 0 < 2 ^ 64)
      → written before (write rows room (content vals margin)) ≡ accepted after
      → (c : Content) × (end : ℕ) × (read rows (spread 8 after) ≡ done c end) × (c.numbers ≡ vals) × (cut 64 64 words c.margin ≡ margin)
      × (length after ≡ length before)
  slots_write_read before whole vals margin after sized counted small h =
      let m : List Bool = spread 64 margin in
      let long : room ≤ length m = rw (length-spread 64 margin, counted) covers in
      let a = accepted_bits before after (write rows room (content vals margin)) (λ n at i. write_refused rows room (content vals margin)) h in
      let w = writing rows room (content vals margin) sized long a.comes in
      let bits : spread 8 after ≡ a.bits = a.all (w.sized ∙ sym whole) in
      let parts : take room m ++ zeros (length m - room) ≡ m = ap (λ (l : List Bool). take room m ++ l) (sym w.past) ∙ take-append-drop room m in
      let again : cut 64 64 words (take room m) ≡ margin =
      sym (cut_pad 64 64 words (length m - room) (take room m)) ∙ rw (parts, ← counted) (cut-spread 64 margin small) in (
        record { numbers = vals; margin = take room m },
        a.end,
        rw bits (write_read rows room (content vals margin) sized long a.comes),
        refl,
        again,
        a.long,
      )

module _ {A B : Type 0} (good : A → B) (bad : Answer → B)
    (same : (a b : A) → good a ≡ good b → a ≡ b)
    (apart : (r : Answer) (a : A) → bad r ≡ good a → ⊥)
    {rows : List Row} {numbers_of words_of : A → List ℕ} {value_of : List ℕ → List ℕ → A} (view : View rows 232 4 numbers_of words_of value_of) where
  abbrev good_of : List ℕ → List ℕ → B
  good_of vals margin = good (value_of vals margin)

  -- A record that was read, written onto any record, is the same bytes.
  pub record_read_write : (bytes onto : List ℕ) (a : A) → ((i : ℕ) → get_or bytes i 0 < 2 ^ 8) → length onto ≡ 29
      → read_record good_of bad rows bytes ≡ good a
      → write_record rows (numbers_of a) (words_of a) onto ≡ accepted bytes
  unfolding read_record write_record
  record_read_write bytes onto a small whole h = rw (eq-eqb _ _ whole) (go (eqb (length bytes) 29) refl (read rows (spread 8 bytes)) refl h)
    where
      go : (b : Bool) → eqb (length bytes) 29 ≡ b → (o : Outcome Content) → read rows (spread 8 bytes) ≡ o
          → pick b (answered (valued 4 good_of) bad o) (bad (refusal 1 0)) ≡ good a
          → written onto (write rows 232 (content (numbers_of a) (words_of a))) ≡ accepted bytes
      go true l (done c end) r h =
          let long : length bytes ≡ 29 = eqb-true (length bytes) 29 l in
          let margin : List ℕ = cut 64 64 4 c.margin in
          let value : value_of c.numbers margin ≡ a = same (value_of c.numbers margin) a h in
          let vals : numbers_of a ≡ c.numbers = ap numbers_of (sym value) ∙ view.forth (spread 8 bytes) margin (length-spread 8 bytes ∙ rw long) r in
          let kept : words_of a ≡ margin = ap words_of (sym value) ∙ view.kept c.numbers margin (length_cut 64 64 4 c.margin) in
          rw (vals, kept) (slots_read_write rows 232 4 (omega arith) bytes onto (rw long) small (whole ∙ sym long) r)
      go true l (refused n at i) r h = absurd (apart (refusal_at n at i) a h)
      go false l o r h = absurd (apart (refusal 1 0) a h)

  -- A record that was written, read again, is the same value.
  pub record_write_read : (before after : List ℕ) (a : A) → ((i : ℕ) → get_or (words_of a) i 0 < 2 ^ 64)
      → write_record rows (numbers_of a) (words_of a) before ≡ accepted after
      → read_record good_of bad rows after ≡ good a
  unfolding read_record write_record
  record_write_read before after a small = go (eqb (length before) 29) refl
    where
      go : (b : Bool) → eqb (length before) 29 ≡ b
          → pick b (written before (write rows 232 (content (numbers_of a) (words_of a)))) (denied (refusal 1 0) before) ≡ accepted after
          → pick (eqb (length after) 29) (answered (valued 4 good_of) bad (read rows (spread 8 after))) (bad (refusal 1 0)) ≡ good a
      go true l h =
          let long : length before ≡ 29 = eqb-true (length before) 29 l in
          let (c, end, reads, vals, margin, size) =
          slots_write_read rows 232 4 (omega arith) before (rw long) (numbers_of a) (words_of a) after (view.sized a) (view.margins a) small h in
          rw (eq-eqb _ _ (size ∙ long), reads, vals, margin, view.back a)
      go false l h = absurd (let one : ◌≡◌ {A = ℕ} 1 0 = ap (λ (w : Written). w.answer.number) h in omega arith)
