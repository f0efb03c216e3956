-- The BIP contract record: every string of 29 bytes reads; what was read, written onto any record, is the same bytes; what was written, read
-- again, is the same value. Document 02, Q-4: without exception.
use Prim.Native.Nat.{ℕ, zero, suc, ◌+◌, ◌^◌, ◌≤◌, ◌<◌}
use mathlib.Core.Bool.{Bool, true, false}
use mathlib.Core.List.{List, [], ◌∷◌}
use mathlib.Core.Path.{◌≡◌, refl, sym, ap, ◌∙◌}
use native.Mathlib.Omega.{arith}
use lib.Dec.{eqb}
use lib.ListN.{length, get_or, take, drop, replicate, length-take}
use lib.Pow.{pow_mono}
use borrow.Author.Tests.{eq-eqb, eqb-true}
use Rattle.bits.specs.Bits.{spread, cut, leading}
use Rattle.bits.proofs.Spelling.{number_lt}
use Rattle.bits.proofs.Cutting.{length-spread}
use Rattle.rows.specs.Row.{pick}
use Rattle.rows.specs.Walk.{Outcome, done, refused, Content, numbers, read, write}
use Rattle.rows.proofs.RoundTrip.{reading}
use Rattle.rows.proofs.Margins.{cut_none}
use Rattle.records.specs.Answer.{Answer, Written, refusal, refusal_at, accepted, denied, written, answered, valued, content, read_record, write_record}
use Rattle.records.proofs.Inverse.{slots_read_write, slots_write_read}
use Rattle.records.proofs.Coming.{ComesTo, unwritten, comes_within, record_comes, record_write_comes}
use Rattle.bip.specs.Table.{bip}
use Rattle.bip.specs.Value.{BipRead, numbers_of, bip_of, bip_read, bip_written}
use Rattle.bip.specs.declared.BipContract.{BipContract}
use Rattle.std.specs.Prelude.{Ok, Err}
use Rattle.bip.proofs.Whole.{widths, frame_bip, bip_size, reads_whole}
use Rattle.bip.proofs.Values.{numbers_back, value_back}

same : (a b : BipContract) → ◌≡◌ {A = BipRead} (Ok a) (Ok b) → a ≡ b
same a b h = cc

apart : (r : Answer) (b : BipContract) → Err r ≡ Ok b → ⊥
apart r b h = let z : ◌≡◌ {A = ℕ} 0 1 = cc in omega arith

zeros_small : (i : ℕ) → get_or (replicate 4 0) i 0 < 2 ^ 64
zeros_small zero = omega arith
zeros_small (suc zero) = omega arith
zeros_small (suc (suc zero)) = omega arith
zeros_small (suc (suc (suc zero))) = omega arith
zeros_small (suc (suc (suc (suc i)))) = omega arith

-- A number that stands in a box is less than the power of two of its bits.
numbers_lt : (ws : List ℕ) (bs : List Bool) (i : ℕ) → get_or (numbers ws bs) i 0 < 2 ^ get_or ws i 0
numbers_lt [] bs i = omega arith
numbers_lt (w ∷ ws) bs zero =
    let short : length (take w bs) ≤ w = simp length-take (omega arith) in
    omega (arith, number_lt (take w bs), pow_mono short)
numbers_lt (w ∷ ws) bs (suc i) = numbers_lt ws (drop w bs) i

-- What is known where a record was read: each slot has a number, those of the weekdays and of the tag are of one and two bytes, and
-- nothing is left behind the last field.
record Held (c : Content) : Type 0 where
  sized : length c.numbers ≡ 13
  days : get_or c.numbers 8 0 < 2 ^ 8
  tag : get_or c.numbers 11 0 < 2 ^ 16
  none : cut 64 64 4 c.margin ≡ replicate 4 0

held : (bs : List Bool) {c : Content} {end : ℕ} → length bs ≡ 232 → read bip bs ≡ done c end → Held c
held bs {c} {end} long h =
    let r = reading bip bs h in
    let all = rw (frame_bip c.numbers) at r.held in
    let ends : end ≡ 232 = rw (frame_bip c.numbers) at r.ends in
    record {
      sized = r.sized ∙ bip_size.0;
      days = rw all (numbers_lt widths bs 8);
      tag = rw all (numbers_lt widths bs 11);
      none = rw r.margin (sym (cut_none 64 4 232 end (end + leading (drop end bs)) bs long refl (omega arith)));
    }

-- Every string of 29 bytes reads.
pub bip_reads : (bytes : List ℕ) → length bytes ≡ 29 → (b : BipContract) × (bip_read bytes ≡ Ok b)
unfolding read_record
bip_reads bytes long =
    let w = reads_whole (spread 8 bytes) (length-spread 8 bytes ∙ rw long) in
    (bip_of w.content.numbers, rw (eq-eqb _ _ long, w.comes))

-- Its bytes, written onto any record, are the same bytes.
pub bip_read_write : (bytes onto : List ℕ) (b : BipContract) → ((i : ℕ) → get_or bytes i 0 < 2 ^ 8) → length onto ≡ 29
    → bip_read bytes ≡ Ok b
    → bip_written onto b ≡ accepted bytes
unfolding read_record write_record
bip_read_write bytes onto b small whole h = rw (eq-eqb _ _ whole) (go (eqb (length bytes) 29) refl (read bip (spread 8 bytes)) refl h)
  where
    go : (t : Bool) → eqb (length bytes) 29 ≡ t → (o : Outcome Content) → read bip (spread 8 bytes) ≡ o
        → pick t (answered (valued 4 (λ vals margin. Ok (bip_of vals))) Err o) (Err (refusal 1 0)) ≡ Ok b
        → written onto (write bip 232 (content (numbers_of b) (replicate 4 0))) ≡ accepted bytes
    go true l (done c end) r h =
        let long : length bytes ≡ 29 = eqb-true (length bytes) 29 l in
        let f = held (spread 8 bytes) (length-spread 8 bytes ∙ rw long) r in
        let value : bip_of c.numbers ≡ b = same _ _ h in
        let vals : numbers_of b ≡ c.numbers = ap numbers_of (sym value) ∙ numbers_back c.numbers f.sized f.days in
        ap (λ (margin : List ℕ). written onto (write bip 232 (content (numbers_of b) margin))) (sym f.none)
        ∙ rw vals (slots_read_write bip 232 4 (omega arith) bytes onto (rw long) small (whole ∙ sym long) r)
    go true l (refused n at i) r h = absurd (apart (refusal_at n at i) b h)
    go false l o r h = absurd (apart (refusal 1 0) b h)

-- A record that was written, read again, is the same value.
pub bip_write_read : (before after : List ℕ) (b : BipContract) → bip_written before b ≡ accepted after → bip_read after ≡ Ok b
unfolding read_record write_record
bip_write_read before after b = go (eqb (length before) 29) refl
  where
    go : (t : Bool) → eqb (length before) 29 ≡ t
        → pick t (written before (write bip 232 (content (numbers_of b) (replicate 4 0)))) (denied (refusal 1 0) before) ≡ accepted after
        → pick (eqb (length after) 29) (answered (valued 4 (λ vals margin. Ok (bip_of vals))) Err (read bip (spread 8 after))) (Err (refusal 1 0)) ≡ Ok b
    go true l h =
        let long : length before ≡ 29 = eqb-true (length before) 29 l in
        let (c, end, reads, vals, margin, size) =
        slots_write_read bip 232 4 (omega arith) before (rw long) (numbers_of b) (replicate 4 0) after (sym bip_size.0) refl zeros_small h in
        let after_long : length after ≡ 29 = size ∙ long in
        let f = held (spread 8 after) (length-spread 8 after ∙ rw after_long) reads in
        rw (eq-eqb _ _ after_long, reads, vals, value_back b (rw vals at f.tag))
    go false l h = absurd (let one : ◌≡◌ {A = ℕ} 1 0 = ap (λ (w : Written). w.answer.number) h in omega arith)

-- The refusals of a reading and of a writing.
pub bip_comes : (bytes : List ℕ) → ComesTo Ok Err (1 ∷ []) (bip_read bytes)
unfolding bip
bip_comes bytes = comes_within (record_comes (λ vals margin. bip_of vals) bip bytes) refl

pub bip_write_comes : (before : List ℕ) (b : BipContract) → ComesTo accepted (unwritten before) (1 ∷ 7 ∷ []) (bip_written before b)
unfolding bip
bip_write_comes before b = comes_within (record_write_comes bip (numbers_of b) (replicate 4 0) before) refl
