-- Holder: what was read, written onto as many bytes, is the same bytes; what was written, read again, is the same value.
use Prim.Native.Nat.{ℕ, ◌*◌, ◌^◌, ◌≤◌, ◌<◌}
use mathlib.Core.List.{List, [], ◌∷◌}
use mathlib.Core.Bool.{Bool, true, false}
use mathlib.Core.Path.{◌≡◌, refl, sym, ap, ◌∙◌}
use native.Mathlib.Omega.{arith}
use lib.Dec.{ltb}
use lib.ListN.{length, get_or}
use Rattle.bits.specs.Bits.{cut, spread}
use Rattle.bits.proofs.Cutting.{length_cut}
use Rattle.rows.specs.Row.{pick}
use Rattle.rows.specs.Walk.{Outcome, done, refused, Content, read, write}
use Rattle.rows.specs.Table.Holder.{holder}
use Rattle.rows.specs.Refusing.{widest, walk_numbers, write_numbers}
use Rattle.rows.proofs.RoundTrip.{read_slots}
use Rattle.rows.proofs.Refusing.{read_refused, within}
use Rattle.records.specs.Answer.{Written, refusal, accepted, denied, written, answered, valued, content, area_length, read_area, write_area}
use Rattle.holder.specs.Holder.{Spelled, numbers_of, holder_of, read_of, unread, holder_read, holder_written}
use Rattle.holder.specs.declared.Holder.{Holder}
use Rattle.holder.specs.Holder.{HolderRead}
use Rattle.records.proofs.Answering.{area_room}
use Rattle.records.proofs.Inverse.{from_all, slots_read_write, slots_write_read}
use Rattle.records.proofs.Coming.{ComesTo, unwritten, comes_within, area_comes, area_write_comes}
use Rattle.holder.proofs.Letters.{holder_back}

-- 111 numbers are those of the Holder made of them.
forth : (vals margin : List ℕ) → length vals ≡ 111 → numbers_of (holder_of vals margin) ≡ vals
forth vals margin long = from_all 111 vals long

read_sized : (bs : List Bool) {c : Content} {end : ℕ} → read holder bs ≡ done c end → length c.numbers ≡ 111
unfolding holder
read_sized bs h = read_slots holder bs h

-- The words of a margin cover every area.
covers : (bytes : List ℕ) → area_length (length bytes) ≡ true → 8 * length bytes ≤ 64 * 15
covers bytes l = omega (arith, area_room (length bytes) l)

pub holder_read_write : (bytes onto : List ℕ) (h : Holder) → ((i : ℕ) → get_or bytes i 0 < 2 ^ 8) → length onto ≡ length bytes
    → holder_read bytes ≡ read_of h
    → holder_written onto h ≡ accepted bytes
unfolding read_area write_area
holder_read_write bytes onto h small long e = rw long (go (area_length (length bytes)) refl (read holder (spread 8 bytes)) refl e)
  where
    go : (b : Bool) → area_length (length bytes) ≡ b → (o : Outcome Content) → read holder (spread 8 bytes) ≡ o
        → pick b (answered (valued 15 (λ vals margin. read_of (holder_of vals margin))) unread o) (unread (refusal 1 0)) ≡ read_of h
        → pick b (written onto (write holder (8 * length bytes) (content (numbers_of h) h.margin))) (denied (refusal 1 0) onto) ≡ accepted bytes
    go true l (done c end) r e =
        let margin : List ℕ = cut 64 64 15 c.margin in
        let value : holder_of c.numbers margin ≡ h = ap (λ (x : HolderRead). x.holder) e in
        let slots : numbers_of h ≡ c.numbers = ap numbers_of (sym value) ∙ forth c.numbers margin (read_sized (spread 8 bytes) r) in
        let kept : h.margin ≡ margin = ap (λ (x : Holder). x.margin) (sym value) ∙ from_all 15 margin (length_cut 64 64 15 c.margin) in
        rw (slots, kept) (slots_read_write holder (8 * length bytes) 15 (covers bytes l) bytes onto refl small long r)
    go true l (refused n at i) r e = absurd (read_refused holder (spread 8 bytes) r (ap (λ (x : HolderRead). x.refusal.number) e))
    go false l o r e = absurd (let one : ◌≡◌ {A = ℕ} 1 0 = ap (λ (x : HolderRead). x.refusal.number) e in omega arith)

pub holder_write_read : (before after : List ℕ) (h : Holder) → Spelled h → length h.profiles ≡ 4 → ((i : ℕ) → get_or h.margin i 0 < 2 ^ 64)
    → holder_written before h ≡ accepted after
    → holder_read after ≡ read_of h
unfolding read_area write_area holder
holder_write_read before after h long counted small = go (area_length (length before)) refl
  where
    go : (b : Bool) → area_length (length before) ≡ b
        → pick b (written before (write holder (8 * length before) (content (numbers_of h) h.margin))) (denied (refusal 1 0) before) ≡ accepted after
        → pick (area_length (length after)) (answered (valued 15 (λ vals margin. read_of (holder_of vals margin))) unread (read holder (spread 8 after))) (unread (refusal 1 0))
        ≡ read_of h
    go true l e =
        let (c, end, reads, vals, margin, size) =
        slots_write_read holder (8 * length before) 15 (covers before l) before refl (numbers_of h) h.margin after refl long.margin small e in
        rw (size, l, reads, vals) (ap read_of (ap (holder_of (numbers_of h)) margin ∙ holder_back h long counted))
    go false l e = absurd (let one : ◌≡◌ {A = ℕ} 1 0 = ap (λ (w : Written). w.answer.number) e in omega arith)

-- The numbers that a Holder's table refuses with, whatever the room.
holder_numbers : (t : Bool) (room : ℕ) → ltb room (widest holder) ≡ t
    → (within (1 ∷ walk_numbers room holder) (1 ∷ 2 ∷ 4 ∷ []) ≡ true) × (within (1 ∷ write_numbers room holder) (1 ∷ 2 ∷ 4 ∷ 7 ∷ []) ≡ true)
unfolding holder
holder_numbers true room e = (rw e, rw e)
holder_numbers false room e = (rw e, rw e)

-- The refusals of a reading and of a writing.
pub holder_comes : (bytes : List ℕ) → ComesTo read_of unread (1 ∷ 2 ∷ 4 ∷ []) (holder_read bytes)
holder_comes bytes = comes_within (area_comes holder_of holder bytes) (holder_numbers _ (8 * length bytes) refl).0

pub holder_write_comes : (before : List ℕ) (h : Holder) → ComesTo accepted (unwritten before) (1 ∷ 2 ∷ 4 ∷ 7 ∷ []) (holder_written before h)
holder_write_comes before h = comes_within (area_write_comes holder (numbers_of h) h.margin before) (holder_numbers _ (8 * length before) refl).1
