-- The fields fill a record and take every number: no reading of 29 bytes is refused.
use Prim.Native.Nat.{ℕ, ◌+◌, ◌-◌, ◌/◌}
use mathlib.Core.List.{List, [], ◌∷◌}
use mathlib.Core.Bool.{Bool, true, false, true≢false}
use mathlib.Core.Path.{◌≡◌, refl, sym, ◌∙◌}
use native.Mathlib.Omega.{arith}
use lib.Dec.{eqb}
use lib.ListN.{length, replicate}
use borrow.Author.Tests.{eqb-true, eqb-false}
use Rattle.bits.specs.Bits.{cut, spread}
use Rattle.bits.proofs.Cutting.{length-spread}
use Rattle.rows.specs.Row.{Row, pick}
use Rattle.rows.specs.Walk.{Outcome, done, refused, total, Content, holding, frame, read, slots}
use Rattle.rows.specs.Refusing.{widest, walk_numbers}
use Rattle.rows.specs.Inner.Step.{Packed}
use Rattle.rows.specs.Inner.Line.{start, Taken, Given}
use Rattle.rows.specs.Inner.Standing.{Standing}
use Rattle.rows.proofs.Walked.{never}
use Rattle.rows.proofs.Refusing.{Refuses, read_number}
use Rattle.rows.proofs.Running.{takes_read}
use Rattle.rows.proofs.Margins.{kept_none}
use Rattle.records.specs.Inner.Met.{met}
use Rattle.records.proofs.Answering.{all_words, record_written, record_unput}
use Rattle.bip.specs.Table.{bip}
use Rattle.bip.specs.Value.{numbers_of, bip_written}
use Rattle.bip.specs.declared.BipContract.{BipContract}

-- 000, section 3.10: thirteen fields, 29 bytes.
pub bip_rows : length bip ≡ 13
unfolding bip
bip_rows = refl

pub bip_size : (slots bip ≡ 13) × (widest bip ≡ 232)
unfolding bip
bip_size = (refl, refl)

-- The byte where each row begins.
abbrev offsets : ℕ → List Row → List ℕ
offsets at [] = []
offsets at (r ∷ rs) = at / 8 ∷ offsets (at + total r.boxes) rs

bip_offsets : offsets 0 bip ≡ 0x00 ∷ 0x01 ∷ 0x02 ∷ 0x03 ∷ 0x04 ∷ 0x06 ∷ 0x09 ∷ 0x0C ∷ 0x0F ∷ 0x10 ∷ 0x14 ∷ 0x17 ∷ 0x19 ∷ []
unfolding bip
bip_offsets = refl

-- The widths of the fields, whatever they hold.
abbrev pub widths : List ℕ
widths = 8 ∷ 8 ∷ 8 ∷ 8 ∷ 16 ∷ 24 ∷ 24 ∷ 24 ∷ 8 ∷ 32 ∷ 24 ∷ 16 ∷ 32 ∷ []

pub frame_bip : (vals : List ℕ) → frame bip vals ≡ widths
unfolding bip frame
frame_bip vals = refl

-- What a reading of 232 bits comes to.
pub record Whole (bs : List Bool) : Type 0 where
  pub content : Content
  pub end : ℕ
  pub comes : read bip bs ≡ done content end

pub reads_whole : (bs : List Bool) → length bs ≡ 232 → Whole bs
unfolding bip
reads_whole bs long = go (read bip bs) refl (rw long at (read_number bip bs))
  where
    go : (o : Outcome Content) → read bip bs ≡ o → Refuses (walk_numbers 232 bip) o → Whole bs
    go (done c end) e h = record { content = c; end = end; comes = e }
    go (refused n at i) e h = absurd (true≢false (sym h.listed))

-- So a line of takes over it comes to its end.
pub takes_whole : (bytes words all : List ℕ) (d : Standing) → length bytes ≡ 29 → words ≡ cut 32 64 8 (spread 8 bytes) → Taken words 232 bip [] start all d
    → d.why ≡ 0
takes_whole bytes words all d long cuts line =
    let bs : List Bool = spread 8 bytes in
    let room : length bs ≡ 232 = length-spread 8 bytes ∙ rw long in
    let w = reads_whole bs room in
    let says = takes_read words 232 bs room (all_words bytes words cuts) bip all d (omega (arith, bip_rows)) line.takes in
    go (eqb d.why 0) refl w.content w.end (sym says ∙ w.comes)
  where
    go : (t : Bool) → eqb d.why 0 ≡ t → (c : Content) (end : ℕ)
        → pick t (done (holding (spread 8 bytes) all d.at) d.at) (refused d.why d.at (d.field - 1)) ≡ done c end
        → d.why ≡ 0
    go true e c end h = eqb-true _ _ e
    go false e c end h = never h

-- And a line of puts gives what the end leaves: no margin stands behind it.
pub puts_whole : (b : BipContract) (xs ys before after : List ℕ) (d : Standing) → xs ≡ cut 32 32 (length xs) [] → length before ≡ 29
    → Given 232 (numbers_of b) bip [] xs start (numbers_of b) ys d
    → Packed ys d before after
    → record { answer = met d; bytes = after } ≡ bip_written before b
unfolding bip
puts_whole b xs ys before after d empty long given packed = go (eqb d.why 0) refl
  where
    vals : List ℕ
    vals = numbers_of b

    go : (t : Bool) → eqb d.why 0 ≡ t → record { answer = met d; bytes = after } ≡ bip_written before b
    go true e =
        let ok : d.why ≡ 0 = eqb-true _ _ e in
        let kept = kept_none ys 232 d (replicate 4 0) ok given.ready.within (omega arith) refl in
        record_written bip vals (replicate 4 0) xs vals ys before d (omega (arith, bip_rows)) refl empty ys after d ok packed long given.puts kept
    go false e =
        let why : d.why ≡ 0 → ⊥ = eqb-false _ _ e in
        rw (packed.kept why) (record_unput bip vals (replicate 4 0) xs vals ys before d (omega (arith, bip_rows)) refl empty long given.puts why)
