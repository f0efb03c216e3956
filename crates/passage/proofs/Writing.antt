-- The event of a passage is always written, and reads as it is.
use Prim.Native.Nat.{ℕ, ◌≤◌, ◌<◌}
use mathlib.Core.List.{List, []}
use mathlib.Core.Bool.{Bool, true, false}
use mathlib.Core.Path.{◌≡◌, refl, ap}
use native.Mathlib.Omega.{arith}
use lib.Dec.{ltb}
use lib.ListN.{length}
use borrow.Author.Tests.{lt-ltb, le-ltb}
use Rattle.bits.specs.Bits.{cut, spread}
use Rattle.bits.proofs.Cutting.{length_cut, spread_cut, cut_lt}
use Rattle.rows.specs.Row.{pick}
use Rattle.rows.specs.Walk.{Outcome, done, refused, read, write_bare, bare}
use Rattle.rows.specs.Table.Event.{event}
use Rattle.rows.proofs.RoundTrip.{bare_read, bare_write_length, bare_write_read}
use Rattle.rows.proofs.Refusing.{bare_write_refused}
use Rattle.rows.proofs.Sound.{Sound, verdict, sound_written}
use Rattle.records.specs.Answer.{refusal_at, accepted, read_record}
use Rattle.records.specs.Event.{numbers_of, event_read, event_written}
use Rattle.records.specs.Answer.{Answer}
use Rattle.std.specs.Prelude.{Ok}
use Rattle.records.proofs.event.Laws.{event_read_write}
use Rattle.passage.specs.Passage.{event_for}
use Rattle.passage.specs.declared.Passage.{Passage}

-- A record that an event is written to, and reads from.
pub record Recorded (p : Passage) (pointer : ℕ) : Type 0 where
  pub bytes : List ℕ
  pub long : length bytes ≡ 29
  pub reads : event_read bytes ≡ Ok (event_for p pointer)
  pub written : (onto : List ℕ) → length onto ≡ 29 → event_written onto (event_for p pointer) ≡ accepted bytes

module _ (p : Passage) (pointer : ℕ) (day : p.day ≤ 16383) (minute : p.minute ≤ 1439) (code : p.code ≤ 255) (provider : p.provider ≤ 255) (few : pointer ≤ 19) where
  wide : (v m : ℕ) → v < m → pick (ltb v m) false true ≡ false
  wide v m h = rw (lt-ltb v m h)

  ruled : (m v : ℕ) → v ≤ m → ◌≡◌ {A = ℕ} (pick (ltb m v) 4 0) 0
  ruled m v h = rw (le-ltb m v h)

  row : {A B C : Type 0} → A → B → C → A × B × C
  row fits keeps rest = (fits, keeps, rest)

  -- Each number fits its box and keeps its rule, row by row: a line up to the bitmap, one up to [4], two up to [24], one for [25].
  sound : Sound event [] (numbers_of (event_for p pointer))
  unfolding event
  sound =
      row (wide p.day 16384 (omega arith)) refl (row (wide p.minute 2048 (omega arith)) (ruled 1439 p.minute minute) (row refl refl
      (row refl refl (row refl refl (row (wide p.code 256 (omega arith)) refl (row refl refl (row (wide p.provider 256 (omega arith)) refl
      (row refl refl (row refl refl (row refl refl (row refl refl (row refl refl (row refl refl (row refl refl (row refl refl (row refl refl (row refl refl
      (row refl refl (row refl refl (row refl refl (row refl refl (row refl refl (row refl refl (row refl refl (row refl refl (row refl refl (row refl refl
      (row (wide pointer 32 (omega arith)) (ruled 19 pointer few)
      (row refl refl (row refl refl (row refl refl (row refl refl (row refl refl (row refl refl (row refl refl tt)))))))))))))))))))))))))))))))))))

  -- The table is written with nothing in the margin,
  comes : (o : Outcome (List Bool)) → write_bare event 232 (numbers_of (event_for p pointer)) ≡ o → verdict refusal_at o ≡ refusal_at 0 0 0 → Recorded p pointer
  unfolding event read_record
  comes (done bs end) is none =
      let e = event_for p pointer in
      let size : length bs ≡ 232 = bare_write_length event 232 (numbers_of e) refl is in
      let whole : spread 8 (cut 8 8 29 bs) ≡ bs = spread_cut 8 29 bs size in
      let again : read event bs ≡ done (bare 232 (numbers_of e)) end = rw size at (bare_read event bs (bare_write_read event 232 (numbers_of e) refl is)) in
      let reads : event_read (cut 8 8 29 bs) ≡ Ok e = rw (whole, again) in
      record {
        bytes = cut 8 8 29 bs;
        long = length_cut 8 8 29 bs;
        reads = reads;
        written = λ onto long. event_read_write (cut 8 8 29 bs) onto e (λ i. cut_lt 8 8 29 bs i) long reads;
      }
  comes (refused n at i) is none = absurd (bare_write_refused event 232 (numbers_of (event_for p pointer)) is (ap (λ (r : Answer). r.number) none))

  pub recorded : Recorded p pointer
  unfolding event
  recorded = comes (write_bare event 232 (numbers_of (event_for p pointer))) refl (sound_written refusal_at event 232 (numbers_of (event_for p pointer)) sound)
