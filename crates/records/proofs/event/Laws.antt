-- Event: what was read, written onto any record, is the same bytes; what was written, read again, is the same value.
use Prim.Native.Nat.{ℕ, ◌^◌, ◌<◌}
use mathlib.Core.List.{List, [], ◌∷◌}
use mathlib.Core.Bool.{Bool}
use mathlib.Core.Path.{◌≡◌, refl}
use native.Mathlib.Omega.{arith}
use lib.ListN.{length, get_or, take, drop}
use Rattle.rows.specs.Row.{bit}
use Rattle.rows.specs.Margin.{words_of}
use Rattle.rows.specs.Walk.{read, done, Content}
use Rattle.rows.specs.Table.Event.{event}
use Rattle.rows.specs.declared.Rule.TheVariants.{Any}
use Rattle.rows.proofs.RoundTrip.{read_slots}
use Rattle.rows.proofs.Wide.{read_wide}
use Rattle.records.specs.Answer.{accepted}
use Rattle.records.specs.Event.{EventRead, numbers_of, event_of, event_read, event_written}
use Rattle.records.specs.Answer.{Answer}
use Rattle.records.specs.declared.event.Event.{Event}
use Rattle.std.specs.Prelude.{Ok, Err}
use Rattle.records.proofs.Inverse.{View, from_all, record_read_write, record_write_read}
use Rattle.records.proofs.Coming.{ComesTo, unwritten, comes_within, record_comes, record_write_comes}

-- A record that was read has no element [17], so that its slot is zero.
named : (bs : List Bool) (margin : List ℕ) {c : Content} {end : ℕ} → length bs ≡ 232 → read event bs ≡ done c end
    → numbers_of (event_of c.numbers margin) ≡ c.numbers
unfolding event
named bs margin {c} long h =
    let none : get_or c.numbers 20 0 ≡ 0 = read_wide 240 (bit 2 17) Any (drop 21 event) (take 20 event) bs (omega arith) h in
    rw none at (from_all 36 c.numbers (read_slots event bs h))

-- The words of its margin.
abbrev words_in : Event → List ℕ
words_in e = words_of e.margin

view : View event 232 4 numbers_of words_in event_of
unfolding event
view =
    record {
      sized = λ e. refl;
      margins = λ e. refl;
      back = λ e. refl;
      forth = named;
      kept = λ vals margin long. from_all 4 margin long;
    }

same : (a b : Event) → ◌≡◌ {A = EventRead} (Ok a) (Ok b) → a ≡ b
same a b h = cc

apart : (r : Answer) (e : Event) → Err r ≡ Ok e → ⊥
apart r e h = let z : ◌≡◌ {A = ℕ} 0 1 = cc in omega arith

pub event_read_write : (bytes onto : List ℕ) (e : Event) → ((i : ℕ) → get_or bytes i 0 < 2 ^ 8) → length onto ≡ 29
    → event_read bytes ≡ Ok e
    → event_written onto e ≡ accepted bytes
event_read_write bytes onto e small long h = record_read_write Ok Err same apart view bytes onto e small long h

pub event_write_read : (before after : List ℕ) (e : Event) → ((i : ℕ) → get_or (words_of e.margin) i 0 < 2 ^ 64)
    → event_written before e ≡ accepted after
    → event_read after ≡ Ok e
event_write_read before after e small h = record_write_read Ok Err same apart view before after e small h

-- The refusals of a reading and of a writing.
pub event_comes : (bytes : List ℕ) → ComesTo Ok Err (1 ∷ 2 ∷ 4 ∷ []) (event_read bytes)
unfolding event
event_comes bytes = comes_within (record_comes event_of event bytes) refl

pub event_write_comes : (before : List ℕ) (e : Event) → ComesTo accepted (unwritten before) (1 ∷ 2 ∷ 4 ∷ 7 ∷ []) (event_written before e)
unfolding event
event_write_comes before e = comes_within (record_write_comes event (numbers_of e) (words_of e.margin) before) refl
