-- The event put before the records of a journal that moved down one.
use Prim.Native.Nat.{ℕ, ◌-◌, ◌≤◌}
use mathlib.Core.List.{List, ◌++◌}
use mathlib.Core.Path.{◌≡◌, ap}
use lib.ListN.{length, take, drop}
use lib.Seq.{length-take-le, take_at, drop_at}
use Rattle.records.specs.Answer.{Written}
use Rattle.records.specs.Event.{event_written}
use Rattle.records.specs.Order.{record_from}
use Rattle.records.specs.Answer.{Answer}
use Rattle.records.specs.declared.event.Event.{Event}
use Rattle.passage.specs.Passage.{put_first}
use Rattle.passage.specs.Inner.Moved.{moved_down}

-- An event written over the first of records that moved down.
pub first_put : (old moved part : List ℕ) (e : Event) (r : Answer) → 29 ≤ length old → moved ≡ moved_down old
    → record { answer = r; bytes = part } ≡ event_written (take 29 moved) e
    → part ++ drop 29 moved ≡ put_first (event_written (record_from old 0) e).bytes old
first_put old moved part e r room same written =
    let size : length (take 29 old) ≡ 29 = length-take-le 29 old room in
    let rest : List ℕ = take (length old - 29) old in
    let front : take 29 moved ≡ take 29 old = rw same (take_at (take 29 old) rest 29 size) in
    let behind : drop 29 moved ≡ rest = rw same (drop_at (take 29 old) rest 29 size) in
    let bytes : part ≡ (event_written (take 29 old) e).bytes = rw front at (ap (λ (w : Written). w.bytes) written) in
    rw (bytes, behind)
