-- Inspections are not journeys. Document 02, Q-3.
use Prim.Native.Nat.{ℕ, ◌/◌, ◌%◌, ◌^◌, ◌≤◌, ◌<◌}
use mathlib.Core.Bool.{Bool, true, false, ◌&&◌, ◌||◌}
use mathlib.Core.List.{List, [], ◌∷◌}
use mathlib.Core.Path.{◌≡◌, refl, sym, ap, fun_ext, ◌∙◌}
use lib.ListN.{length, get_or, replicate, get_or-replicate}
use borrow.Author.Tests.{eq-eqb, le-leb}
use Rattle.bits.specs.Bits.{odd, spread}
use Rattle.rows.specs.Row.{pick}
use Rattle.records.specs.Order.{got, events}
use Rattle.records.specs.declared.event.Event.{Event}
use Rattle.loading.specs.Blocking.{some, moment, names, recent, journey, blocks, named_by_special, blocked}
use Rattle.loading.specs.Loading.{Lent, blocking, placing, finding, loading}
use Rattle.loading.specs.declared.Order.{Order}

-- The journeys among some events.
abbrev pub journeys : List ℕ → List Event → List Event
journeys codes [] = []
journeys codes (e ∷ es) = pick (journey codes e) (e ∷ journeys codes es) (journeys codes es)

-- They alone block.
only_journeys : (codes : List ℕ) (now hours p : ℕ) (es : List Event) → some (blocks codes now hours p) es ≡ some (blocks codes now hours p) (journeys codes es)
only_journeys codes now hours p [] = refl
only_journeys codes now hours p (e ∷ es) = go (journey codes e) refl (only_journeys codes now hours p es)
  where
    nothing : (names recent : Bool) → names && (false && recent) ≡ false
    nothing true recent = refl
    nothing false recent = refl

    go : (t : Bool) → journey codes e ≡ t → some (blocks codes now hours p) es ≡ some (blocks codes now hours p) (journeys codes es)
        → (blocks codes now hours p e || some (blocks codes now hours p) es) ≡ some (blocks codes now hours p) (pick t (e ∷ journeys codes es) (journeys codes es))
    go true is rest = ap (λ (t : Bool). blocks codes now hours p e || t) rest
    go false is rest = rw (is, nothing (names p e) (recent now hours e)) rest

-- Events with the same journeys block the same.
blocked_alike : (codes : List ℕ) (now hours : ℕ) (es fs : List Event) → journeys codes es ≡ journeys codes fs
    → blocked codes now hours es ≡ blocked codes now hours fs
blocked_alike codes now hours es fs same =
    fun_ext (λ entries. fun_ext (λ records. fun_ext (λ p.
    ap (λ (t : Bool). t || named_by_special entries p 1 records)
    (only_journeys codes now hours p es ∙ ap (some (blocks codes now hours p)) same ∙ sym (only_journeys codes now hours p fs)))))

-- A lent journal of whole records, no more than it may have, that read as some events.
pub record Recorded (journal : List ℕ) (es : List Event) : Type 0 where
  pub whole : length journal % 29 ≡ 0
  pub few : length journal / 29 ≤ 15
  pub read : events (length journal / 29) journal 0 ≡ got es

abbrev pub with_journal : List ℕ → Lent → Lent
with_journal journal lent =
    record { special = lent.special; journal = journal; records = lent.records; new = lent.new; codes = lent.codes }

-- Two journals with the same journeys are alike: events without a code, or with one that is not marked, change neither what loading
-- answers nor what it leaves.
pub inspections_aside : (o : Order) (list file : List ℕ) (lent : Lent) (journal : List ℕ) (es fs : List Event) → Recorded lent.journal es
    → Recorded journal fs → journeys lent.codes es ≡ journeys lent.codes fs
    → loading o list file lent ≡ loading o list file (with_journal journal lent)
unfolding loading finding placing blocking
inspections_aside o list file lent journal es fs old new same =
    rw (
      eq-eqb _ _ old.whole,
      eq-eqb _ _ new.whole,
      le-leb _ _ old.few,
      le-leb _ _ new.few,
      old.read,
      new.read,
      blocked_alike lent.codes (moment o.day o.minute) o.hours es fs same,
    )

-- With all codes marked, an event that has a code blocks as document 01 has it.
pub all_marked : (now hours p : ℕ) (e : Event) → odd (e.bitmap / 2 ^ 2) ≡ true → e.code < 256
    → blocks (replicate 32 255) now hours p e ≡ names p e && recent now hours e
all_marked now hours p e coded small =
    let marked : get_or (spread 8 (replicate 32 255)) e.code false ≡ true = get_or-replicate 256 e.code true false small in
    rw (coded, marked)
