-- One more turn of the loops that read events and mark pointers, and from their marks to those of the blocked pointers.
use Prim.Native.Nat.{ℕ, suc, ◌+◌, ◌-◌, ◌*◌, ◌/◌, ◌≤◌, ◌<◌}
use mathlib.Core.Path.{◌≡◌, refl, sym, ap, subst, ◌∙◌}
use mathlib.Core.List.{List, [], ◌∷◌, ◌++◌}
use mathlib.Core.Bool.{Bool, false, ◌&&◌, ◌||◌, or-false, or_assoc}
use native.Mathlib.Omega.{arith}
use native.Mathlib.Numerals.{add-one}
use native.Mathlib.Nat.{sub-zero}
use lib.Dec.{eqb}
use lib.ListN.{length, take, drop, length-drop, length-append}
use lib.Seq.{take_at, drop_at, drop-drop}
use borrow.Author.Tests.{eq-eqb, ne_eqb}
use Rattle.records.specs.Answer.{refusal, Answer}
use Rattle.records.specs.Event.{event_told, event_read, EventRead}
use Rattle.records.proofs.Telling.{event_one}
use Rattle.records.specs.Order.{Attempt, got, stopped, next, record_from, events}
use Rattle.records.specs.declared.event.Event.{Event}
use Rattle.std.specs.Prelude.{Ok, Err}
use Rattle.contract.specs.Contract.{contract_read, ContractRead}
use Rattle.contract.specs.declared.Contract.{Contract}
use Rattle.lists.specs.Special.{special_read, SpecialRead}
use Rattle.loading.specs.Blocking.{some, moment, blocks, named_by_special, blocked}
use Rattle.loading.specs.Loading.{Lent, contract_got, blocking}
use Rattle.loading.specs.declared.Order.{Order}
use Rattle.loading.specs.Inner.Marks.{marked, refusal_of, Added, Marking}
use Rattle.loading.specs.Inner.Store.{rest_read}
use Rattle.loading.proofs.Told.{Stops, events_stop, blocking_stops}

apart : {A : Type 0} {r : Answer} {a : A} → stopped r ≡ got a → ⊥
apart e = let z : ◌≡◌ {A = ℕ} 0 1 = cc in omega arith

-- Whether the event blocks, in other words.
pub added_as : (pointer : ℕ) {b blocks : Bool} {marks after : List Bool} → b ≡ blocks → Added (λ p. eqb pointer p && b) marks after
    → Added (λ p. eqb pointer p && blocks) marks after
added_as pointer {b} {blocks} {marks} {after} e added = subst (λ (t : Bool). Added (λ p. eqb pointer p && t) marks after) e added

module _ (named : ℕ → List Event → ℕ → Bool) (names : ℕ → Event → ℕ → Bool)
    (nil : (k p : ℕ) → named k [] p ≡ false)
    (cons : (k : ℕ) (e : Event) (es : List Event) (p : ℕ) → named k (e ∷ es) p ≡ names k e p || named (suc k) es p)
    (file : List ℕ) (start : List Bool) where
  -- The first i events of a file are read and their marks made: marking the rest is marking all.
  pub record Passed (i : ℕ) (rest : List ℕ) (marks : List Bool) : Type 0 where
    pub few : i ≤ length file / 29
    pub left : rest ≡ drop (29 * i) file
    pub long : length marks ≡ length start
    pub all : (after : List Bool) (r : Answer) → Marking (events (length file / 29 - i) file i) (named i) marks after r
        → Marking (events (length file / 29) file 0) (named 0) start after r

  pub passed_none : {rest : List ℕ} → rest ≡ file → Passed 0 rest start
  passed_none whole =
      record { few = omega arith; left = whole; long = refl; all = λ after r m. rw (sub-zero (length file / 29)) at m }

  -- An event more.
  event_more : (i m : ℕ) (marks more after : List Bool) (r : Answer) (e : Event) → event_read (record_from file i) ≡ Ok e → Added (names i e) marks more
      → Marking (events m file (suc i)) (named (suc i)) more after r → Marking (events (suc m) file i) (named i) marks after r
  event_more i m marks more after r e one added = rw one (go (events m file (suc i)))
    where
      go : (rest : Attempt (List Event)) → Marking rest (named (suc i)) more after r
          → Marking (next rest (λ es. got (e ∷ es))) (named i) marks after r
      go (got es) k =
          record {
            answer = k.answer;
            long = k.long ∙ added.long;
            marks = λ a same. let these : a ≡ e ∷ es = cc in rw these record {
              long = k.long ∙ added.long;
              each = λ p few. (k.marks es refl).each p few ∙ rw (added.each p few, cons i e es p, or_assoc (marked marks p) (names i e p) (named (suc i) es p));
            };
          }
      go (stopped s) k =
          record {
            answer = k.answer;
            long = k.long ∙ added.long;
            marks = λ a same. absurd (apart same);
          }

  -- What comes off the front is the record of the event that is read next.
  module _ {i : ℕ} {rest : List ℕ} {marks : List Bool} (piece later : List ℕ) (so : Passed i rest marks) (off : rest ≡ piece ++ later) (size : length piece ≡ 29) where
    more_left : i < length file / 29
    more_left =
        let behind : length file - 29 * i ≡ 29 + length later =
        sym (length-drop (29 * i) file) ∙ ap length (sym so.left ∙ off) ∙ length-append piece later ∙ ap (λ k. k + length later) size in
        omega arith

    own_record : record_from file i ≡ piece
    own_record = ap (take 29) (sym so.left ∙ off) ∙ take_at piece later 29 size

    later_left : later ≡ drop (29 * (i + 1)) file
    later_left =
        let place : 29 * i + 29 ≡ 29 * (i + 1) = omega arith in
        sym (drop_at piece later 29 size) ∙ ap (drop 29) (sym off ∙ so.left) ∙ drop-drop 29 (29 * i) file ∙ ap (λ k. drop k file) place

    own_read : (r : EventRead) → event_told r ≡ event_told (event_read piece) → event_read (record_from file i) ≡ r
    own_read r e = rw own_record (sym (event_one r _ e))

    pub passed_more : (more : List Bool) (e : Event) → event_told (Ok e) ≡ event_told (event_read piece) → Added (names i e) marks more
        → Passed (i + 1) later more
    passed_more more e told added =
        let inside = more_left in
        let on : length file / 29 - i ≡ suc (length file / 29 - suc i) = omega arith in
        record {
          few = omega arith;
          left = later_left;
          long = added.long ∙ so.long;
          all = λ after r m. so.all after r (rw on (event_more i (length file / 29 - suc i) marks more after r e (own_read (Ok e) told) added (rw (add-one i) at m)));
        }

    -- An event that is refused.
    pub passed_refused : (r : Answer) → event_told (Err r) ≡ event_told (event_read piece)
        → Marking (events (length file / 29) file 0) (named 0) start marks r
    passed_refused r told =
        let inside = more_left in
        let on : length file / 29 - i ≡ suc (length file / 29 - suc i) = omega arith in
        so.all marks r (rw (on, own_read (Err r) told) record { answer = refl; long = refl; marks = λ a same. absurd (apart same) })

  -- None is left.
  pub passed_all : {i : ℕ} {rest : List ℕ} {marks : List Bool} → Passed i rest marks → length rest < 29
      → Marking (events (length file / 29) file 0) (named 0) start marks (refusal 0 0)
  passed_all {i} {rest} {marks} so h =
      let behind : length file - 29 * i ≡ length rest = sym (length-drop (29 * i) file) ∙ ap length (sym so.left) in
      let none : length file / 29 - i ≡ 0 = omega arith in
      so.all marks (refusal 0 0) (rw none record {
        answer = refl;
        long = refl;
        marks = λ a same. let these : a ≡ [] = cc in rw these record { long = refl; each = λ p few. rw (nil i p, or-false (marked marks p)) };
      })

-- The time, in other words.
pub at_time : (attempt : Attempt (List Event)) (codes : List ℕ) {time moment : ℕ} (hours : ℕ) {before after : List Bool} {r : Answer} → time ≡ moment
    → Marking attempt (λ es p. some (blocks codes time hours p) es) before after r
    → Marking attempt (λ es p. some (blocks codes moment hours p) es) before after r
at_time attempt codes {time} {moment} hours {before} {after} {r} e m =
    subst (λ (t : ℕ). Marking attempt (λ es p. some (blocks codes t hours p) es) before after r) e m

module _ (o : Order) (special journal records codes : List ℕ) {r : SpecialRead} (read : r ≡ special_read o.s special) {before : List Bool} where
  -- The special event list is refused.
  pub blocking_unlisted : (r.refusal.number ≡ 0 → ⊥) → Marking (blocking o special journal records codes) (λ b. b) before before r.refusal
  unfolding blocking
  blocking_unlisted bad =
      rw (← read, ne_eqb r.refusal.number 0 bad) record { answer = refl; long = refl; marks = λ b same. absurd (apart same) }

  module _ (good : r.refusal.number ≡ 0) {mid : List Bool} {s : Answer}
      (past : Marking (events (length journal / 29) journal 0) (λ es p. some (blocks codes (moment o.day o.minute) o.hours p) es) before mid s) where
    -- An event of the journal is refused.
    pub blocking_unread : (s.number ≡ 0 → ⊥) → Marking (blocking o special journal records codes) (λ b. b) before mid s
    unfolding blocking
    blocking_unread bad = rw (← read, eq-eqb r.refusal.number 0 good) (go _ (events (length journal / 29) journal 0) past)
      where
        go : {test : List Event → ℕ → Bool} (more : List Event → Attempt (ℕ → Bool)) (j : Attempt (List Event)) → Marking j test before mid s
            → Marking (next j more) (λ b. b) before mid s
        go more (got es) k = absurd (bad (ap (λ (t : Answer). t.number) k.answer))
        go more (stopped t) k = record { answer = k.answer; long = k.long; marks = λ b same. absurd (apart same) }

    -- The journal is read, and the special event records too or not.
    pub blocking_read : {after : List Bool} {t : Answer} → s.number ≡ 0 → length records ≡ 29 * o.s
        → Marking (events (length records / 29) records 0) (λ es p. named_by_special (take r.list.count r.list.entries) p 1 es) mid after t
        → Marking (blocking o special journal records codes) (λ b. b) before after t
    unfolding blocking
    blocking_read {after} {t} fine sized last =
        let n : length records / 29 ≡ o.s = omega arith in
        rw (← read, eq-eqb r.refusal.number 0 good)
        (go (events (length journal / 29) journal 0) (events_stop (length journal / 29) journal 0) past (events o.s records 0) (rw n at last))
      where
        go : (j : Attempt (List Event)) → Stops j
            → Marking j (λ es p. some (blocks codes (moment o.day o.minute) o.hours p) es) before mid s
            → (k : Attempt (List Event)) → Marking k (λ es p. named_by_special (take r.list.count r.list.entries) p 1 es) mid after t
            → Marking (next j (λ es. next k (λ fs. got (blocked codes (moment o.day o.minute) o.hours es (take r.list.count r.list.entries) fs)))) (λ b. b) before after t
        go (stopped x) told first k second = absurd (told.some (sym (ap (λ (y : Answer). y.number) first.answer) ∙ fine))
        go (got es) told first (stopped x) second =
            record { answer = second.answer; long = second.long ∙ first.long; marks = λ b same. absurd (apart same) }
        go (got es) told first (got fs) second =
            record {
              answer = second.answer;
              long = second.long ∙ first.long;
              marks = λ b same. let this : b ≡ blocked codes (moment o.day o.minute) o.hours es (take r.list.count r.list.entries) fs = cc in
                  rw this record {
                    long = second.long ∙ first.long;
                    each = λ p few. (second.marks fs refl).each p few ∙ rw ((first.marks es refl).each p few, or_assoc (marked before p) (some (blocks codes (moment o.day o.minute) o.hours p) es) (named_by_special (take r.list.count r.list.entries) p 1 fs));
                  };
            }

module _ (o : Order) (lent : Lent) {before after : List Bool} {x : Answer}
    (m : Marking (blocking o lent.special lent.journal lent.records lent.codes) (λ b. b) before after x) where
  -- The events are refused.
  pub rest_unread : (x.number ≡ 0 → ⊥) → Marking (rest_read o lent) (λ b. b) before after x
  unfolding rest_read
  rest_unread bad = go (blocking o lent.special lent.journal lent.records lent.codes) m
    where
      go : (t : Attempt (ℕ → Bool)) → Marking t (λ b. b) before after x
          → Marking (next t (λ b. next (contract_got (contract_read o.kind lent.new)) (λ new. got b))) (λ b. b) before after x
      go (got b) k = absurd (bad (ap (λ (t : Answer). t.number) k.answer))
      go (stopped t) k = record { answer = k.answer; long = k.long; marks = λ b same. absurd (apart same) }

  -- They are read, and the new contract decides.
  pub rest_read_law : x.number ≡ 0 → {r : ContractRead} → contract_read o.kind lent.new ≡ r → Marking (rest_read o lent) (λ b. b) before after (refusal_of (contract_got r))
  unfolding rest_read
  rest_read_law quiet {r} e =
      rw e (go (blocking o lent.special lent.journal lent.records lent.codes) (blocking_stops o lent.special lent.journal lent.records lent.codes) m (contract_got r))
    where
      go : (t : Attempt (ℕ → Bool)) → Stops t → Marking t (λ b. b) before after x → (u : Attempt Contract)
          → Marking (next t (λ b. next u (λ new. got b))) (λ b. b) before after (refusal_of u)
      go (got b) told k (got c) = record { answer = refl; long = k.long; marks = k.marks }
      go (got b) told k (stopped y) = record { answer = refl; long = k.long; marks = λ b same. absurd (apart same) }
      go (stopped t) told k u = absurd (told.some (sym (ap (λ (r : Answer). r.number) k.answer) ∙ quiet))
