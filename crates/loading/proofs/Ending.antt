-- From each way out of loading's code to what loading means.
use Prim.Native.Nat.{ℕ, suc, ◌*◌, ◌/◌, ◌≤◌, ◌<◌}
use mathlib.Core.Bool.{Bool, true, false, not}
use mathlib.Core.List.{[], List, ◌∷◌, map, Memᴰ}
use mathlib.Core.Path.{◌≡◌, refl, sym, ap, ◌∙◌}
use mathlib.Core.Logic.{⊎_elim}
use native.Mathlib.Omega.{arith}
use lib.Dec.{eqb, leb}
use lib.ListN.{length, length-map, replicate}
use borrow.Author.Tests.{eq-eqb, ne_eqb, eqb-true, eqb-false, leb-true, not-true}
use Rattle.rows.specs.Row.{pick, among}
use Rattle.rows.proofs.Margins.{both}
use Rattle.records.specs.Answer.{refusal, Answer}
use Rattle.records.specs.Order.{Attempt, got, stopped, next, needs}
use Rattle.lists.specs.List.{got_list, list_read, ListRead}
use Rattle.lists.specs.Entries.{counted, listing, without, appended}
use Rattle.lists.specs.declared.list.Entry.{Entry}
use Rattle.lists.specs.declared.list.ContractList.{ContractList}
use Rattle.lists.proofs.list.Laws.{list_fair}
use Rattle.lists.proofs.Entries.{length_without}
use Rattle.lists.proofs.Tallying.{among_in_use}
use Rattle.lists.proofs.Fairness.{without_listing, appended_listing}
use Rattle.lists.proofs.Kept.{Kept, list_kept, list_got, room_left, room_all}
use Rattle.contract.specs.Contract.{contract_read}
use Rattle.contract.specs.declared.Contract.{Contract}
use Rattle.loading.specs.Place.{free, place, afterwards}
use Rattle.loading.specs.Loading.{Lent, Found, found, Outcome, lengths, lengths_of, entry_fits, limits, contract_got, loaded, new_entry, blocking, placing, finding, settled, loading}
use Rattle.loading.specs.Inner.Unread.{unread}
use Rattle.loading.specs.Inner.Marks.{marked, refusal_of, Marking}
use Rattle.loading.specs.Inner.Store.{renewed, stored, rest_read, ended}
use Rattle.loading.specs.declared.Order.{Order}
use Rattle.loading.proofs.Used.{in_use_law}
use Rattle.loading.proofs.Placing.{Named, placed_free_or_erasable, place_marked}
use Rattle.loading.proofs.Told.{rest_stops, rest_contract}
use Rattle.loading.proofs.Storing.{end_accepted}

-- An entry that has the pointer leaves.
leaves : (e : Entry) (es : List Entry) (p : ℕ) → Memᴰ e es → e.pointer ≡ p → length (without p es) < length es
leaves e [] p there own = elim there [ ]
leaves e (f ∷ es) p (Memᴰ.head here) own =
    let same : f.pointer ≡ p = ap (λ (x : Entry). x.pointer) (sym here) ∙ own in
    rw (eq-eqb _ _ same) (omega (arith, length_without p es))
leaves e (f ∷ es) p (Memᴰ.tail there) own = go (eqb f.pointer p) (leaves e es p there own)
  where
    go : (t : Bool) → length (without p es) < length es → length (pick t (without p es) (f ∷ without p es)) < suc (length es)
    go true h = omega arith
    go false h = omega arith

-- A free pointer is none of the entries'.
pub free_among : (es : List Entry) (p : ℕ) → free es p ≡ true → among p (map (λ (e : Entry). e.pointer) es) ≡ false
free_among es p h = among_in_use es p ∙ in_use_law es p ∙ not-true _ h

-- Where the rule names a pointer, there is room for its entry.
pub room_for : (n c : ℕ) (l : ContractList) (blocked : ℕ → Bool) (p : ℕ) → Kept n c l → Named blocked n (counted l) p → (p ≡ 0 → ⊥)
    → length (without p (counted l)) < n
room_for n c l blocked p kept named other =
    let all : length pointers ≡ length (counted l) = length-map (counted l) (λ (e : Entry). e.pointer) in
    let few : length pointers ≤ n = room_all n pointers kept.apart in
    ⊎_elim
    (λ f.
    let left : length pointers < n = room_left n p pointers kept.apart (omega arith) named.most (free_among (counted l) p f) in
    let all : length pointers ≡ length (counted l) = length-map (counted l) (λ (e : Entry). e.pointer) in
    omega (arith, left, all, length_without p (counted l), kept.room.1))
    (λ e. omega (arith, leaves e.entry (counted l) p e.listed e.pointer, few))
    (named.how other)
  where
    pointers : List ℕ
    pointers = map (λ (e : Entry). e.pointer) (counted l)

-- The pointer's place is in the contract file.
place_inside : (o : Order) (file : List ℕ) (blocked : ℕ → Bool) (es : List Entry) (p : ℕ) → o.c ≤ o.n → length file ≡ 29 * o.n
    → p ≡ place blocked o.n o.c o.counter es → 29 * p ≤ length file
place_inside o file blocked es p counters long named =
    let most : p ≤ o.n = rw (← named) at (placed_free_or_erasable blocked o.n o.c o.counter es counters).most in
    rw long (omega arith)

-- The limits that concern the card.
pub record Card (o : Order) (list file : List ℕ) (lent : Lent) : Type 0 where
  pub lengths_agree : lengths o (lengths_of list file lent) ≡ true
  pub in_limits : limits o (length lent.journal / 29) ≡ true
  pub most : o.n ≤ 8
  pub counters : o.c ≤ o.n
  pub file_long : length file ≡ 29 * o.n
  pub records_long : length lent.records ≡ 29 * o.s
  pub new_long : length lent.new ≡ 29
  pub list_long : length list ≡ 29
  pub entry_fits_law : entry_fits o ≡ true

module _ (o : Order) (list file : List ℕ) (lent : Lent) where
  -- What lengths and limits say of the card where they agree.
  agreed : lengths o (lengths_of list file lent) ≡ true → limits o (length lent.journal / 29) ≡ true → Card o list file lent
  agreed l k =
      let (to_new, codes_ok) = both _ _ l in
      let (to_records, new_ok) = both _ _ to_new in
      let (to_journal, records_ok) = both _ _ to_records in
      let (to_special, journal_ok) = both _ _ to_journal in
      let (to_file, special_ok) = both _ _ to_special in
      let (list_ok, file_ok) = both _ _ to_file in
      let (to_hours, entry_ok) = both _ (entry_fits o) k in
      let (to_minute, hours_ok) = both _ (leb o.hours 255) to_hours in
      let (to_day, minute_ok) = both _ (leb o.minute 1439) to_minute in
      let (to_events, day_ok) = both _ (leb o.day 16383) to_day in
      let (to_specials, events_ok) = both _ (leb (length lent.journal / 29) 15) to_events in
      let (to_counters, specials_ok) = both _ (leb o.s 4) to_specials in
      let (to_most_counters, counters_ok) = both _ (leb o.c o.n) to_counters in
      let (to_most, most_counters_ok) = both _ (leb o.c 4) to_most_counters in
      let (some_ok, most_ok) = both (leb 1 o.n) (leb o.n 8) to_most in
      record {
        lengths_agree = l;
        in_limits = k;
        most = leb-true _ _ most_ok;
        counters = leb-true _ _ counters_ok;
        file_long = eqb-true _ _ file_ok;
        records_long = eqb-true _ _ records_ok;
        new_long = eqb-true _ _ new_ok;
        list_long = eqb-true _ _ list_ok;
        entry_fits_law = entry_ok;
      }

  -- Where nothing is refused unread, they agree.
  pub unread_none : (unread o (lengths_of list file lent)).number ≡ 0 → Card o list file lent
  unread_none = go (lengths o (lengths_of list file lent)) refl (limits o (length lent.journal / 29)) refl
    where
      go : (a : Bool) → lengths o (lengths_of list file lent) ≡ a → (b : Bool) → limits o (length lent.journal / 29) ≡ b
          → (pick {A = Answer} a (pick b (refusal 0 0) (refusal 11 0)) (refusal 1 0)).number ≡ 0 → Card o list file lent
      go true l true k h = agreed l k
      go true l false k h = absurd (omega arith)
      go false l b k h = absurd (omega arith)

  pub refused_unread : (r : Answer) → r ≡ unread o (lengths_of list file lent) → (r.number ≡ 0 → ⊥) → loaded r 0 list file ≡ loading o list file lent
  unfolding loading finding
  refused_unread r same other = go (lengths o (lengths_of list file lent)) (limits o (length lent.journal / 29)) same
    where
      go : (a b : Bool) → r ≡ pick a (pick b (refusal 0 0) (refusal 11 0)) (refusal 1 0)
          → loaded r 0 list file ≡ settled o list file lent.new (needs a 1 (needs b 11 (placing o list lent)))
      go true true e = absurd (other (ap (λ (x : Answer). x.number) e))
      go true false e = rw e
      go false b e = rw e

  module _ (card : Card o list file lent) where
    -- Then all is read.
    read_all : loading o list file lent ≡ settled o list file lent.new (placing o list lent)
    unfolding loading finding
    read_all = rw (card.lengths_agree, card.in_limits)

    module _ (r : ListRead) (same : r ≡ list_read o.n o.c list) where
      refused_list : (r.refusal.number ≡ 0 → ⊥) → loaded r.refusal 0 list file ≡ loading o list file lent
      unfolding placing
      refused_list other = rw (read_all, ← same, ne_eqb _ _ other)

      module _ (reads : r.refusal.number ≡ 0) where
        -- The list read, the rest decides, and then the place.
        read_list : loading o list file lent
            ≡ settled o list file lent.new (next (rest_read o lent) (λ is_blocked. found (counted r.list) (place is_blocked o.n o.c o.counter (counted r.list))))
        unfolding placing rest_read
        read_list =
            rw (read_all, ← same, eq-eqb _ _ reads)
            (ap (settled o list file lent.new) (go (blocking o lent.special lent.journal lent.records lent.codes) (contract_got (contract_read o.kind lent.new))))
          where
            more : (ℕ → Bool) → Attempt Found
            more is_blocked = found (counted r.list) (place is_blocked o.n o.c o.counter (counted r.list))

            go : (t : Attempt (ℕ → Bool)) (u : Attempt Contract)
                → next t (λ is_blocked. next u (λ new. more is_blocked)) ≡ next (next t (λ is_blocked. next u (λ new. got is_blocked))) more
            go (got is_blocked) (got new) = refl
            go (got is_blocked) (stopped y) = refl
            go (stopped y) u = refl

        module _ {marks : List Bool} {x : Answer} (m : Marking (rest_read o lent) (λ b. b) (replicate 9 false) marks x) where
          refused_rest : (x.number ≡ 0 → ⊥) → loaded x 0 list file ≡ loading o list file lent
          refused_rest other = go (rest_read o lent) refl m.answer
            where
              go : (t : Attempt (ℕ → Bool)) → rest_read o lent ≡ t → x ≡ refusal_of t → loaded x 0 list file ≡ loading o list file lent
              go (got b) e h = absurd (other (ap (λ (r : Answer). r.number) h))
              go (stopped y) e h = rw (read_list, e, h)

          named_place : (blocked : ℕ → Bool) (p : ℕ) → rest_read o lent ≡ got blocked
              → p ≡ place blocked o.n o.c o.counter (counted r.list)
              → stored o list file r.list lent.new p ≡ loading o list file lent
          unfolding stored
          named_place blocked p all named = rw (read_list, all, ← named) (go (eqb p 0) refl)
            where
              go : (t : Bool) → eqb p 0 ≡ t
                  → stored o list file r.list lent.new p
                  ≡ settled o list file lent.new (pick (not t) (got (record { entries = counted r.list; pointer = p })) (stopped (refusal 9 0)))
              go true z = rw z
              go false z =
                  let other : p ≡ 0 → ⊥ = eqb-false _ _ z in
                  let read : list_read o.n o.c list ≡ got_list r.list = sym same ∙ rw (← same) at (list_got o.n o.c list (ap (λ (x : ListRead). x.refusal.number) (sym same) ∙ reads)) in
                  let kept = list_kept o.n o.c list r.list read in
                  let names = placed_free_or_erasable blocked o.n o.c o.counter (counted r.list) card.counters in
                  let room : length (without p (counted r.list)) < o.n = room_for o.n o.c r.list blocked p kept (rw (← named) at names) other in
                  let left = without_listing o.c r.list kept.eight (list_fair o.n o.c list r.list read) p in
                  let lists : renewed o r.list p ≡ listing o.c (afterwards (new_entry o p) (counted r.list)) =
                  ap (appended o.c (new_entry o p)) left ∙ appended_listing o.c (new_entry o p) (without p (counted r.list)) (omega (arith, room, card.most)) in
                  rw (z, lists)

          loads : x.number ≡ 0 → stored o list file r.list lent.new (place (marked marks) o.n o.c o.counter (counted r.list)) ≡ loading o list file lent
          loads quiet =
              let (blocked, all, same_place) = place_marked (rest_stops o lent) m quiet in
              named_place blocked _ all (same_place o.n o.c o.counter (counted r.list) card.most card.counters)

      -- What is done when the rest is read, over fresh marks.
      pub ends : {marks : List Bool} {x : Answer} → Marking (rest_read o lent) (λ b. b) (replicate 9 false) marks x
          → ended o list file lent.new x (marked marks) r ≡ loading o list file lent
      unfolding ended
      ends {marks} {x} m = go (eqb r.refusal.number 0) refl (eqb x.number 0) refl
        where
          go : (a : Bool) → eqb r.refusal.number 0 ≡ a → (b : Bool) → eqb x.number 0 ≡ b
              → pick a (pick b (stored o list file r.list lent.new (place (marked marks) o.n o.c o.counter (counted r.list))) (loaded x 0 list file)) (loaded r.refusal 0 list file)
              ≡ loading o list file lent
          go true e true f = loads (eqb-true _ _ e) m (eqb-true _ _ f)
          go true e false f = refused_rest (eqb-true _ _ e) m (eqb-false _ _ f)
          go false e b f = refused_list (eqb-false _ _ e)

    -- What writing the new contract to its place asks for, where the end is accepted.
    pub accepts : {marks : List Bool} {x : Answer} (out : Outcome)
        → out ≡ ended o list file lent.new x (marked marks) (list_read o.n o.c list)
        → Marking (rest_read o lent) (λ b. b) (replicate 9 false) marks x → out.answer.refusal.number ≡ 0
        → (1 ≤ out.answer.pointer) × (29 * out.answer.pointer ≤ length file) × (length lent.new ≡ 29)
        × ((refusal_of (contract_got (contract_read o.kind lent.new))).number ≡ 0)
    accepts {marks} {x} out same m zero =
        let told = end_accepted o list file lent.new x (marked marks) (list_read o.n o.c list) out same zero in
        let (blocked, all, same_place) = place_marked (rest_stops o lent) m told.quiet in (
          omega (arith, told.some),
          place_inside o file (marked marks) (counted (list_read o.n o.c list).list) out.answer.pointer card.counters card.file_long told.named,
          card.new_long,
          rest_contract o lent blocked all,
        )
