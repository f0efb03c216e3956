-- What loading promises: the pointer is the one that the rule names, 9 exactly where it names none, nothing else on the card
-- changes, and no entry leaves the list that was not erasable.
use Prim.Native.Nat.{ℕ, ◌+◌, ◌-◌, ◌*◌, ◌/◌, ◌≤◌, ◌<◌}
use mathlib.Core.Bool.{Bool, true, false, not, ◌||◌, true≢false}
use mathlib.Core.List.Memᴰ
use mathlib.Core.List.{List, [], ◌∷◌, ◌++◌, map, Memᴰ, map-append, append_assoc}
use mathlib.Core.Path.{◌≡◌, refl, sym, ap, ◌∙◌}
use mathlib.Core.Logic.{⊎_elim}
use native.Mathlib.Omega.{arith}
use lib.Dec.{eqb, ltb, leb}
use lib.ListN.{length, take, drop, length-append, length-drop, take-append-drop}
use lib.Seq.{length-take-le, take_at, drop_at, drop-append-le, take-append-le, drop-append-add, drop-drop}
use borrow.Author.Tests.{eq-eqb, ne_eqb, eqb-true, eqb-false, ltb-true, ltb-false, leb-true, not-true}
use Rattle.rows.specs.Row.{pick, among}
use Rattle.rows.proofs.Margins.{both}
use Rattle.rows.proofs.Refusing.{Refusing}
use Rattle.records.specs.Answer.{Written, refusal, accepted, Answer}
use Rattle.records.specs.Order.{Attempt, got, stopped, next, needs, record_from}
use Rattle.records.proofs.Coming.{ComesTo, fine, faulty, comes_within, stops, written_taken}
use Rattle.lists.specs.List.{got_list, list_read, list_written}
use Rattle.lists.specs.Entries.{counted, listing, attempted, without, list_bits, overfull}
use Rattle.lists.specs.declared.list.Entry.{Entry}
use Rattle.lists.specs.declared.list.ContractList.{ContractList}
use Rattle.lists.proofs.Kept.{Apart, list_kept, list_got, one_each, apart_afterwards, list_was_read}
use Rattle.lists.proofs.Sounding.{Good, made_good, good_without, good_append, read_good, written_or_two}
use Rattle.lists.proofs.list.Laws.{list_write_read, list_write_comes}
use Rattle.contract.specs.Contract.{contract_read, ContractRead}
use Rattle.contract.specs.declared.Contract.{Contract}
use Rattle.std.specs.Prelude.{Ok, Err}
use Rattle.loading.specs.Place.{erasable, place, afterwards}
use Rattle.loading.specs.Loading.{Lent, Found, found, Outcome, contract_got, lengths, lengths_of, entry_fits, limits, loaded, both_or_neither, new_entry, placed, blocking, placing, finding, settled, loading, Loaded}
use Rattle.loading.specs.declared.Order.{Order}
use Rattle.loading.proofs.Placing.{Named, placed_free_or_erasable}
use Rattle.loading.proofs.Told.{apart, readings, Stops, list_stops, blocking_stops, contract_stops}
use Rattle.loading.proofs.Ending.{Card, unread_none, free_among, room_for}

-- The contract file with a record at its place: that record, and every other.
module _ (p : ℕ) (new file : List ℕ) (long : length new ≡ 29) (room : 29 * (p - 1) + 29 ≤ length file) where
  front : length (take (29 * (p - 1)) file) ≡ 29 * (p - 1)
  front = length-take-le (29 * (p - 1)) file (omega arith)

  placed_own : record_from (placed p new file) (p - 1) ≡ new
  placed_own = rw (drop_at (take (29 * (p - 1)) file) _ (29 * (p - 1)) front) (take_at new _ 29 long)

  -- A record in front is one of the front's alone.
  in_front : (k : ℕ) (rest : List ℕ) → k < p - 1 → record_from (take (29 * (p - 1)) file ++ rest) k ≡ record_from (take (29 * (p - 1)) file) k
  in_front k rest h =
      let inside : 29 * k ≤ length (take (29 * (p - 1)) file) = omega (arith, front) in
      let whole : 29 ≤ length (drop (29 * k) (take (29 * (p - 1)) file)) = simp length-drop (omega (arith, front)) in
      rw (drop-append-le (29 * k) (take (29 * (p - 1)) file) rest inside) (take-append-le 29 (drop (29 * k) (take (29 * (p - 1)) file)) rest whole)

  placed_other : (k : ℕ) → (k ≡ p - 1 → ⊥) → record_from (placed p new file) k ≡ record_from file k
  placed_other k other = go (ltb k (p - 1)) refl
    where
      at : ℕ
      at = 29 * (p - 1)

      go : (t : Bool) → ltb k (p - 1) ≡ t → record_from (placed p new file) k ≡ record_from file k
      go true e =
          let h : k < p - 1 = ltb-true _ _ e in
          in_front k _ h ∙ sym (ap (λ (l : List ℕ). record_from l k) (sym (take-append-drop (29 * (p - 1)) file)) ∙ in_front k _ h)
      go false e =
          let h : p - 1 ≤ k = ltb-false _ _ e in
          let m : ℕ = 29 * k - (29 * (p - 1) + 29) in
          let up : 29 * (p - 1) + 29 + m ≡ 29 * k = omega arith in
          let size : length (take (29 * (p - 1)) file ++ new) ≡ 29 * (p - 1) + 29 = rw (length-append, front, long) in
          let parts : placed p new file ≡ (take (29 * (p - 1)) file ++ new) ++ drop (29 * (p - 1) + 29) file = sym (append_assoc (take (29 * (p - 1)) file) new (drop (29 * (p - 1) + 29) file)) in
          let far : length (take (29 * (p - 1)) file ++ new) + m ≡ 29 * k = omega (arith, size, up) in
          let past : drop (29 * k) (placed p new file) ≡ drop (29 * k) file =
          ap (drop (29 * k)) parts ∙ rw far at (drop-append-add (take (29 * (p - 1)) file ++ new) (drop (29 * (p - 1) + 29) file) m)
          ∙ drop-drop m (29 * (p - 1) + 29) file ∙ ap (λ (j : ℕ). drop j file) up in
          ap (take 29) past

-- A listed entry's pointer is not free.
listed_among : (es : List Entry) (e : Entry) → Memᴰ e es → among e.pointer (map (λ (x : Entry). x.pointer) es) ≡ true
listed_among [] e there = elim there [ ]
listed_among (x ∷ es) e (Memᴰ.head here) = rw (eq-eqb _ _ (ap (λ (y : Entry). y.pointer) (sym here)))
listed_among (x ∷ es) e (Memᴰ.tail there) = go (eqb x.pointer e.pointer) (listed_among es e there)
  where
    go : (t : Bool) {u : Bool} → u ≡ true → (t || u) ≡ true
    go true h = refl
    go false h = h

-- An entry of another pointer is left.
left_over : (es : List Entry) (e : Entry) (p : ℕ) → Memᴰ e es → (e.pointer ≡ p → ⊥) → Memᴰ e (without p es)
left_over [] e p there other = elim there [ ]
left_over (x ∷ es) e p (Memᴰ.head here) other =
    let kept : eqb x.pointer p ≡ false = ne_eqb _ _ (λ same. other (ap (λ (y : Entry). y.pointer) here ∙ same)) in
    rw kept (Memᴰ.head here)
left_over (x ∷ es) e p (Memᴰ.tail there) other = go (eqb x.pointer p) (left_over es e p there other)
  where
    go : (t : Bool) → Memᴰ e (without p es) → Memᴰ e (pick t (without p es) (x ∷ without p es))
    go true m = m
    go false m = Memᴰ.tail m

-- All that was read: the list, the pointers that the events block, the new contract; and the pointer that the rule names.
pub record AllRead (o : Order) (list file : List ℕ) (lent : Lent) : Type 0 where
  pub card : Card o list file lent
  pub l : ContractList
  pub reads : list_read o.n o.c list ≡ got_list l
  pub blocked : ℕ → Bool
  pub events : blocking o lent.special lent.journal lent.records lent.codes ≡ got blocked
  pub new : Contract
  pub contract : contract_read o.kind lent.new ≡ Ok new

-- The pointer that the rule names then.
abbrev pub named_by : {o : Order} {list file : List ℕ} {lent : Lent} → AllRead o list file lent → ℕ
named_by {o} a = place a.blocked o.n o.c o.counter (counted a.l)

-- The entries of the list afterwards.
abbrev pub entries_after : {o : Order} {list file : List ℕ} {lent : Lent} → AllRead o list file lent → List Entry
entries_after {o} a = afterwards (new_entry o (named_by a)) (counted a.l)

-- The writing of the list afterwards.
abbrev list_after : {o : Order} {list file : List ℕ} {lent : Lent} → AllRead o list file lent → Written
list_after {o} {list} a = list_written o.n o.c (listing o.c (entries_after a)) list

attempted_got : (n c : ℕ) (list : List ℕ) (l : ContractList) → attempted (list_read n c list) ≡ got l → list_read n c list ≡ got_list l
attempted_got n c list l = go (eqb (list_read n c list).refusal.number 0) refl
  where
    go : (t : Bool) → eqb (list_read n c list).refusal.number 0 ≡ t → pick t (got (list_read n c list).list) (stopped (list_read n c list).refusal) ≡ got l → list_read n c list ≡ got_list l
    go true e h = let same : (list_read n c list).list ≡ l = cc in list_got n c list (eqb-true _ _ e) ∙ ap got_list same
    go false e h = apart (sym h)

contract_got_law : (r : ContractRead) (c : Contract) → contract_got r ≡ got c → r ≡ Ok c
contract_got_law (Ok d) c h = cc
contract_got_law (Err x) c h = apart (sym h)

-- How the steps before the last end: with a refusal; with all read, and no pointer named; with a pointer.
data Ended (o : Order) (list file : List ℕ) (lent : Lent) : Attempt Found → Type 0 where
  halted : (r : Answer) → Refusing r.number r.field readings → Ended o list file lent (stopped r)
  nowhere : (a : AllRead o list file lent) → named_by a ≡ 0 → Ended o list file lent (stopped (refusal 9 0))
  somewhere : (a : AllRead o list file lent) → (named_by a ≡ 0 → ⊥) → Ended o list file lent (got (record { entries = counted a.l; pointer = named_by a }))

finding_ended : (o : Order) (list file : List ℕ) (lent : Lent) → Ended o list file lent (finding o list file lent)
unfolding finding placing
finding_ended o list file lent =
    go (lengths o (lengths_of list file lent)) refl (limits o (length lent.journal / 29)) refl
    (attempted (list_read o.n o.c list)) refl (list_stops o.n o.c list)
    (blocking o lent.special lent.journal lent.records lent.codes) refl (blocking_stops o lent.special lent.journal lent.records lent.codes)
    (contract_got (contract_read o.kind lent.new)) refl (contract_stops o.kind lent.new)
  where
    named : (a : AllRead o list file lent) (t : Bool) → eqb (named_by a) 0 ≡ t
        → Ended o list file lent (needs (not t) 9 (got (record { entries = counted a.l; pointer = named_by a })))
    named a true e = nowhere a (eqb-true _ _ e)
    named a false e = somewhere a (eqb-false _ _ e)

    go : (a : Bool) → lengths o (lengths_of list file lent) ≡ a → (b : Bool) → limits o (length lent.journal / 29) ≡ b
        → (t : Attempt ContractList) → attempted (list_read o.n o.c list) ≡ t → Stops t
        → (u : Attempt (ℕ → Bool)) → blocking o lent.special lent.journal lent.records lent.codes ≡ u → Stops u
        → (w : Attempt Contract) → contract_got (contract_read o.kind lent.new) ≡ w → Stops w
        → Ended o list file lent
        (needs a 1 (needs b 11 (next t (λ l. next u (λ blocked. next w (λ new. found (counted l) (place blocked o.n o.c o.counter (counted l))))))))
    go false ea b eb t et st u eu su w ew sw = halted (refusal 1 0) (record { some = λ z. omega arith; listed = refl; named = refl })
    go true ea false eb t et st u eu su w ew sw = halted (refusal 11 0) (record { some = λ z. omega arith; listed = refl; named = refl })
    go true ea true eb (stopped r) et st u eu su w ew sw = halted r st
    go true ea true eb (got l) et st (stopped r) eu su w ew sw = halted r su
    go true ea true eb (got l) et st (got blocked) eu su (stopped r) ew sw = halted r sw
    go true ea true eb (got l) et st (got blocked) eu su (got new) ew sw =
        let all : AllRead o list file lent =
        record {
          card = unread_none o list file lent (rw (ea, eb));
          l = l;
          reads = attempted_got o.n o.c list l et;
          blocked = blocked;
          events = eu;
          new = new;
          contract = contract_got_law (contract_read o.kind lent.new) new ew;
        } in
        named all (eqb (named_by all) 0) refl

-- And the other way round.
read_found : {o : Order} {list file : List ℕ} {lent : Lent} (a : AllRead o list file lent)
    → finding o list file lent ≡ found (counted a.l) (named_by a)
unfolding finding placing
read_found a = rw (a.card.lengths_agree, a.card.in_limits, a.reads, a.events, a.contract)

-- The new entry is one that a list may count.
new_good : (o : Order) (p : ℕ) → entry_fits o ≡ true → p ≤ 8 → Good (new_entry o p)
new_good o p fits few =
    let (to_defined, network) = both _ _ fits in
    let (to_priority, defined) = both _ _ to_defined in
    let (to_kind, priority) = both _ _ to_priority in
    let (key, kind) = both _ _ to_kind in
    made_good o.has_network o.network o.key o.kind o.priority p network (leb-true _ _ key) (leb-true _ _ kind) (leb-true _ _ priority) (eqb-false _ _ (not-true _ defined)) few

-- The list afterwards is written, or it does not fit.
list_or_two : {o : Order} {list file : List ℕ} {lent : Lent} (a : AllRead o list file lent) → (named_by a ≡ 0 → ⊥)
    → (list_after a).answer ≡ pick (leb (list_bits (entries_after a)) 232) (refusal 0 0) (overfull (entries_after a))
list_or_two {o} {list} a some =
    let p : ℕ = named_by a in
    let es : List Entry = counted a.l in
    let kept = list_kept o.n o.c list a.l a.reads in
    let names = placed_free_or_erasable a.blocked o.n o.c o.counter es a.card.counters in
    let most : p ≤ o.n = names.most in
    let eight : o.n ≤ 8 = a.card.most in
    let low : 1 ≤ p = omega arith in
    let room : length (without p es) < o.n = room_for o.n o.c a.l a.blocked p kept names some in
    let few : length (afterwards (new_entry o p) es) ≤ o.n = rw (length-append (without p es) (new_entry o p ∷ [])) (omega arith) in
    let good = good_append (without p es) (new_entry o p) (good_without p es (read_good o.n o.c list a.l a.reads)) (new_good o p a.card.entry_fits_law (omega arith)) in
    let apart : Apart o.n [] (map (λ (e : Entry). e.pointer) (afterwards (new_entry o p) es)) =
    rw (map-append (λ (e : Entry). e.pointer) (without p es) (new_entry o p ∷ [])) (apart_afterwards o.n p es low most kept.apart) in
    written_or_two o.n o.c (afterwards (new_entry o p) es) good apart few eight list a.card.list_long (list_was_read o.n o.c list a.l a.reads).limits

-- And loading answers accordingly.
answers : (list file : List ℕ) (p : ℕ) (es : List Entry) (w : Written) (later : List ℕ) (fits : Bool) → w.answer ≡ pick fits (refusal 0 0) (overfull es)
    → (both_or_neither list file p w later).answer ≡ pick fits (record { refusal = refusal 0 0; pointer = p }) (record { refusal = overfull es; pointer = 0 })
answers list file p es w later true e = rw e
answers list file p es w later false e = rw e

-- Loading that was accepted: the pointer is the one that the rule names on what was read; the contract list is written with the
-- old entries in order, without any of that pointer, then the new one; the contract file has the new record at its place.
pub record Accepted (o : Order) (list file : List ℕ) (lent : Lent) (out : Outcome) : Type 0 where
  pub all : AllRead o list file lent
  pub named : out.answer.pointer ≡ named_by all
  pub pointer : out.answer.pointer ≡ 0 → ⊥
  pub listed : list_written o.n o.c (listing o.c (afterwards (new_entry o out.answer.pointer) (counted all.l))) list ≡ accepted out.list
  pub filed : out.file ≡ placed out.answer.pointer lent.new file

-- What loading leaves where it is accepted, of a pointer and both buffers; and where it is refused.
abbrev pub loaded_as : ℕ × List ℕ × List ℕ → Outcome
loaded_as x = loaded (refusal 0 0) x.0 x.1 x.2

abbrev pub unloaded : List ℕ → List ℕ → Answer → Outcome
unloaded list file r = loaded r 0 list file

module _ (o : Order) (list file : List ℕ) (lent : Lent) where
  abbrev out : Outcome
  out = loading o list file lent

  -- The refusals of loading.
  pub load_comes : ComesTo loaded_as (unloaded list file) (1 ∷ 11 ∷ 2 ∷ 3 ∷ 4 ∷ 5 ∷ 6 ∷ 9 ∷ []) out
  unfolding loading
  load_comes = go (finding_ended o list file lent)
    where
      Comes : Outcome → Type 0
      Comes x = ComesTo loaded_as (unloaded list file) (1 ∷ 11 ∷ 2 ∷ 3 ∷ 4 ∷ 5 ∷ 6 ∷ 9 ∷ []) x

      stores : (p : ℕ) (es : List Entry) (w : Written) (after : List ℕ) (fits : Bool) → w.answer ≡ pick fits (refusal 0 0) (overfull es)
          → Comes (both_or_neither list file p w after)
      stores p es w after true e = rw e (fine (p, w.bytes, after))
      stores p es w after false e = rw e (stops (overfull es) refl refl refl)

      go : {t : Attempt Found} → Ended o list file lent t → Comes (settled o list file lent.new t)
      go (halted r why) = comes_within (faulty r why) refl
      go (nowhere a none) = stops (refusal 9 0) refl refl refl
      go (somewhere a some) =
          stores (named_by a) (entries_after a) (list_after a) (placed (named_by a) lent.new file) (leb (list_bits (entries_after a)) 232) (list_or_two a some)

  -- Refused, both are as they were, and the pointer is 0.
  pub refused_unchanged : (out.answer.refusal.number ≡ 0 → ⊥) → (out.list ≡ list) × (out.file ≡ file) × (out.answer.pointer ≡ 0)
  refused_unchanged = go load_comes
    where
      go : {ns : List ℕ} {x : Outcome} → ComesTo loaded_as (unloaded list file) ns x
          → (x.answer.refusal.number ≡ 0 → ⊥) → (x.list ≡ list) × (x.file ≡ file) × (x.answer.pointer ≡ 0)
      go (fine x) h = absurd (h refl)
      go (faulty r why) h = (refl, refl, refl)

  -- Accepted, it did what the rule says.
  pub accepted_loading : out.answer.refusal.number ≡ 0 → Accepted o list file lent out
  unfolding loading
  accepted_loading = go (finding_ended o list file lent)
    where
      stores : (a : AllRead o list file lent) → (named_by a ≡ 0 → ⊥) → (w : Written) → list_after a ≡ w
          → (t : Bool) → eqb w.answer.number 0 ≡ t
          → (pick t (loaded (refusal 0 0) (named_by a) w.bytes (placed (named_by a) lent.new file)) (loaded w.answer 0 list file)).answer.refusal.number ≡ 0
          → Accepted o list file lent (pick t (loaded (refusal 0 0) (named_by a) w.bytes (placed (named_by a) lent.new file)) (loaded w.answer 0 list file))
      stores a some w e true z h =
          let zero = eqb-true _ _ z in
          let comes = list_write_comes o.n o.c (listing o.c (afterwards (new_entry o (named_by a)) (counted a.l))) list in
          let taken : w ≡ accepted w.bytes = rw e at (written_taken list comes (rw e zero)) in
          record { all = a; named = refl; pointer = some; listed = e ∙ taken; filed = refl }
      stores a some w e false z h = absurd (eqb-false _ _ z h)

      go : {t : Attempt Found} → Ended o list file lent t → (settled o list file lent.new t).answer.refusal.number ≡ 0
          → Accepted o list file lent (settled o list file lent.new t)
      go (halted r why) h = absurd (why.some h)
      go (nowhere a none) h = absurd (omega arith)
      go (somewhere a some) h = stores a some _ refl _ refl h

  -- The list afterwards reads as the old entries in order, without any of the pointer, then the new one.
  pub list_afterwards : (a : Accepted o list file lent out)
      → list_read o.n o.c out.list ≡ got_list (listing o.c (afterwards (new_entry o out.answer.pointer) (counted a.all.l)))
  list_afterwards a = list_write_read o.n o.c list out.list _ refl a.listed

  inside : (a : Accepted o list file lent out) → 29 * (out.answer.pointer - 1) + 29 ≤ length file
  inside a =
      let card = a.all.card in
      let most : out.answer.pointer ≤ o.n = rw (← a.named) at (placed_free_or_erasable a.all.blocked o.n o.c o.counter (counted a.all.l) card.counters).most in
      let some = a.pointer in
      let long : length file ≡ 29 * o.n = card.file_long in
      omega arith

  -- The new record stands at its place,
  pub record_afterwards : Accepted o list file lent out → record_from out.file (out.answer.pointer - 1) ≡ lent.new
  record_afterwards a = ap (λ (l : List ℕ). record_from l (out.answer.pointer - 1)) a.filed ∙ placed_own out.answer.pointer lent.new file a.all.card.new_long (inside a)

  -- where it reads as the new contract;
  pub contract_afterwards : (a : Accepted o list file lent out) → contract_read o.kind (record_from out.file (out.answer.pointer - 1)) ≡ Ok a.all.new
  contract_afterwards a = rw (record_afterwards a) a.all.contract

  -- every other contract record is as before.
  pub rest_kept : Accepted o list file lent out → (k : ℕ) → (k ≡ out.answer.pointer - 1 → ⊥) → record_from out.file k ≡ record_from file k
  rest_kept a k other =
      ap (λ (l : List ℕ). record_from l k) a.filed ∙ placed_other out.answer.pointer lent.new file a.all.card.new_long (inside a) k other

  -- No entry leaves the list that was not erasable.
  pub erasable_leaves : (a : Accepted o list file lent out) (e : Entry) → Memᴰ e (counted a.all.l) → e.pointer ≡ out.answer.pointer
      → erasable a.all.blocked e ≡ true
  erasable_leaves a e listed own =
      let es : List Entry = counted a.all.l in
      let p : ℕ = out.answer.pointer in
      let names : Named a.all.blocked o.n es p = rw (← a.named) at (placed_free_or_erasable a.all.blocked o.n o.c o.counter es a.all.card.counters) in
      ⊎_elim
      (λ f. absurd (true≢false (sym (listed_among es e listed) ∙ rw (← own) at (free_among es p f))))
      (λ x.
      let same : e ≡ x.entry = one_each o.n [] es e x.entry (list_kept o.n o.c list a.all.l a.all.reads).apart listed x.listed (own ∙ sym x.pointer) in
      rw same x.may)
      (names.how a.pointer)

  -- An entry of another pointer stays.
  pub others_stay : (a : Accepted o list file lent out) (e : Entry) → Memᴰ e (counted a.all.l) → (e.pointer ≡ out.answer.pointer → ⊥)
      → Memᴰ e (afterwards (new_entry o out.answer.pointer) (counted a.all.l))
  others_stay a e listed other = Memᴰ.append_left _ (left_over (counted a.all.l) e out.answer.pointer listed other)

  -- 9 exactly where all reads and the rule names none.
  pub nine_none : out.answer.refusal.number ≡ 9 → (a : AllRead o list file lent) × (named_by a ≡ 0)
  unfolding loading
  nine_none = go (finding_ended o list file lent)
    where
      zero_or_two : (fits : Bool) (p : ℕ) (es : List Entry) (x : Loaded)
          → x ≡ pick fits (record { refusal = refusal 0 0; pointer = p }) (record { refusal = overfull es; pointer = 0 }) → x.refusal.number ≡ 9 → ⊥
      zero_or_two true p es x e h = let z : ◌≡◌ {A = ℕ} 0 9 = rw e at h in omega arith
      zero_or_two false p es x e h = let z : ◌≡◌ {A = ℕ} 2 9 = rw e at h in omega arith

      go : {t : Attempt Found} → Ended o list file lent t → (settled o list file lent.new t).answer.refusal.number ≡ 9
          → (a : AllRead o list file lent) × (named_by a ≡ 0)
      go (halted r why) h = absurd (true≢false (sym (rw h at why.listed)))
      go (nowhere a none) h = (a, none)
      go (somewhere a some) h =
          let fits : Bool = leb (list_bits (entries_after a)) 232 in
          absurd (zero_or_two fits (named_by a) (entries_after a) _ (answers list file (named_by a) (entries_after a) (list_after a) (placed (named_by a) lent.new file) fits (list_or_two a some)) h)

  pub none_nine : (a : AllRead o list file lent) → named_by a ≡ 0 → out ≡ loaded (refusal 9 0) 0 list file
  unfolding loading
  none_nine a none = rw (read_found a, eq-eqb _ _ none)

  -- Where all reads and the rule names a pointer, it is accepted exactly if the list afterwards takes at most a record's 232 bits;
  -- else it is 2, at the first field of that list that ends past them, which it names.
  pub loads_or_two : (a : AllRead o list file lent) → (named_by a ≡ 0 → ⊥)
      → out.answer
      ≡ pick (leb (list_bits (entries_after a)) 232)
      (record { refusal = refusal 0 0; pointer = named_by a })
      (record { refusal = overfull (entries_after a); pointer = 0 })
  unfolding loading
  loads_or_two a some =
      rw (read_found a, ne_eqb _ _ some)
      (answers list file (named_by a) (entries_after a) _ _ (leb (list_bits (entries_after a)) 232) (list_or_two a some))
