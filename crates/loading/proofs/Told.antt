-- Which refusals the steps of loading can give: none is 0, so that the number tells whether there was one, and none but the last
-- is 9.
use Prim.Native.Nat.{ℕ, zero, suc, ◌/◌}
use mathlib.Core.Path.{◌≡◌, refl, sym}
use mathlib.Core.List.{List, [], ◌∷◌}
use mathlib.Core.Bool.{Bool, true}
use native.Mathlib.Omega.{arith}
use lib.ListN.{length}
use borrow.Author.Tests.{ne_eqb}
use Rattle.rows.proofs.Refusing.{Refusing, within, among_within}
use Rattle.records.specs.Event.{event_read}
use Rattle.records.specs.Order.{Attempt, got, stopped, next, record_from, events}
use Rattle.records.specs.Order as order
use Rattle.records.specs.Answer.{Answer}
use Rattle.records.proofs.Coming.{ComesTo, fine, faulty}
use Rattle.records.proofs.event.Laws.{event_comes}
use Rattle.lists.specs.List.{list_read}
use Rattle.lists.specs.Entries.{attempted}
use Rattle.lists.specs.Special.{special_read}
use Rattle.lists.proofs.list.Laws.{list_comes}
use Rattle.lists.proofs.special.Laws.{special_comes}
use Rattle.contract.specs.Contract.{contract_read}
use Rattle.contract.specs.declared.Contract.{Contract}
use Rattle.contract.proofs.Laws.{contract_comes}
use Rattle.loading.specs.Loading.{Lent, specials, contract_got, blocking}
use Rattle.loading.specs.Inner.Marks.{refusal_of}
use Rattle.loading.specs.Inner.Store.{rest_read}
use Rattle.loading.specs.declared.Order.{Order}

pub apart : {A X : Type 0} {a : A} {r : Answer} → got a ≡ stopped r → X
apart h = let z : ◌≡◌ {A = ℕ} 0 1 = cc in absurd (omega arith)

-- The refusals of the lengths, the limits and all that is read.
abbrev pub readings : List ℕ
readings = 1 ∷ 11 ∷ 2 ∷ 3 ∷ 4 ∷ 5 ∷ 6 ∷ []

-- Steps that come to a value or to one of them.
abbrev pub Stops : {A : Type 0} → Attempt A → Type 0
Stops (got a) = Unit {0}
Stops (stopped r) = Refusing r.number r.field readings

pub no_refusal : {A : Type 0} (t : Attempt A) → Stops t → (refusal_of t).number ≡ 0 → (a : A) × (t ≡ got a)
no_refusal (got a) told z = (a, refl)
no_refusal (stopped r) told z = absurd (told.some z)

next_stops : {A B : Type 0} (t : Attempt A) (more : A → Attempt B) → Stops t → ((a : A) → Stops (more a)) → Stops (next t more)
next_stops (got a) more first then = then a
next_stops (stopped r) more first then = first

-- A step that takes an answer for what it comes to.
comes_stops : {A B C : Type 0} {good : A → B} {bad : Answer → B} (attempt : B → Attempt C) → ((a : A) → Stops (attempt (good a)))
    → ((r : Answer) → Refusing r.number r.field readings → Stops (attempt (bad r)))
    → {ns : List ℕ} {b : B} → ComesTo good bad ns b → within ns readings ≡ true
    → Stops (attempt b)
comes_stops attempt takes refuses (fine a) all = takes a
comes_stops attempt takes refuses {ns} (faulty r why) all =
    refuses r (record { some = why.some; listed = among_within r.number ns readings all why.listed; named = why.named })

pub events_stop : (n : ℕ) (file : List ℕ) (i : ℕ) → Stops (events n file i)
events_stop zero file i = tt
events_stop (suc n) file i =
    next_stops (order.attempted (event_read (record_from file i))) _
    (comes_stops order.attempted (λ e. tt) (λ r why. why) (event_comes (record_from file i)) refl)
    (λ e. next_stops (events n file (suc i)) _ (events_stop n file (suc i)) (λ es. tt))

pub list_stops : (n c : ℕ) (bytes : List ℕ) → Stops (attempted (list_read n c bytes))
list_stops n c bytes = comes_stops attempted (λ l. tt) (λ r why. rw (ne_eqb _ _ why.some) why) (list_comes n c bytes) refl

specials_stop : (s : ℕ) (bytes : List ℕ) → Stops (specials (special_read s bytes))
specials_stop s bytes = comes_stops specials (λ l. tt) (λ r why. rw (ne_eqb _ _ why.some) why) (special_comes s bytes) refl

pub contract_stops : (kind : ℕ) (bytes : List ℕ) → Stops (contract_got (contract_read kind bytes))
contract_stops kind bytes = comes_stops contract_got (λ c. tt) (λ r why. why) (contract_comes kind bytes) refl

pub blocking_stops : (o : Order) (special journal records codes : List ℕ) → Stops (blocking o special journal records codes)
unfolding blocking
blocking_stops o special journal records codes =
    next_stops (specials (special_read o.s special)) _ (specials_stop o.s special)
    (λ entries. next_stops (events (length journal / 29) journal 0) _ (events_stop (length journal / 29) journal 0)
    (λ es. next_stops (events o.s records 0) _ (events_stop o.s records 0) (λ fs. tt)))

pub rest_stops : (o : Order) (lent : Lent) → Stops (rest_read o lent)
unfolding rest_read
rest_stops o lent =
    next_stops (blocking o lent.special lent.journal lent.records lent.codes) _
    (blocking_stops o lent.special lent.journal lent.records lent.codes)
    (λ is_blocked. next_stops (contract_got (contract_read o.kind lent.new)) _ (contract_stops o.kind lent.new) (λ new. tt))

-- Where the rest is read, so is the new contract.
pub rest_contract : (o : Order) (lent : Lent) (b : ℕ → Bool) → rest_read o lent ≡ got b → (refusal_of (contract_got (contract_read o.kind lent.new))).number ≡ 0
unfolding rest_read
rest_contract o lent b = go (blocking o lent.special lent.journal lent.records lent.codes) (contract_got (contract_read o.kind lent.new))
  where
    go : (t : Attempt (ℕ → Bool)) (u : Attempt Contract) → next t (λ is_blocked. next u (λ new. got is_blocked)) ≡ got b → (refusal_of u).number ≡ 0
    go t (got c) e = refl
    go (got a) (stopped r) e = apart (sym e)
    go (stopped s) (stopped r) e = apart (sym e)
