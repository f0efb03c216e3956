-- What an entry tells of itself and what its record tells; and the loop over the entries of a list: its turns are the steps of
-- the choice among the counted ones.
use Prim.Native.Nat.{ℕ, zero, suc, ◌+◌, ◌<◌, ◌≤◌}
use mathlib.Core.Bool.{Bool, true, false, ◌&&◌, and-false}
use mathlib.Core.Path.{◌≡◌, refl, ap, ◌∙◌}
use mathlib.Core.List.{List, [], ◌∷◌}
use native.Mathlib.Numerals.{add-one}
use native.Mathlib.Omega.{arith}
use lib.ListN.{length, get_or, take, drop, drop_of_length-le}
use lib.Dec.{eqb, ltb, leb}
use borrow.Author.Tests.{eqb-true, ne_eqb}
use lib.Seq.{drop-cons}
use Rattle.lists.specs.Entries.{counted}
use Rattle.lists.specs.declared.list.ContractList.{ContractList}
use Rattle.lists.specs.declared.list.Entry.{Entry}
use Rattle.rows.specs.Row.{pick}
use Rattle.records.specs.Order.{record_at}
use Rattle.contract.specs.Contract.{contract_read}
use Rattle.contract.specs.declared.Contract.{Contract}
use Rattle.contract.specs.Contract.{ContractRead}
use Rattle.std.specs.Prelude.{⊤, Option, None, Some, Ok, Err}
use Rattle.selection.specs.Eligible.{usable, provides, opens, serves, eligible, nobody, chosen_at, choose}
use Rattle.selection.specs.Eligible as specs
use Rattle.selection.specs.Inner.Question.{may_open, in_question, goes_before, better, selected_at, so_far, sought}
use Rattle.selection.specs.Selection.{choice, chosen}
use Rattle.selection.specs.declared.Selected.{Selected}

-- A key that may not open does not.
opens_not : (operator key : ℕ) (c : Contract) → may_open operator key ≡ false → opens operator key c ≡ false
opens_not operator key c h = go (eqb key 0) (eqb key 15) refl h
  where
    go : (zero fifteen : Bool) → eqb key 15 ≡ fifteen → pick zero true (pick fifteen (leb 15 operator) (eqb key operator)) ≡ false
        → pick zero true (pick (leb key 14) (eqb key operator) (fifteen && leb 15 operator && provides operator c)) ≡ false
    go true fifteen e h = h
    go false true e h = rw (eqb-true key 15 e, h)
    go false false e h = rw h (either (leb key 14))
      where
        either : (t : Bool) → pick t false false ≡ false
        either true = refl
        either false = refl

-- An entry is not taken where it is not in question or its record does not serve.
module _ (day operator : ℕ) (file : List ℕ) (position : ℕ) (e : Entry) (best : Option Selected) where
  abbrev record_serves : Bool
  record_serves = serves day operator e (contract_read e.kind (record_at file e.pointer))

  pub not_better : record_serves ≡ false → best ≡ better (eligible day operator file e) position e best
  not_better s = rw (s, and-false (usable e))

  pub not_in_question : in_question operator e best ≡ false → best ≡ better (eligible day operator file e) position e best
  not_in_question q = go (usable e) (goes_before e best) (contract_read e.kind (record_at file e.pointer)) q
    where
      shut : (r : ContractRead) → may_open operator e.key ≡ false → serves day operator e r ≡ false
      shut (Ok c) h = rw (opens_not operator e.key c h)
      shut (Err r) h = refl

      go : (u g : Bool) (r : ContractRead) → (u && g && may_open operator e.key) ≡ false
          → best ≡ pick ((u && serves day operator e r) && g) (Some (selected_at position e)) best
      go true true r q = rw (shut r q)
      go true false r q = rw (and-false (serves day operator e r))
      go false g r q = refl

-- An entry that was chosen has a position, and no position is 0.
abbrev pub Placed : Option Selected → Type 0
Placed None = ⊤
Placed (Some s) = eqb s.position 0 ≡ false

-- The choice so far and the entries from i on come to the whole choice.
pub record Comes (ok : Entry → Bool) (es : List Entry) (i : ℕ) (best : Option Selected) : Type 0 where
  pub to : choose ok (suc i) (so_far best) (drop i es) ≡ choose ok 1 nobody es
  pub placed : Placed best

pub begun : (ok : Entry → Bool) (es : List Entry) → Comes ok es 0 None
begun ok es = record { to = refl; placed = tt }

-- A step of the choice in code is one of the choice.
stepped : (t : Bool) (position : ℕ) (e : Entry) (best : Option Selected) → Placed best
    → so_far (better t position e best) ≡ specs.better t position e (so_far best)
stepped true position e None placed = refl
stepped false position e None placed = refl
stepped t position e (Some s) placed = rw placed (go (t && ltb e.priority s.priority))
  where
    go : (u : Bool) → so_far (pick u (Some (selected_at position e)) (Some s)) ≡ pick u (chosen_at position e) (so_far (Some s))
    go true = refl
    go false = refl

step_placed : (t : Bool) (k : ℕ) (e : Entry) (best : Option Selected) → Placed best → Placed (better t (suc k) e best)
step_placed t k e best placed = go (t && goes_before e best)
  where
    go : (u : Bool) → Placed (pick u (Some (selected_at (suc k) e)) best)
    go true = ne_eqb (suc k) 0 (λ z. omega arith)
    go false = placed

-- An entry is the next to be looked at.
pub turn : (ok : Entry → Bool) (es : List Entry) (i : ℕ) (best next : Option Selected) (d : Entry) → i < length es
    → next ≡ better (ok (get_or es i d)) (i + 1) (get_or es i d) best
    → Comes ok es i best
    → Comes ok es (i + 1) next
turn ok es i best next d h e so =
    let entry : Entry = get_or es i d in
    let step = stepped (ok entry) (suc i) entry best so.placed in
    rw (e, add-one i)
    (record { to = rw step (rw (drop-cons es i d h) at so.to); placed = step_placed (ok entry) i entry best so.placed })

-- The counted entries, by their number.
counted_again : (n : ℕ) (es : List Entry) → take (length (take n es)) es ≡ take n es
counted_again zero es = refl
counted_again (suc n) [] = refl
counted_again (suc n) (e ∷ es) = ap (λ (l : List Entry). e ∷ l) (counted_again n es)

pub ended : (day operator : ℕ) (file : List ℕ) (l : ContractList) (n i : ℕ) (best : Option Selected) → n ≡ length (counted l)
    → length (take n l.entries) ≤ i → Comes (eligible day operator file) (take n l.entries) i best
    → sought best ≡ chosen (choice day operator file l)
ended day operator file l n i best all h so =
    let items : take n l.entries ≡ counted l = ap (λ (k : ℕ). take k l.entries) all ∙ counted_again l.count l.entries in
    let whole : so_far best ≡ choice day operator file l = rw items at (rw (drop_of_length-le (take n l.entries) {i = i} h) at so.to) in
    go best so.placed ∙ ap chosen whole
  where
    go : (b : Option Selected) → Placed b → sought b ≡ chosen (so_far b)
    go None placed = refl
    go (Some s) placed = rw placed
