-- Which contract is chosen, and when none is; the part that is handed on.
use Prim.Native.Nat.{ℕ, zero, suc, ◌+◌, ◌-◌, ◌*◌, ◌/◌, ◌≤◌, ◌<◌}
use mathlib.Core.Bool.{Bool, true, false, ◌&&◌, true≢false}
use mathlib.Core.List.{List, [], ◌∷◌, ◌++◌, map}
use mathlib.Core.Path.{◌≡◌, refl, sym, ap, ◌∙◌}
use native.Mathlib.Omega.{arith}
use lib.Dec.{eqb, leb}
use lib.ListN.{length, drop, length-drop}
use lib.Seq.{length-take-le}
use borrow.Author.Tests.{eqb-true, eq-eqb, ne_eqb, leb-true, le-leb}
use Rattle.rows.proofs.Refusing.{Refusing}
use Rattle.records.specs.Answer.{Answer, refusal}
use Rattle.records.specs.Order.{Attempt, next, needs, record_at}
use Rattle.records.proofs.Coming.{ComesTo, fine, faulty, comes_within, stops}
use Rattle.lists.specs.List.{got_list, no_list, list_read}
use Rattle.lists.specs.Entries.{counted, attempted}
use Rattle.lists.specs.declared.list.ContractList.{ContractList}
use Rattle.lists.specs.declared.list.Entry.{Entry}
use Rattle.lists.specs.List.{ListRead}
use Rattle.lists.proofs.Kept.{Apart, list_kept}
use Rattle.lists.proofs.list.Laws.{list_comes}
use Rattle.selection.specs.Eligible.{Selection, eligible, nobody, chosen_at}
use Rattle.selection.specs.Selection.{unselected, answer, choice, chosen, selecting, selected, part_of}
use Rattle.selection.proofs.Least.{nth, Came, kept, taken, choice_came}

-- The counted entry at a position, from 1.
abbrev pub entry_at : ContractList → ℕ → Entry
entry_at l position = nth (counted l) (position - 1)

-- Entries whose pointers keep the rule of lists have them from 1 to n.
pointer_within : (n : ℕ) (before : List ℕ) (es : List Entry) (k : ℕ) → Apart n before (map (λ (e : Entry). e.pointer) es) → k < length es
    → (1 ≤ (nth es k).pointer) × ((nth es k).pointer ≤ n)
pointer_within n before [] k rule h = absurd (omega arith)
pointer_within n before (e ∷ es) zero (low, high, new, rest) h = (low, high)
pointer_within n before (e ∷ es) (suc k) (low, high, new, rest) h = pointer_within n (before ++ (e.pointer ∷ [])) es k rest (omega arith)

-- An entry with its position, chosen.
abbrev pub chosen_of : ℕ × Entry → Selection
chosen_of x = chosen_at x.0 x.1

module _ (list file : List ℕ) (n counters day operator : ℕ) where
  -- The answer.
  abbrev s : Selection
  s = selected list file n counters day operator

  -- The lengths and the limits hold.
  abbrev InOrder : Type 0
  InOrder = (length list ≡ 29) × (length file ≡ 29 * n) × (day ≤ 16383) × (operator ≤ 255)

  -- Another refusal comes first, or all is in order, the list reads, and its entries decide.
  data Decided (a : Selection) : Type 0 where
    sooner : (r : Answer) → Refusing r.number r.field (1 ∷ 11 ∷ 2 ∷ 4 ∷ 5 ∷ 6 ∷ []) → a ≡ unselected r → Decided a
    later : InOrder → (l : ContractList) → list_read n counters list ≡ got_list l → a ≡ answer (chosen (choice day operator file l)) → Decided a

  decided : Decided s
  unfolding selected selecting
  decided =
      go (eqb (length list) 29) (eqb (length file) (29 * n)) (leb day 16383) (leb operator 255) refl refl refl refl
      refl (list_comes n counters list)
    where
      rest : Attempt ContractList → Attempt Selection
      rest a = next a (λ l. chosen (choice day operator file l))

      out : (a b c d : Bool) → ListRead → Selection
      out a b c d r = answer (needs (a && b) 1 (needs (c && d) 11 (rest (attempted r))))

      short : Refusing 1 0 (1 ∷ 11 ∷ 2 ∷ 4 ∷ 5 ∷ 6 ∷ [])
      short = record { some = λ z. omega arith; listed = refl; named = refl }

      beyond : Refusing 11 0 (1 ∷ 11 ∷ 2 ∷ 4 ∷ 5 ∷ 6 ∷ [])
      beyond = record { some = λ z. omega arith; listed = refl; named = refl }

      go : (a b c d : Bool) → eqb (length list) 29 ≡ a → eqb (length file) (29 * n) ≡ b → leb day 16383 ≡ c → leb operator 255 ≡ d
          → {r : ListRead} → list_read n counters list ≡ r → ComesTo got_list no_list (1 ∷ 11 ∷ 2 ∷ 4 ∷ 5 ∷ 6 ∷ []) r → Decided (out a b c d r)
      go true true true true e f g h is (fine l) = later (eqb-true _ _ e, eqb-true _ _ f, leb-true _ _ g, leb-true _ _ h) l is refl
      go true true true true e f g h is (faulty r why) = sooner r why (rw (ne_eqb _ _ why.some))
      go true true true false e f g h is told = sooner (refusal 11 0) beyond refl
      go true true false d e f g h is told = sooner (refusal 11 0) beyond refl
      go true false c d e f g h is told = sooner (refusal 1 0) short refl
      go false b c d e f g h is told = sooner (refusal 1 0) short refl

  came : (l : ContractList) → Came (eligible day operator file) 1 nobody (counted l) (choice day operator file l)
  came l = choice_came (eligible day operator file) 1 nobody (counted l) (omega arith)

  -- The choice is one entry, or there is none.
  one : (k : ℕ) (e : Entry) (best : Selection) → s ≡ answer (chosen best) → best ≡ chosen_at (1 + k) e → s ≡ chosen_at (1 + k) e
  one k e best is same = is ∙ rw (same, ne_eqb (1 + k) 0 (λ z. omega arith))

  none : (best : Selection) → s ≡ answer (chosen best) → best ≡ nobody → s ≡ unselected (refusal 8 0)
  none best is same = is ∙ rw same

  -- All is in order, the list reads, and the answer is its least eligible entry.
  pub record Chosen : Type 0 where
    pub order : InOrder
    pub l : ContractList
    pub reads : list_read n counters list ≡ got_list l
    -- The position is one of the list's, and its entry is eligible.
    pub low : 1 ≤ s.position
    pub high : s.position ≤ length (counted l)
    pub fit : eligible day operator file (entry_at l s.position) ≡ true
    -- Pointer and priority are that entry's.
    pub pointer : s.pointer ≡ (entry_at l s.position).pointer
    pub priority : s.priority ≡ (entry_at l s.position).priority
    -- No eligible entry has a lower priority number, and none with the same number stands earlier.
    pub least :
        (k : ℕ) → 1 ≤ k → k ≤ length (counted l) → eligible day operator file (entry_at l k) ≡ true
        → (s.priority ≤ (entry_at l k).priority) × (s.priority ≡ (entry_at l k).priority → s.position ≤ k)

  -- Every selection that is not refused is such.
  pub accepted_chosen : s.refusal.number ≡ 0 → Chosen
  accepted_chosen right = go decided
    where
      from : InOrder → (l : ContractList) → list_read n counters list ≡ got_list l → s ≡ answer (chosen (choice day operator file l))
          → Came (eligible day operator file) 1 nobody (counted l) (choice day operator file l)
          → Chosen
      from order l read is (kept same over) =
          absurd (omega (arith, right, ap (λ (x : Selection). x.refusal.number) (none (choice day operator file l) is same)))
      from order l read is (taken j h same fit under least) =
          let this : s ≡ chosen_at (1 + j) (nth (counted l) j) = one j (nth (counted l) j) (choice day operator file l) is same in
          let position : s.position ≡ 1 + j = ap (λ (x : Selection). x.position) this in
          let priority : s.priority ≡ (nth (counted l) j).priority = ap (λ (x : Selection). x.priority) this in
          let index : s.position - 1 ≡ j = omega arith in
          record {
            order = order;
            l = l;
            reads = read;
            low = omega arith;
            high = omega arith;
            fit = rw index fit;
            pointer = rw index (ap (λ (x : Selection). x.pointer) this);
            priority = rw index priority;
            least =
                λ k low high other.
                let (lower, earlier) = least (k - 1) (omega arith) other in
                (rw priority lower, λ e. let early = earlier (sym priority ∙ e) in omega arith);
          }

      go : Decided s → Chosen
      go (sooner r why same) = absurd (why.some (sym (ap (λ (x : Selection). x.refusal.number) same) ∙ right))
      go (later order l read is) = from order l read is (came l)

  -- Its pointer is one of the card's.
  pub chosen_pointer : Chosen → (1 ≤ s.pointer) × (s.pointer ≤ n)
  chosen_pointer c =
      rw c.pointer
      (pointer_within n [] (counted c.l) (s.position - 1) (list_kept n counters list c.l c.reads).apart (omega (arith, c.low, c.high)))

  -- The list reads, all being in order, and has no eligible entry.
  pub record NoneEligible : Type 0 where
    pub order : InOrder
    pub l : ContractList
    pub reads : list_read n counters list ≡ got_list l
    pub nobody : (k : ℕ) → 1 ≤ k → k ≤ length (counted l) → eligible day operator file (entry_at l k) ≡ false

  -- Only then is a selection refused with 8,
  pub eight_none : s.refusal.number ≡ 8 → NoneEligible
  eight_none eight = go decided
    where
      not_fit : (t : Bool) → (t ≡ true → ⊥) → t ≡ false
      not_fit true f = absurd (f refl)
      not_fit false f = refl

      from : (l : ContractList) → s ≡ answer (chosen (choice day operator file l))
          → Came (eligible day operator file) 1 nobody (counted l) (choice day operator file l)
          → (k : ℕ) → 1 ≤ k → k ≤ length (counted l) → eligible day operator file (entry_at l k) ≡ false
      from l is (kept same over) k low high =
          not_fit (eligible day operator file (entry_at l k)) (λ fit. (over (k - 1) (omega arith) fit).0 refl)
      from l is (taken j h same fit under least) k low high =
          absurd (omega (arith, eight, ap (λ (x : Selection). x.refusal.number) (one j (nth (counted l) j) (choice day operator file l) is same)))

      go : Decided s → NoneEligible
      go (sooner r why same) =
          let own : r.number ≡ 8 = sym (ap (λ (x : Selection). x.refusal.number) same) ∙ eight in
          absurd (true≢false (sym (rw own at why.listed)))
      go (later order l read is) = record { order = order; l = l; reads = read; nobody = from l is (came l) }

  -- and then it always is.
  pub none_eight : NoneEligible → s ≡ unselected (refusal 8 0)
  unfolding selected selecting
  none_eight given = none (choice day operator file given.l) ordered (nothing (came given.l))
    where
      ordered : s ≡ answer (chosen (choice day operator file given.l))
      ordered =
          let (whole, all, days, operators) = given.order in
          rw (eq-eqb _ _ whole, eq-eqb _ _ all, le-leb _ _ days, le-leb _ _ operators, given.reads)

      nothing : Came (eligible day operator file) 1 nobody (counted given.l) (choice day operator file given.l)
          → choice day operator file given.l ≡ nobody
      nothing (kept same over) = same
      nothing (taken k h same fit under least) =
          let back : suc k - 1 ≡ k = omega arith in
          let unfit : eligible day operator file (nth (counted given.l) k) ≡ false = rw back at (given.nobody (suc k) (omega arith) (omega arith)) in
          absurd (true≢false (sym fit ∙ unfit))

  -- Accepted, the part that is handed on is the record at the chosen pointer, all 29 bytes.
  pub part_is_record : s.refusal.number ≡ 0 → (part_of file s ≡ record_at file s.pointer) × (length (part_of file s) ≡ 29)
  unfolding part_of
  part_is_record right =
      let c = accepted_chosen right in
      let (first, most) = chosen_pointer c in
      let sized : length file ≡ 29 * n = c.order.1 in
      let last : s.pointer ≤ length file / 29 = omega arith in
      let inside : 29 ≤ length (drop (29 * (s.pointer - 1)) file) = simp length-drop (omega arith) in
      rw (eq-eqb _ _ right) (refl, rw (le-leb _ _ first, le-leb _ _ last) (length-take-le 29 (drop (29 * (s.pointer - 1)) file) inside))

  -- Refused, it is empty.
  pub no_part : (s.refusal.number ≡ 0 → ⊥) → part_of file s ≡ []
  unfolding part_of
  no_part bad = rw (ne_eqb _ _ bad)

  -- The refusals of a selection.
  pub select_comes : ComesTo chosen_of unselected (1 ∷ 11 ∷ 2 ∷ 4 ∷ 5 ∷ 6 ∷ 8 ∷ []) s
  select_comes = go decided
    where
      from : (l : ContractList) → s ≡ answer (chosen (choice day operator file l))
          → Came (eligible day operator file) 1 nobody (counted l) (choice day operator file l)
          → ComesTo chosen_of unselected (1 ∷ 11 ∷ 2 ∷ 4 ∷ 5 ∷ 6 ∷ 8 ∷ []) s
      from l is (kept same over) = rw (none (choice day operator file l) is same) (stops (refusal 8 0) refl refl refl)
      from l is (taken j h same fit under least) =
          rw (one j (nth (counted l) j) (choice day operator file l) is same) (fine (1 + j, nth (counted l) j))

      go : Decided s → ComesTo chosen_of unselected (1 ∷ 11 ∷ 2 ∷ 4 ∷ 5 ∷ 6 ∷ 8 ∷ []) s
      go (sooner r why same) = rw same (comes_within (faulty r why) refl)
      go (later order l read is) = from l is (came l)
