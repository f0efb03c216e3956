-- What is known of a contract list that was read: its entries keep the rule of lists.
use Prim.Native.Nat.{ℕ, zero, suc, ◌+◌, ◌/◌, ◌≤◌, ◌<◌}
use mathlib.Core.List.{List, [], ◌∷◌, ◌++◌, map, append_assoc, append-nil, Memᴰ}
use mathlib.Core.Bool.{Bool, true, false, ◌||◌, or-false, true≢false}
use mathlib.Core.Path.{◌≡◌, refl, sym, ap, ◌∙◌}
use native.Mathlib.Omega.{arith}
use lib.Dec.{eqb, ltb}
use lib.ListN.{length, get_or, take, length-take}
use lib.Seq.{get_or-take}
use borrow.Author.Tests.{eqb-true, eqb-false, leb-true, le-leb, eq-eqb, ltb-false, not-true, ne_eqb}
use Rattle.bits.specs.Bits.{spread}
use Rattle.rows.specs.Row.{pick, among}
use Rattle.rows.specs.Walk.{Outcome, done, refused, and_then, read_bare}
use Rattle.rows.specs.Table.BestContracts.{contract_list}
use Rattle.rows.proofs.RoundTrip.{bare_read}
use Rattle.rows.proofs.Changing.{judged_read, passed}
use Rattle.rows.proofs.Margins.{both}
use Rattle.rows.proofs.Refusing.{bare_refused}
use Rattle.records.specs.Answer.{refusal, answered}
use Rattle.records.proofs.Coming.{ComesTo, fine, faulty}
use Rattle.lists.proofs.Judging.{among_last, take-map}
use Rattle.lists.specs.Listing.{column, obeying, read_list}
use Rattle.lists.specs.Rules.{keeps, fault_after}
use Rattle.lists.specs.List.{entries_of, list_of, got_list, no_list, list_fault, outside, list_read}
use Rattle.lists.specs.Entries.{counted, without}
use Rattle.lists.specs.declared.list.Entry.{Entry}
use Rattle.lists.specs.declared.list.ContractList.{ContractList}
use Rattle.lists.specs.List.{ListRead}
use Rattle.lists.proofs.list.Laws.{list_comes}

-- Pointers keep the rule behind some others: from 1 to a limit, and none twice.
abbrev pub Apart : ℕ → List ℕ → List ℕ → Type 0
Apart limit before [] = Unit {0}
Apart limit before (p ∷ ps) = (1 ≤ p) × (p ≤ limit) × (among p before ≡ false) × Apart limit (before ++ (p ∷ [])) ps

-- Each bitmap has every element but the network.
abbrev pub Full : ℕ → List ℕ → Type 0
Full full [] = Unit {0}
Full full (b ∷ bs) = (b / 2 ≡ full) × Full full bs

pub full_at : (full : ℕ) (bs : List ℕ) (i : ℕ) → Full full bs → i < length bs → get_or bs i 0 / 2 ≡ full
full_at full [] i f h = absurd (omega arith)
full_at full (b ∷ bs) zero f h = f.0
full_at full (b ∷ bs) (suc i) f h = full_at full bs i f.1 (omega arith)

-- Where no entry is at fault, each keeps the rule.
none_at_fault : (full limit : ℕ) (before bs ps : List ℕ) → length bs ≡ length ps → fault_after full limit before bs ps ≡ 0
    → Full full bs × Apart limit before ps
none_at_fault full limit before [] [] same h = (tt, tt)
none_at_fault full limit before [] (p ∷ ps) same h = absurd (omega arith)
none_at_fault full limit before (b ∷ bs) [] same h = absurd (omega arith)
none_at_fault full limit before (b ∷ bs) (p ∷ ps) same h =
    go (keeps full limit before b p) refl h (none_at_fault full limit (before ++ (p ∷ [])) bs ps (omega arith))
  where
    rest : ℕ
    rest = fault_after full limit (before ++ (p ∷ [])) bs ps

    go : (t : Bool) → keeps full limit before b p ≡ t → pick t rest (suc (length before)) ≡ 0
        → (rest ≡ 0 → Full full bs × Apart limit (before ++ (p ∷ [])) ps)
        → ((b / 2 ≡ full) × Full full bs) × ((1 ≤ p) × (p ≤ limit) × (among p before ≡ false) × Apart limit (before ++ (p ∷ [])) ps)
    go true e h more =
        let (up_to_high, new) = both _ _ e in
        let (up_to_low, high) = both _ _ up_to_high in
        let (fills, low) = both _ _ up_to_low in
        let (bitmaps, pointers) = more h in
        ((eqb-true _ _ fills, bitmaps), (leb-true _ _ low, leb-true _ _ high, not-true _ new, pointers))
    go false e h more = absurd (omega arith)

-- And where each keeps it, none is at fault.
pub fault_none : (full limit : ℕ) (before bs ps : List ℕ) → Full full bs → Apart limit before ps → fault_after full limit before bs ps ≡ 0
fault_none full limit before [] ps f a = refl
fault_none full limit before (b ∷ bs) [] f a = refl
fault_none full limit before (b ∷ bs) (p ∷ ps) (fills, f) (low, high, new, a) =
    rw (eq-eqb _ _ fills, le-leb _ _ low, le-leb _ _ high, new) (fault_none full limit (before ++ (p ∷ [])) bs ps f a)

-- A contract list that was read.
pub record WasRead (n c : ℕ) (bytes : List ℕ) (l : ContractList) : Type 0 where
  pub vals : List ℕ
  pub end : ℕ
  pub slots : read_bare (contract_list n) (spread 8 bytes) ≡ done vals end
  pub value : list_of c vals ≡ l
  pub limits : outside n c ≡ false
  pub long : length bytes ≡ 29
  pub obeys : list_fault n vals ≡ 0

pub list_was_read : (n c : ℕ) (bytes : List ℕ) (l : ContractList) → list_read n c bytes ≡ got_list l → WasRead n c bytes l
unfolding read_list
list_was_read n c bytes l = go (eqb (length bytes) 29) refl (outside n c) refl (read_bare (contract_list n) (spread 8 bytes)) refl
  where
    apart : (r : ListRead) → r ≡ got_list l → r.refusal.number ≡ 0
    apart r h = ap (λ (x : ListRead). x.refusal.number) h

    kept : (vals : List ℕ) (end : ℕ) (t : Bool) → eqb (list_fault n vals) 0 ≡ t
        → answered (λ xs. got_list (list_of c xs)) no_list (pick t (done vals end) (refused 6 (list_fault n vals) 0)) ≡ got_list l
        → (list_fault n vals ≡ 0) × (list_of c vals ≡ l)
    kept vals end true e h = (eqb-true _ _ e, ap (λ (x : ListRead). x.list) h)
    kept vals end false e h = absurd (let six : ◌≡◌ {A = ℕ} 6 0 = apart _ h in omega arith)

    go : (b : Bool) → eqb (length bytes) 29 ≡ b → (out : Bool) → outside n c ≡ out → (o : Outcome (List ℕ)) → read_bare (contract_list n) (spread 8 bytes) ≡ o
        → pick b (pick out (no_list (refusal 11 0)) (answered (λ xs. got_list (list_of c xs)) no_list (and_then o (λ vals end. obeying (list_fault n vals) vals end)))) (no_list (refusal 1 0)) ≡ got_list l
        → WasRead n c bytes l
    go true w false i (done vals end) r h =
        let (obeys, value) = kept vals end (eqb (list_fault n vals) 0) refl h in
        record { vals = vals; end = end; slots = r; value = value; limits = i; long = eqb-true _ _ w; obeys = obeys }
    go true w false i (refused m p j) r h = absurd (bare_refused (contract_list n) (spread 8 bytes) r (apart _ h))
    go true w true i o r h = absurd (let eleven : ◌≡◌ {A = ℕ} 11 0 = apart _ h in omega arith)
    go false w out i o r h = absurd (let one : ◌≡◌ {A = ℕ} 1 0 = apart _ h in omega arith)

-- A reading without a refusal gave a list.
pub list_got : (n c : ℕ) (bytes : List ℕ) → (list_read n c bytes).refusal.number ≡ 0 → list_read n c bytes ≡ got_list (list_read n c bytes).list
list_got n c bytes = go (list_comes n c bytes)
  where
    go : {ns : List ℕ} {r : ListRead} → ComesTo got_list no_list ns r → r.refusal.number ≡ 0 → r ≡ got_list r.list
    go (fine l) z = refl
    go (faulty r why) z = absurd (why.some z)

-- Its count is at most n.
pub count_most : (n : ℕ) (bs : List Bool) {vals : List ℕ} {end : ℕ} → read_bare (contract_list n) bs ≡ done vals end → get_or vals 0 0 ≤ n
unfolding contract_list
count_most n bs {vals} h =
    let first = (passed (pick (ltb n (get_or (take 1 vals) 0 0)) 4 0) _ 0 0 (judged_read (contract_list n) bs (bare_read (contract_list n) bs h))).0 in
    rw (get_or-take 1 vals 0 0 (omega arith)) at (most (ltb n (get_or (take 1 vals) 0 0)) refl first)
  where
    most : (t : Bool) → ltb n (get_or (take 1 vals) 0 0) ≡ t → ◌≡◌ {A = ℕ} (pick t 4 0) 0 → get_or (take 1 vals) 0 0 ≤ n
    most true e z = absurd (omega arith)
    most false e z = ltb-false _ _ e

neither : (a b : Bool) → a || b ≡ false → (a ≡ false) × (b ≡ false)
neither true b h = absurd (true≢false h)
neither false b h = (refl, h)

-- The limits of n and c.
pub inside_limits : (n c : ℕ) → outside n c ≡ false → ((1 ≤ n) × (n ≤ 8)) × (c ≤ n)
inside_limits n c inside =
    let (rest, among) = neither _ _ inside in
    let (room, few) = neither _ _ rest in
    let (low, high) = neither _ _ room in
    ((ltb-false _ _ low, ltb-false _ _ high), ltb-false _ _ among)

-- No entry of the slots is at fault.
pub columns_kept : (n : ℕ) (vals : List ℕ) → list_fault n vals ≡ 0
    → Full 3 (take (get_or vals 0 0) (column 8 6 1 vals)) × Apart n [] (take (get_or vals 0 0) (column 8 6 6 vals))
columns_kept n vals obeys =
    let count : ℕ = get_or vals 0 0 in
    let as_many : length (take count (column 8 6 1 vals)) ≡ length (take count (column 8 6 6 vals)) =
    length-take count (column 8 6 1 vals) ∙ sym (length-take count (column 8 6 6 vals)) in
    none_at_fault 3 n [] (take count (column 8 6 1 vals)) (take count (column 8 6 6 vals)) as_many obeys

-- The counted entries of a list that was read keep the rule.
pub record Kept (n c : ℕ) (l : ContractList) : Type 0 where
  pub room : (1 ≤ n) × (n ≤ 8)
  pub counters : c ≤ n
  pub eight : length l.entries ≡ 8
  pub full : Full 3 (map (λ (e : Entry). e.bitmap) (counted l))
  pub apart : Apart n [] (map (λ (e : Entry). e.pointer) (counted l))

pub list_kept : (n c : ℕ) (bytes : List ℕ) (l : ContractList) → list_read n c bytes ≡ got_list l → Kept n c l
list_kept n c bytes l h = let w = list_was_read n c bytes l h in rw (← w.value) (kept w.vals w.limits w.obeys)
  where
    kept : (vals : List ℕ) → outside n c ≡ false → list_fault n vals ≡ 0 → Kept n c (list_of c vals)
    kept vals inside obeys =
        let count : ℕ = get_or vals 0 0 in
        let bitmaps : take count (column 8 6 1 vals) ≡ map (λ (e : Entry). e.bitmap) (counted (list_of c vals)) = take-map _ count (entries_of vals) in
        let pointers : take count (column 8 6 6 vals) ≡ map (λ (e : Entry). e.pointer) (counted (list_of c vals)) = take-map _ count (entries_of vals) in
        let rule = columns_kept n vals obeys in
        let limits = inside_limits n c inside in
        record { room = limits.0; counters = limits.1; eight = refl; full = rw bitmaps at rule.0; apart = rw pointers at rule.1 }

-- How many of the pointers from 1 to k are not among some.
abbrev vacant : ℕ → List ℕ → ℕ
vacant zero ps = 0
vacant (suc k) ps = pick (among (suc k) ps) 0 1 + vacant k ps

-- A pointer above k takes none of the vacant ones up to k;
above_none : (k : ℕ) (ps : List ℕ) (p : ℕ) → k < p → vacant k (ps ++ (p ∷ [])) ≡ vacant k ps
above_none zero ps p h = refl
above_none (suc k) ps p h =
    let other : eqb p (suc k) ≡ false = ne_eqb p (suc k) (λ e. omega arith) in
    rw (among_last (suc k) ps p, other, or-false (among (suc k) ps), above_none k ps p (omega arith))

-- one that is vacant takes one;
takes_one : (k : ℕ) (ps : List ℕ) (p : ℕ) → 1 ≤ p → p ≤ k → among p ps ≡ false → vacant k ps ≡ suc (vacant k (ps ++ (p ∷ [])))
takes_one zero ps p low high new = absurd (omega arith)
takes_one (suc k) ps p low high new = go (eqb p (suc k)) refl (takes_one k ps p low)
  where
    go : (t : Bool) → eqb p (suc k) ≡ t → (p ≤ k → among p ps ≡ false → vacant k ps ≡ suc (vacant k (ps ++ (p ∷ []))))
        → vacant (suc k) ps ≡ suc (vacant (suc k) (ps ++ (p ∷ [])))
    go true e rest =
        let own : p ≡ suc k = eqb-true _ _ e in
        let unused : among (suc k) ps ≡ false = rw (← own) new in
        rw (among_last (suc k) ps p, e, unused, above_none k ps p (omega arith)) (omega arith)
    go false e rest =
        let other : p ≡ suc k → ⊥ = eqb-false _ _ e in
        let under : p ≤ k = omega arith in
        let same : among (suc k) (ps ++ (p ∷ [])) ≡ among (suc k) ps = rw (among_last (suc k) ps p, e) (or-false (among (suc k) ps)) in
        rw same (omega (arith, rest under new))

-- and where one is vacant, there is one.
one_vacant : (k : ℕ) (ps : List ℕ) (q : ℕ) → 1 ≤ q → q ≤ k → among q ps ≡ false → 1 ≤ vacant k ps
one_vacant zero ps q low high new = absurd (omega arith)
one_vacant (suc k) ps q low high new = go (eqb q (suc k)) refl (one_vacant k ps q low)
  where
    go : (t : Bool) → eqb q (suc k) ≡ t → (q ≤ k → among q ps ≡ false → 1 ≤ vacant k ps) → 1 ≤ vacant (suc k) ps
    go true e rest = let unused : among (suc k) ps ≡ false = rw (← eqb-true q (suc k) e) new in rw unused (omega arith)
    go false e rest =
        let other : q ≡ suc k → ⊥ = eqb-false _ _ e in
        let under : q ≤ k = omega arith in
        omega (arith, rest under new)

all_vacant : (k : ℕ) → vacant k [] ≡ k
all_vacant zero = refl
all_vacant (suc k) = rw (all_vacant k) (omega arith)

-- So pointers that keep the rule take one each.
take_each : (k : ℕ) (before ps : List ℕ) → Apart k before ps → length ps + vacant k (before ++ ps) ≡ vacant k before
take_each k before [] kept = rw append-nil (omega arith)
take_each k before (p ∷ ps) (low, high, new, rest) =
    let whole : before ++ (p ∷ ps) ≡ (before ++ (p ∷ [])) ++ ps = sym (append_assoc before (p ∷ []) ps) in
    let own = takes_one k before p low high new in
    let others = take_each k (before ++ (p ∷ [])) ps rest in
    rw whole (omega (arith, own, others))

-- So there are at most n.
pub room_all : (n : ℕ) (ps : List ℕ) → Apart n [] ps → length ps ≤ n
room_all n ps kept = omega (arith, take_each n [] ps kept, all_vacant n)

-- A list whose pointers leave one vacant has room for another entry.
pub room_left : (n q : ℕ) (ps : List ℕ) → Apart n [] ps → 1 ≤ q → q ≤ n → among q ps ≡ false → length ps < n
room_left n q ps kept low high new =
    omega (arith, take_each n [] ps kept, all_vacant n, one_vacant n ps q low high new)

-- Entries that keep the rule have a pointer each.
module _ (n : ℕ) where
  not_before : (before : List ℕ) (es : List Entry) (e : Entry) → Apart n before (map (λ (x : Entry). x.pointer) es) → Memᴰ e es
      → among e.pointer before ≡ false
  not_before before [] e rule there = elim there [ ]
  not_before before (x ∷ es) e (low, high, new, rest) (Memᴰ.head here) = rw here new
  not_before before (x ∷ es) e (low, high, new, rest) (Memᴰ.tail there) =
      (neither (among e.pointer before) (eqb x.pointer e.pointer)
      (sym (among_last e.pointer before x.pointer) ∙ not_before (before ++ (x.pointer ∷ [])) es e rest there)).0

  -- A later one is another.
  later_other : (before : List ℕ) (p : ℕ) (es : List Entry) (e : Entry) → Apart n (before ++ (p ∷ [])) (map (λ (x : Entry). x.pointer) es) → Memᴰ e es
      → p ≡ e.pointer → ⊥
  later_other before p es e rule there same =
      let last = (neither (among e.pointer before) (eqb p e.pointer) (sym (among_last e.pointer before p) ∙ not_before (before ++ (p ∷ [])) es e rule there)).1 in
      eqb-false _ _ last same

  pub one_each : (before : List ℕ) (es : List Entry) (e f : Entry) → Apart n before (map (λ (x : Entry). x.pointer) es) → Memᴰ e es → Memᴰ f es
      → e.pointer ≡ f.pointer → e ≡ f
  one_each before [] e f rule there other same = elim there [ ]
  one_each before (x ∷ es) e f rule (Memᴰ.head a) (Memᴰ.head b) same = a ∙ sym b
  one_each before (x ∷ es) e f (low, high, new, rest) (Memᴰ.head a) (Memᴰ.tail b) same =
      absurd (later_other before x.pointer es f rest b (rw (← a) same))
  one_each before (x ∷ es) e f (low, high, new, rest) (Memᴰ.tail a) (Memᴰ.head b) same =
      absurd (later_other before x.pointer es e rest a (rw (← b) (sym same)))
  one_each before (x ∷ es) e f (low, high, new, rest) (Memᴰ.tail a) (Memᴰ.tail b) same = one_each (before ++ (x.pointer ∷ [])) es e f rest a b same

-- Entries of which those of a pointer left, and one with that pointer came behind, have a pointer each, too.
module _ (n p : ℕ) where
  apart_fewer : (before before' : List ℕ) (es : List Entry) → ((q : ℕ) → among q before ≡ false → among q before' ≡ false)
      → Apart n before (map (λ (x : Entry). x.pointer) es) → Apart n before' (map (λ (x : Entry). x.pointer) (without p es))
  apart_fewer before before' [] fewer a = tt
  apart_fewer before before' (e ∷ es) fewer (low, high, new, rest) =
      go (eqb e.pointer p)
      (apart_fewer (before ++ (e.pointer ∷ [])) before' es (λ q h. fewer q (neither (among q before) (eqb e.pointer q) (sym (among_last q before e.pointer) ∙ h)).0) rest)
      (apart_fewer (before ++ (e.pointer ∷ [])) (before' ++ (e.pointer ∷ [])) es
      (λ q h.
      let (old, other) = neither (among q before) (eqb e.pointer q) (sym (among_last q before e.pointer) ∙ h) in
      rw (among_last q before' e.pointer, fewer q old, other))
      rest)
    where
      go : (t : Bool) → Apart n before' (map (λ (x : Entry). x.pointer) (without p es))
          → Apart n (before' ++ (e.pointer ∷ [])) (map (λ (x : Entry). x.pointer) (without p es))
          → Apart n before' (map (λ (x : Entry). x.pointer) (pick t (without p es) (e ∷ without p es)))
      go true skipped kept = skipped
      go false skipped kept = (low, high, fewer e.pointer new, kept)

  apart_last : (before ps : List ℕ) → 1 ≤ p → p ≤ n → among p before ≡ false → among p ps ≡ false → Apart n before ps → Apart n before (ps ++ (p ∷ []))
  apart_last before [] low high old new a = (low, high, old, tt)
  apart_last before (x ∷ ps) low high old new (l, h, first, rest) =
      let (other, later) = neither (eqb x p) (among p ps) new in
      (l, h, first, apart_last (before ++ (x ∷ [])) ps low high (rw (among_last p before x, old, other)) later rest)

  none_without : (es : List Entry) → among p (map (λ (x : Entry). x.pointer) (without p es)) ≡ false
  none_without [] = refl
  none_without (e ∷ es) = go (eqb e.pointer p) refl (none_without es)
    where
      go : (t : Bool) → eqb e.pointer p ≡ t → among p (map (λ (x : Entry). x.pointer) (without p es)) ≡ false
          → among p (map (λ (x : Entry). x.pointer) (pick t (without p es) (e ∷ without p es))) ≡ false
      go true same rest = rest
      go false other rest = rw (other, rest)

  pub apart_afterwards : (es : List Entry) → 1 ≤ p → p ≤ n → Apart n [] (map (λ (x : Entry). x.pointer) es)
      → Apart n [] (map (λ (x : Entry). x.pointer) (without p es) ++ (p ∷ []))
  apart_afterwards es low high a =
      apart_last [] (map (λ (x : Entry). x.pointer) (without p es)) low high refl (none_without es) (apart_fewer [] [] es (λ q h. h) a)
