-- The numbers that a walk over rows refuses with.
use Rattle.std.proofs.Common.{◌≡◌, ℕ, suc, ◌+◌, ◌/◌, ◌<◌, ◌≤◌, Bool, true, false, ◌&&◌, ◌||◌, eqb, ltb, List, [], ◌∷◌, ◌++◌, map, length, get_or, drop, sym, refl, ◌∙◌, true≢false, arith, ltb-true, lt-ltb, eq-eqb, eqb-true}
use mathlib.Core.Bool.{or-true}
use borrow.Author.Tests.{eqb-false}
use Rattle.bits.specs.Bits.{odd, leading}
use Rattle.rows.specs.Row.{Row, pick, among, told, holds, broken}
use Rattle.rows.specs.Walk.{Outcome, done, refused, and_then, total, boxes_of, exceeds, Source, walk, boxes_at, slots_of, Content, bare, blank, read, read_bare, stray, write, write_bare}
use Rattle.rows.specs.Refusing.{widest, ruled_by, ruled, walk_numbers, bare_numbers, write_numbers, of_fields, may_name}
use Rattle.rows.specs.declared.Rule.{Rule}
use Rattle.rows.specs.declared.Rule.TheVariants.{Any, Most, Tariff, NoSecond}
use Rattle.rows.proofs.Boxes.{numbers_fit}
use Rattle.rows.proofs.Walked.{walk_row}

-- The number of a refusal is not 0, and is one of some; its rank is 0 where it is none of a field's own.
pub record Refusing (n i : ℕ) (ns : List ℕ) : Type 0 where
  pub some : n ≡ 0 → ⊥
  pub listed : among n ns ≡ true
  pub named : may_name n i ≡ true

-- An outcome is a value, or a refusal with one of some numbers.
abbrev pub Refuses : {A : Type 0} → List ℕ → Outcome A → Type 0
Refuses ns (done a end) = Unit {0}
Refuses ns (refused n at i) = Refusing n i ns

pub refuses_then : {A B : Type 0} (ns : List ℕ) (o : Outcome A) (next : A → ℕ → Outcome B) → Refuses ns o
    → ((a : A) (end : ℕ) → Refuses ns (next a end))
    → Refuses ns (and_then o next)
refuses_then ns (done a end) next first then = then a end
refuses_then ns (refused n at i) next first then = first

pub among_behind : (n : ℕ) (ms ns : List ℕ) → among n ns ≡ true → among n (ms ++ ns) ≡ true
among_behind n [] ns h = h
among_behind n (m ∷ ms) ns h = rw (among_behind n ms ns h) (or-true (eqb m n))

-- Each of some numbers is one of others.
abbrev pub within : List ℕ → List ℕ → Bool
within [] ns = true
within (m ∷ ms) ns = among m ns && within ms ns

-- Then whatever is one of them is one of the others.
pub among_within : (n : ℕ) (ms ns : List ℕ) → within ms ns ≡ true → among n ms ≡ true → among n ns ≡ true
among_within n [] ns all h = absurd (true≢false (sym h))
among_within n (m ∷ ms) ns all h = go (eqb m n) refl (among m ns) refl all h (among_within n ms ns)
  where
    go : (t : Bool) → eqb m n ≡ t → (u : Bool) → among m ns ≡ u → (u && within ms ns) ≡ true → (t || among n ms) ≡ true
        → (within ms ns ≡ true → among n ms ≡ true → among n ns ≡ true)
        → among n ns ≡ true
    go t e false is all h rest = absurd (true≢false (sym all))
    go true e true is all h rest = rw (eqb-true m n e) at is
    go false e true is all h rest = rest all h

-- A rule that is broken refuses with its own number.
broken_ruled : (r : Rule) (vs ns : List ℕ) → (broken r vs ≡ 0 → ⊥) → among (broken r vs) (ruled_by r ++ ns) ≡ true
broken_ruled r vs ns = go r
  where
    one : (k : ℕ) (t : Bool) → (pick t k 0 ≡ 0 → ⊥) → among (pick t k 0) (k ∷ ns) ≡ true
    one k true some = rw (eq-eqb k k refl)
    one k false some = absurd (some refl)

    go : (r : Rule) → (broken r vs ≡ 0 → ⊥) → among (broken r vs) (ruled_by r ++ ns) ≡ true
    go Any some = absurd (some refl)
    go (Most m) some = one 4 (ltb m (get_or vs 0 0)) some
    go Tariff some = one 4 (eqb (get_or vs 2 0) 13) some
    go NoSecond some = one 3 (odd (get_or vs 0 0 / 2)) some

-- Which is a field's own.
rule_field : (r : Rule) → within (ruled_by r ++ []) of_fields ≡ true
rule_field Any = refl
rule_field (Most m) = refl
rule_field Tariff = refl
rule_field NoSecond = refl

-- An absent field is no wider than a present one.
narrow : (t : Bool) (ws : List ℕ) → total (pick t ws (map (λ (w : ℕ). 0) ws)) ≤ total ws
narrow true ws = omega arith
narrow false [] = omega arith
narrow false (w ∷ ws) = let rest = narrow false ws in omega arith

pub refuses_behind : {A : Type 0} (ms ns : List ℕ) (o : Outcome A) → Refuses ns o → Refuses (ms ++ ns) o
refuses_behind ms ns (done a end) h = tt
refuses_behind ms ns (refused n at i) h = record { some = h.some; listed = among_behind n ms ns h.listed; named = h.named }

-- A walk refuses with one of some numbers, if 7 is one of them where a number is too wide, 2 where the rows can be wider than the
-- room, and what their rules refuse with.
module _ (room : ℕ) (from : Source) (ns : List ℕ) (wide : (at n : ℕ) (ws : List ℕ) → exceeds ws (from at n ws) ≡ true → among 7 ns ≡ true) where
  walk_number : (rs : List Row) (i : ℕ) (seen : List ℕ) (at : ℕ) → (room < at + widest rs → among 2 ns ≡ true)
      → ((k : ℕ) → among k (ruled rs) ≡ true → among k ns ≡ true)
      → Refuses ns (walk room from rs i seen at)
  walk_number [] i seen at past rules = tt
  walk_number (r ∷ rs) i seen at past rules =
      rw (walk_row room from r rs i seen at vs refl)
      (go (exceeds ws vs) refl (ltb room end) refl
      (walk_number rs (suc i) (seen ++ vs) end (λ more. past (omega (arith, narrow (holds (told r.cond seen)) r.boxes)))
      (λ k there. rules k (among_behind k (ruled_by r.rule) (ruled rs) there))))
    where
      ws : List ℕ
      ws = boxes_of r seen

      vs : List ℕ
      vs = from at (length seen) ws

      end : ℕ
      end = at + total ws

      own : ℕ
      own = broken r.rule vs

      rest : Outcome (List ℕ)
      rest = walk room from rs (suc i) (seen ++ vs) end

      last : (t : Bool) → eqb own 0 ≡ t → Refuses ns rest → Refuses ns (pick t rest (refused own at i))
      last true e more = more
      last false e more =
          let some : own ≡ 0 → ⊥ = eqb-false _ _ e in
          record {
            some = some;
            listed = rules own (broken_ruled r.rule vs (ruled rs) some);
            named = rw (among_within own (ruled_by r.rule ++ []) of_fields (rule_field r.rule) (broken_ruled r.rule vs [] some));
          }

      go : (w : Bool) → exceeds ws vs ≡ w → (q : Bool) → ltb room end ≡ q → Refuses ns rest
          → Refuses ns (pick (eqb (pick w 7 (pick q 2 own)) 0) rest (refused (pick w 7 (pick q 2 own)) at i))
      go true e q f more = record { some = λ z. omega arith; listed = wide at (length seen) ws e; named = refl }
      go false e true f more =
          record {
            some = λ z. omega arith;
            listed = past (omega (arith, ltb-true room end f, narrow (holds (told r.cond seen)) r.boxes));
            named = refl;
          }
      go false e false f more = last (eqb own 0) refl more

-- From the start of a table, with some numbers more.
walk_numbers_law : (ms : List ℕ) (room : ℕ) (from : Source) (rows : List Row)
    → ((at n : ℕ) (ws : List ℕ) → exceeds ws (from at n ws) ≡ true → among 7 (ms ++ walk_numbers room rows) ≡ true)
    → Refuses (ms ++ walk_numbers room rows) (walk room from rows 0 [] 0)
walk_numbers_law ms room from rows wide =
    walk_number room from (ms ++ walk_numbers room rows) wide rows 0 [] 0
    (λ past. rw (lt-ltb room (widest rows) (omega arith)) (among_behind 2 ms (2 ∷ ruled rows) refl))
    (λ k there. among_behind k ms (walk_numbers room rows) (go (ltb room (widest rows)) k there))
  where
    go : (t : Bool) (k : ℕ) → among k (ruled rows) ≡ true → among k (pick t (2 ∷ ruled rows) (ruled rows)) ≡ true
    go true k there = among_behind k (2 ∷ []) (ruled rows) there
    go false k there = there

-- Bits that must be zero refuse with their number alone.
blank_number : {A : Type 0} (k : ℕ) (ns : List ℕ) (bs : List Bool) (a : A) (end : ℕ) → (k ≡ 0 → ⊥) → among k ns ≡ true → may_name k 0 ≡ true
    → Refuses ns (blank k bs a end)
unfolding blank
blank_number k ns bs a end some listed named = go (eqb (leading bs) (length bs))
  where
    go : (t : Bool) → Refuses ns (pick t (done a end) (refused k (leading bs) 0))
    go true = tt
    go false = record { some = some; listed = listed; named = named }

-- A reading refuses with no other number than these,
pub read_number : (rows : List Row) (bs : List Bool) → Refuses (walk_numbers (length bs) rows) (read rows bs)
unfolding read
read_number rows bs =
    refuses_then (walk_numbers (length bs) rows) (walk (length bs) (boxes_at bs) rows 0 [] 0) _
    (walk_numbers_law [] (length bs) (boxes_at bs) rows (λ at k ws e. absurd (true≢false (sym e ∙ numbers_fit ws (drop at bs)))))
    (λ vals end. tt)

-- that of a list with 5 besides,
pub bare_number : (rows : List Row) (bs : List Bool) → Refuses (bare_numbers (length bs) rows) (read_bare rows bs)
unfolding read_bare
bare_number rows bs =
    refuses_then (bare_numbers (length bs) rows) (read rows bs) (λ c end. blank 5 c.margin c.numbers end)
    (refuses_behind (5 ∷ []) (walk_numbers (length bs) rows) (read rows bs) (read_number rows bs))
    (λ c end. blank_number 5 (bare_numbers (length bs) rows) c.margin c.numbers end (λ z. omega arith) refl refl)

-- and a writing with no other than these.
pub walk_written : (rows : List Row) (room : ℕ) (vals : List ℕ) → Refuses (write_numbers room rows) (walk room (slots_of vals) rows 0 [] 0)
walk_written rows room vals = walk_numbers_law (7 ∷ []) room (slots_of vals) rows (λ at k ws e. refl)

pub write_number : (rows : List Row) (room : ℕ) (c : Content) → Refuses (write_numbers room rows) (write rows room c)
unfolding write
write_number rows room c =
    refuses_then (write_numbers room rows) (walk room (slots_of c.numbers) rows 0 [] 0) _
    (walk_written rows room c.numbers)
    (λ all end. blank_number 7 (write_numbers room rows) (stray room end c.margin) _ end (λ z. omega arith) refl refl)

pub bare_write_number : (rows : List Row) (room : ℕ) (vals : List ℕ) → Refuses (write_numbers room rows) (write_bare rows room vals)
unfolding write_bare
bare_write_number rows room vals = write_number rows room (bare room vals)

-- None of them is 0.
pub read_refused : (rows : List Row) (bs : List Bool) {n at i : ℕ} → read rows bs ≡ refused n at i → n ≡ 0 → ⊥
read_refused rows bs e = (rw e at (read_number rows bs)).some

pub bare_refused : (rows : List Row) (bs : List Bool) {n at i : ℕ} → read_bare rows bs ≡ refused n at i → n ≡ 0 → ⊥
bare_refused rows bs e = (rw e at (bare_number rows bs)).some

pub write_refused : (rows : List Row) (room : ℕ) (c : Content) {n at i : ℕ} → write rows room c ≡ refused n at i → n ≡ 0 → ⊥
write_refused rows room c e = (rw e at (write_number rows room c)).some

pub bare_write_refused : (rows : List Row) (room : ℕ) (vals : List ℕ) {n at i : ℕ} → write_bare rows room vals ≡ refused n at i → n ≡ 0 → ⊥
bare_write_refused rows room vals e = (rw e at (bare_write_number rows room vals)).some
