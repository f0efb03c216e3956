-- Tests of entries and pointers.
use Prim.Native.Nat.{ℕ, suc, ◌+◌, ◌-◌, ◌≤◌, ◌<◌}
use mathlib.Core.Path.{◌≡◌, refl, ap, ◌∙◌}
use mathlib.Core.List.{List, [], ◌∷◌}
use mathlib.Core.Bool.{Bool, true, false, ◌&&◌, ◌||◌, false≢true}
use native.Mathlib.Omega.{arith}
use native.Mathlib.Numerals.{add-one}
use lib.Dec.{leb}
use lib.ListN.{length, get_or, drop, length-take}
use lib.Seq.{drop-cons, get_or-take}
use Rattle.std.specs.List.{list_any}
use borrow.Author.Tests.{leb-true}
use Rattle.rows.specs.Row.{pick}
use Rattle.loading.specs.Blocking.{some}
use Rattle.lists.specs.Entries.{counted}
use Rattle.lists.specs.declared.list.Entry.{Entry}
use Rattle.lists.specs.declared.list.ContractList.{ContractList}
use Rattle.loading.specs.Place.{within, erasable, first_erasable}
use Rattle.lists.specs.Tally.{bit_of}
use Rattle.loading.specs.Inner.Tallied.{lowest_zero}

-- The same as a test of any.
pub any_some : {A : Type 0} (test : A → Bool) (l : List A) → list_any test l ≡ some test l
any_some test [] = refl
any_some test (a ∷ rest) = ap (λ (t : Bool). test a || t) (any_some test rest)

-- A counted entry and those behind it.
pub counted_next : (l : ContractList) (i : ℕ) (d : Entry) → i < length (counted l) → drop i (counted l) ≡ get_or l.entries i d ∷ drop (i + 1) (counted l)
counted_next l i d h =
    let below : i < l.count = omega (arith, length-take l.count l.entries) in
    rw (drop-cons (counted l) i d h, get_or-take l.count l.entries i d below, ← add-one i)

pub erasable_more : (blocked : ℕ → Bool) (first last : ℕ) (l : ContractList) (i : ℕ) (d : Entry) → i < length (counted l)
    → (ok : Bool) → ok ≡ within first last (get_or l.entries i d).pointer && erasable blocked (get_or l.entries i d)
    → first_erasable blocked first last (drop i (counted l)) ≡ pick ok (get_or l.entries i d).pointer (first_erasable blocked first last (drop (i + 1) (counted l)))
erasable_more blocked first last l i d h ok one =
    ap (first_erasable blocked first last) (counted_next l i d h) ∙ rw (← one)

pub lowest_more : (used n first p : ℕ) → p < first + n
    → lowest_zero used (first + n - p) p ≡ pick (bit_of used p) (lowest_zero used (first + n - (p + 1)) (p + 1)) p
lowest_more used n first p h =
    let more : first + n - p ≡ suc (first + n - (p + 1)) = omega arith in
    rw (more, add-one p)

pub upto : (first last p : ℕ) → within first last p ≡ true → p ≤ last
upto first last p h = go (leb first p) h
  where
    go : (b : Bool) → (b && leb p last) ≡ true → p ≤ last
    go true e = leb-true p last e
    go false e = absurd (false≢true e)
