-- What the code of reading and writing counts of a list's entries: how they keep the rule, with a mask of their pointers, and how
-- many are used up.
use Rattle.std.specs.Prelude.{ℕ, zero, suc, Option, None, Some, List, map, ◌&&◌, ◌≡◌, leb, length}
use Rattle.rows.specs.Row.{among}
use Rattle.lists.specs.Rules.{first_at_fault}
use Rattle.lists.specs.Tally.{used_up, how_many, mask}
use Rattle.lists.specs.declared.list.Entry.{Entry}
use Rattle.lists.specs.declared.list.Recount.{Recount}
use Rattle.lists.specs.declared.rules.Judged.{Judged}
use Rattle.lists.specs.declared.tally.Spent.{Spent}

-- A number that 0 stands for the lack of.
abbrev pub optional : ℕ → Option ℕ
optional zero = None
optional (suc k) = Some (suc k)

-- The entries of these bitmaps and pointers: the first at fault, and where there is none, the pointers in use, bit pointer - 1.
pub record Judges (full limit : ℕ) (bitmaps pointers : List ℕ) (j : Judged) : Type 0 where
  pub same : length bitmaps ≡ length pointers
  pub fault : j.fault ≡ first_at_fault full limit bitmaps pointers
  pub used : j.fault ≡ 0 → j.used ≡ mask 8 1 (λ p. among p pointers)

-- How many of some entries are used up, and how many of those are on counter positions.
abbrev pub spent_of : ℕ → List Entry → Spent
spent_of c es = record { all = how_many used_up es; counter = how_many (λ e. leb e.pointer c && used_up e) es }

-- Both, of a list's entries.
pub record Recounts (n c : ℕ) (es : List Entry) (r : Recount) : Type 0 where
  pub judges : Judges 3 n (map (λ (e : Entry). e.bitmap) es) (map (λ (e : Entry). e.pointer) es) r.judged
  pub spent : r.spent ≡ spent_of c es
