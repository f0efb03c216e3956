-- What the steps of both lists' readers and writers give.
use Rattle.std.specs.Prelude.{ℕ, List, [], ◌∷◌, ◌++◌, Bool, not, ◌||◌, ◌≡◌, eqb, length, get_or, drop, Option, None, Some}
use Rattle.rows.specs.Row.{Row, pick}
use Rattle.rows.specs.Inner.Step.{Ready, Took, Drafted}
use Rattle.rows.specs.Inner.Line.{Takes, Puts}
use Rattle.rows.specs.Inner.Standing.{Standing}
use Rattle.rows.specs.declared.When.TheVariants.{Bit}
use Rattle.rows.specs.declared.Rule.TheVariants.{Any, Tariff}

-- After all else a cursor stands at the entry at fault, with 6; 0 for none.
abbrev pub obeyed : Standing → ℕ → Standing
obeyed c k = pick (eqb c.why 0) (pick (eqb k 0) c (record { at = k; why = 6; field = 0; number = 0 })) c

-- The same of a fault in code, of any number that it may have.
abbrev pub stopped_at : Standing → Option ℕ → Standing
stopped_at c None = c
stopped_at c (Some k) = pick (eqb c.why 0) (record { at = k; why = 6; field = 0; number = 0 }) c

-- And after that at place 0, with 6, where the list's tally is no fresh count.
abbrev pub tallied : Standing → Bool → Standing
tallied c fair = pick (fair || not (eqb c.why 0)) c (record { at = 0; why = 6; field = 0; number = 0 })

-- What the takes of an entry give, the count and the entries before it being seen, so many numbers.
pub record EntryTook (words : List ℕ) (rows : List Row) (n count : ℕ) (c : Standing) (vs : List ℕ) (d : Standing) : Type 0 where
  pub ready : Ready words 232 d
  pub takes : (seen : List ℕ) → length seen ≡ n → get_or seen 0 0 ≡ count → Takes words 232 rows seen c (seen ++ vs) d

-- What the takes of a contract list entry's tariff and pointer give.
pub record RestTook (words : List ℕ) (c : Standing) (marks : ℕ) (numbers : List ℕ) (number : ℕ) (d : Standing) : Type 0 where
  pub between : Standing
  pub tariff : Took words 232 c (Bit marks 1) (4 ∷ 8 ∷ 4 ∷ []) Tariff numbers between
  pub pointer : Took words 232 between (Bit marks 2) (5 ∷ []) Any (number ∷ []) d

-- What the puts of an entry give.
pub record EntryGave (xs ys : List ℕ) (rows : List Row) (n count : ℕ) (c : Standing) (vs : List ℕ) (d : Standing) : Type 0 where
  pub ready : Drafted ys 232 d
  pub puts :
      (vals seen rest : List ℕ)
      → length seen ≡ n
      → get_or seen 0 0 ≡ count
      → drop n vals ≡ vs ++ rest
      → Puts 232 vals rows seen xs c (seen ++ vs) ys d
