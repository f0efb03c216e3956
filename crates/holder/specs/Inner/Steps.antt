-- What the steps of a Holder's reader and writer give.
use Rattle.std.specs.Prelude.{ℕ, List, [], ◌∷◌, take, drop}
use Rattle.rows.specs.Row.{Row}
use Rattle.rows.specs.Inner.Step.{Took, Gave}
use Rattle.rows.specs.Table.Holder.{holder}
use Rattle.rows.specs.Inner.Standing.{Standing}
use Rattle.rows.specs.declared.When.TheVariants.{Bit, Above}
use Rattle.rows.specs.declared.Rule.TheVariants.{Any}
use Rattle.holder.specs.declared.Profile.{Profile}

-- The n rows from row i on.
abbrev pub block : ℕ → ℕ → List Row
block i n = take n (drop i holder)

-- What the takes of profile k give, after a profile count: its four steps.
pub record ProfileTook (words : List ℕ) (end : ℕ) (c : Standing) (count k : ℕ) (p : Profile) (d : Standing) : Type 0 where
  pub at1 : Standing
  pub at2 : Standing
  pub at3 : Standing
  pub bitmap : Took words end c (Above count k) (3 ∷ []) Any (p.bitmap ∷ []) at1
  pub network : Took words end at1 (Bit p.bitmap 0) (24 ∷ []) Any (p.network ∷ []) at2
  pub number : Took words end at2 (Bit p.bitmap 1) (8 ∷ []) Any (p.number ∷ []) at3
  pub date : Took words end at3 (Bit p.bitmap 2) (14 ∷ []) Any (p.date ∷ []) d

-- What its puts give.
pub record ProfileGave (xs ys : List ℕ) (room : ℕ) (c : Standing) (count k : ℕ) (p : Profile) (d : Standing) : Type 0 where
  pub at1 : Standing
  pub at2 : Standing
  pub at3 : Standing
  pub xs1 : List ℕ
  pub xs2 : List ℕ
  pub xs3 : List ℕ
  pub bitmap : Gave xs xs1 room c (Above count k) (3 ∷ []) Any (p.bitmap ∷ []) at1
  pub network : Gave xs1 xs2 room at1 (Bit p.bitmap 0) (24 ∷ []) Any (p.network ∷ []) at2
  pub number : Gave xs2 xs3 room at2 (Bit p.bitmap 1) (8 ∷ []) Any (p.number ∷ []) at3
  pub date : Gave xs3 ys room at3 (Bit p.bitmap 2) (14 ∷ []) Any (p.date ∷ []) d
