-- A straight line of takes or puts, a step a row: what a reader or writer in code is. (proofs/Running.antt has the laws that
-- such a line is the reading or the writing of its table.)
use Rattle.std.specs.Prelude.{ℕ, ◌-◌, List, [], ◌∷◌, ◌++◌, length, take, drop, ◌==◌}
use Rattle.rows.specs.Row.{Row, Cond, pick, told}
use Rattle.rows.specs.Walk.{Outcome, done, refused}
use Rattle.rows.specs.Inner.Step.{Ready, Took, Drafted, Gave}
use Rattle.rows.specs.Inner.Standing.{Standing}
use Rattle.rows.specs.declared.Rule.{Rule}

-- A cursor at the first bit.
abbrev pub start : Standing
start = record { at = 0; why = 0; field = 0; number = 0 }

infixr 20 ◌▸◌
infixr 20 ◌◂◌
-- Takes of the rows, one after the other: from the numbers seen and the cursor c to all the numbers and the cursor d.
pub data Takes (words : List ℕ) (end : ℕ) : List Row → List ℕ → Standing → List ℕ → Standing → Type 0 where
  taken : {seen : List ℕ} {c : Standing} → Takes words end [] seen c seen c
  ◌▸◌ :
      {ws : List ℕ} {k : Cond} {rule : Rule} {rs : List Row} {seen : List ℕ} {c : Standing} {vs : List ℕ} {e : Standing} {all : List ℕ} {d : Standing}
      → Took words end c (told k seen) ws rule vs e
      → Takes words end rs (seen ++ vs) e all d
      → Takes words end (record { boxes = ws; cond = k; rule = rule } ∷ rs) seen c all d

-- The same, with a cursor that is ready for more.
pub record Taken (words : List ℕ) (end : ℕ) (rows : List Row) (seen : List ℕ) (c : Standing) (all : List ℕ) (d : Standing) : Type 0 where
  pub takes : Takes words end rows seen c all d
  pub ready : Ready words end d

-- Puts of the rows, one after the other, each of its own slots of the numbers vals: from the numbers seen, the draft xs and
-- the cursor c to all the numbers, the draft ys and the cursor d.
pub data Puts (room : ℕ) (vals : List ℕ) : List Row → List ℕ → List ℕ → Standing → List ℕ → List ℕ → Standing → Type 0 where
  given : {seen xs : List ℕ} {c : Standing} → Puts room vals [] seen xs c seen xs c
  ◌◂◌ :
      {ws : List ℕ} {k : Cond} {rule : Rule} {rs : List Row} {seen xs : List ℕ} {c : Standing} {zs : List ℕ} {e : Standing} {all ys : List ℕ} {d : Standing}
      → Gave xs zs room c (told k seen) ws rule (take (length ws) (drop (length seen) vals)) e
      → Puts room vals rs (seen ++ take (length ws) (drop (length seen) vals)) zs e all ys d
      → Puts room vals (record { boxes = ws; cond = k; rule = rule } ∷ rs) seen xs c all ys d

-- The same, with a draft and a cursor that are ready for more.
pub record Given (room : ℕ) (vals : List ℕ) (rows : List Row) (seen xs : List ℕ) (c : Standing) (all ys : List ℕ) (d : Standing) : Type 0 where
  pub puts : Puts room vals rows seen xs c all ys d
  pub ready : Drafted ys room d

-- What a cursor says at the end.
abbrev pub tells : {A : Type 0} → Standing → A → Outcome A
tells c a = pick (c.why == 0) (done a c.at) (refused c.why c.at (c.field - 1))
