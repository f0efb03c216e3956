-- A line of puts by how many numbers stand before it. In a line of specs/Line.antt each step names the numbers seen twice, and
-- twelve steps double twelve times what there is to compute; here a step's numbers stand at a known place.
use Rattle.std.proofs.Common.{◌≡◌, ℕ, ◌+◌, ◌≤◌, List, [], ◌∷◌, ◌++◌, length, take, drop, add-zero, add_assoc, arith, length-take-le, take-add}
use Rattle.rows.specs.Row.{Row, Cond, told}
use Rattle.rows.specs.Walk.{slots}
use Rattle.rows.specs.Inner.Step.{Gave}
use Rattle.rows.specs.Inner.Line.{Puts, given, ◌◂◌}
use Rattle.rows.specs.Inner.Standing.{Standing}
use Rattle.rows.specs.declared.Rule.{Rule}

infixr 20 ◌◃◌
-- Puts of the rows behind the first n of the numbers vals.
pub data PutsFrom (room : ℕ) (vals : List ℕ) : List Row → ℕ → List ℕ → Standing → List ℕ → Standing → Type 0 where
  all_put : {n : ℕ} {xs : List ℕ} {c : Standing} → PutsFrom room vals [] n xs c xs c
  ◌◃◌ :
      {ws : List ℕ} {k : Cond} {rule : Rule} {rs : List Row} {n : ℕ} {xs : List ℕ} {c : Standing} {zs : List ℕ} {e : Standing} {ys : List ℕ} {d : Standing}
      → Gave xs zs room c (told k (take n vals)) ws rule (take (length ws) (drop n vals)) e
      → PutsFrom room vals rs (n + length ws) zs e ys d
      → PutsFrom room vals (record { boxes = ws; cond = k; rule = rule } ∷ rs) n xs c ys d

-- It is a line of puts.
pub puts_from : {room : ℕ} {vals : List ℕ} {rows : List Row} (n : ℕ) {xs : List ℕ} {c : Standing} {ys : List ℕ} {d : Standing}
    → PutsFrom room vals rows n xs c ys d
    → n + slots rows ≤ length vals
    → Puts room vals rows (take n vals) xs c (take (n + slots rows) vals) ys d
puts_from n all_put h = rw add-zero given
puts_from {room} {vals} n {ys} {d} (◌◃◌ {ws} {k} {rule} {rs} {xs} {c} {zs} {e} gave rest) h =
    let own : length (take n vals) ≡ n = length-take-le n vals (omega arith) in
    let first : Gave xs zs room c (told k (take n vals)) ws rule (take (length ws) (drop (length (take n vals)) vals)) e = rw own gave in
    let others : Puts room vals rs (take n vals ++ take (length ws) (drop (length (take n vals)) vals)) zs e (take (n + (length ws + slots rs)) vals) ys d =
    rw (own, ← take-add, ← add_assoc) (puts_from (n + length ws) rest (omega arith)) in
    first ◂ others
