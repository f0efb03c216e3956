use Rattle.std.proofs.Common.{◌≡◌, ◌+◌, ◌-◌, ◌<◌, map, ap, ◌∙◌, length, take, drop, get_or, arith, length-take, length-drop, get_or-take, get_or-drop}
use Rattle.lab.specs.Layout.{row_of}
use Rattle.lab.specs.Machine.{Reader, arrived}
use Rattle.lab.proofs.Rows.{rows_from}
use Rattle.lab.proofs.state.State.arrived.Goals as goal
use Rattle.lab.proofs.state.State.arrived.Goals.{After-there}

-- The row of the loop is that which the state is in.
module _ (c : After-there) where
  below : c.loop-row.row-index < length c.args.rows.now - c.args.self.row
  below = omega (arith, simp (length-take, length-drop) at c.loop-row-test.true)

  inside : c.loop-row.s.row < length c.args.rows.now
  inside = let index = below in omega arith

  own : get_or (take (length c.args.rows.now - c.args.self.row) (drop c.args.self.row c.args.rows.now)) c.loop-row.row-index 0
      ≡ get_or c.args.rows.now c.loop-row.s.row 0
  own = let index = below in rw (c.loop-row.invariant.0, get_or-take, get_or-drop)

pub returns-then-there : goal.returns-then-there
returns-then-there c =
    let at = (goal.at.returns-then-there c).After-there in
    rw (← c.loop-row.invariant.1, rows_from _ _ _ (inside at), ← (rw (own at) at c.there.ensures), c.if-there.true) (rw (own at) at c.entered.ensures)

pub loop-row-preserved : goal.loop-row-preserved
loop-row-preserved c =
    let at = (goal.at.loop-row-preserved c).After-there in
    let rows = c.args.rows.now in
    let next : c.passed-s.result.row ≡ c.loop-row.s.row + 1 = ap (λ (r : Reader). r.row) c.passed-s.ensures in
    (omega (arith, c.loop-row.invariant.0), ap (λ (r : Reader). arrived (drop r.row (map (row_of r.most) rows)) r) c.passed-s.ensures ∙ rw (own at, ← c.loop-row.invariant.1, rows_from _ _ _ (inside at), ← (rw (own at) at c.there.ensures), c.if-there.false))
