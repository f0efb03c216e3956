use Rattle.std.proofs.Common.{◌≡◌, ◌+◌, map, drop}
use Rattle.lab.specs.Layout.{row_of}
use Rattle.lab.specs.Machine.{reader, arrived}
use Rattle.lab.proofs.state.State.arrived.Given as goal

abbrev pub invariant-loop-row : goal.invariant-loop-row
invariant-loop-row l =
    (l.s.row ≡ l.initial.s.row + l.row-index)
    × (arrived (drop l.s.row (map (row_of l.s.most) l.rows)) (reader l.s) ≡ arrived (drop l.initial.s.row (map (row_of l.initial.s.most) l.rows)) (reader l.initial.s))
