use Rattle.std.proofs.Common.{◌≡◌, map, drop}
use Rattle.bits.specs.Bits.{spread}
use Rattle.lab.specs.Layout.{row_of}
use Rattle.lab.specs.Machine.{reader, run}
use Rattle.lab.proofs.run.run.Given as goal

-- The loop's invariant: the run from here is the run from the start.
abbrev pub invariant-loop-place : goal.invariant-loop-place
invariant-loop-place l =
    run (map (row_of l.state.most) l.rows) (reader l.state) (drop l.place (spread 8 l.bytes)) ≡ run (map (row_of l.most) l.rows) (reader l.initial.state) (spread 8 l.bytes)
