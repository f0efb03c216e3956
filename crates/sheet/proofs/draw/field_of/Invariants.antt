use Rattle.std.proofs.Common.{length, ◌-◌, ◌≤◌}
use Rattle.sheet.proofs.draw.field_of.Given as goal

abbrev pub invariant-loop-field : goal.invariant-loop-field
invariant-loop-field l = l.field ≤ length l.rows

abbrev pub decreases-loop-field : goal.decreases-loop-field
decreases-loop-field l = length l.rows - l.field
