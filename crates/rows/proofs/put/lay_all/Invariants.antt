use Rattle.std.proofs.Common.{◌≡◌, ◌+◌, ◌*◌, ◌≤◌, length, take}
use Rattle.rows.specs.Inner.Step.{LaidAll}
use Rattle.rows.proofs.put.lay_all.Given as goal

abbrev pub invariant-loop-v : goal.invariant-loop-v
invariant-loop-v l =
    (l.v-index ≤ length l.letters)
    × (length l.draft ≡ length l.initial.draft)
    × (l.place ≡ l.at + l.w * l.v-index)
    × LaidAll l.initial.draft l.draft l.at l.w (take l.v-index l.letters)
