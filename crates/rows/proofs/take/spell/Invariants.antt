use Rattle.std.proofs.Common.{◌≡◌, ◌+◌, ◌-◌, ◌*◌, ◌≤◌, ◌++◌, length, take}
use Rattle.rows.specs.Inner.Step.{letters_at}
use Rattle.rows.proofs.take.spell.Given as goal

abbrev pub invariant-loop-letter : goal.invariant-loop-letter
invariant-loop-letter l =
    (l.letter-index ≤ length l.initial.letters)
    × (length l.letters ≡ length l.initial.letters)
    × (l.place ≡ l.at + l.w * l.letter-index)
    × (letters_at l.words l.at l.w (length l.initial.letters) ≡ take l.letter-index l.letters ++ letters_at l.words l.place l.w (length l.initial.letters - l.letter-index))
