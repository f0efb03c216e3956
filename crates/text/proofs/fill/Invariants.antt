use Prim.Native.Nat.{◌-◌, ◌*◌}
use mathlib.Core.Path.{◌≡◌}
use mathlib.Core.List.{◌++◌}
use lib.ListN.{length, take, drop}
use Rattle.text.specs.Hex.{spelt}
use Rattle.text.proofs.fill.Given as goal

abbrev pub invariant-loop-i : goal.invariant-loop-i
invariant-loop-i l =
    spelt (length l.initial.out) l.text ≡ take l.i l.out ++ spelt (length l.initial.out - l.i) (drop (2 * l.i) l.text)
