-- Behind each take and each put the next one may come, and a put leaves the draft as long as it was.
use Prim.Native.Nat.{ℕ}
use mathlib.Core.List.{List}
use mathlib.Core.Path.{◌≡◌}
use lib.ListN.{length}
use Rattle.rows.specs.Inner.Step.{Ready, Took, Drafted, Gave}
use Rattle.rows.specs.Inner.Standing.{Standing}
use Rattle.rows.specs.declared.When.{When}
use Rattle.rows.specs.declared.Rule.{Rule}

pub took_ready : {words : List ℕ} {end : ℕ} {c : Standing} {t : When} {ws : List ℕ} {rule : Rule} {vs : List ℕ} {d : Standing}
    → Took words end c t ws rule vs d
    → Ready words end d
took_ready took = took.ready

pub gave_ready : {xs ys : List ℕ} {room : ℕ} {c : Standing} {t : When} {ws : List ℕ} {rule : Rule} {vs : List ℕ} {d : Standing}
    → Gave xs ys room c t ws rule vs d
    → Drafted ys room d
gave_ready gave = gave.ready

pub gave_long : {xs ys : List ℕ} {room : ℕ} {c : Standing} {t : When} {ws : List ℕ} {rule : Rule} {vs : List ℕ} {d : Standing}
    → Gave xs ys room c t ws rule vs d
    → length ys ≡ length xs
gave_long gave = gave.long
