use Prim.Native.Nat.{ℕ, ◌+◌, ◌*◌, ◌<◌}
use mathlib.Core.Path.{◌≡◌}
use mathlib.Core.List.{[]}
use native.Mathlib.Omega.{arith}
use lib.ListN.{get_or}
use borrow.Author.Rules.{rules}
use Rattle.records.proofs.Inverse.{named_all}
use Rattle.lists.specs.Special.{entry_of}
use Rattle.lists.proofs.special.SpecialList.of.Goals as goal

pub returns : goal.returns
returns c =
    let vals = c.args.numbers in
    let es = c.from_fn.result in
    let at : (i : ℕ) → i < 4 → get_or es i (entry_of [] 0) ≡ entry_of vals (1 + 5 * i) = λ i h. search rules in
    rw (← named_all (entry_of [] 0) 4 es c.from_fn.ensures.items.long, at 0 (omega arith), at 1 (omega arith), at 2 (omega arith), at 3 (omega arith))
