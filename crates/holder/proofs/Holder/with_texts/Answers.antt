use Prim.Native.Nat.{ℕ, ◌+◌, ◌*◌, ◌<◌}
use mathlib.Core.Path.{◌≡◌}
use native.Mathlib.Omega.{arith}
use lib.ListN.{get_or}
use borrow.Author.Rules.{rules}
use Rattle.records.proofs.Inverse.{named_all}
use Rattle.holder.specs.Holder.{profile_of, absent}
use Rattle.holder.proofs.Holder.with_texts.Goals as goal

pub returns : goal.returns
returns c =
    let vals = c.args.numbers in
    let ps = c.from_fn.result in
    let at : (i : ℕ) → i < 4 → get_or ps i absent ≡ profile_of (82 + 4 * i) vals = λ i h. search rules in
    rw (← named_all absent 4 ps c.from_fn.ensures.items.long, at 0 (omega arith), at 1 (omega arith), at 2 (omega arith), at 3 (omega arith))
