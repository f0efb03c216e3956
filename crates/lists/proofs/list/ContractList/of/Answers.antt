use Prim.Native.Nat.{ℕ, ◌+◌, ◌*◌, ◌<◌}
use mathlib.Core.Path.{◌≡◌, sym, ◌∙◌}
use mathlib.Core.List.{[]}
use native.Mathlib.Omega.{arith}
use lib.ListN.{get_or}
use borrow.Author.Rules.{rules}
use Rattle.records.proofs.Inverse.{named_all}
use Rattle.lists.specs.List.{entry_of, entries_of}
use Rattle.lists.proofs.list.ContractList.of.Goals as goal

pub returns : goal.returns
returns c =
    let vals = c.args.numbers in
    let es = c.from_fn.result in
    let at : (i : ℕ) → i < 8 → get_or es i (entry_of [] 0) ≡ entry_of vals (1 + 6 * i) = λ i h. search rules in
    let all : es ≡ entries_of vals =
    sym (named_all (entry_of [] 0) 8 es c.from_fn.ensures.items.long)
    ∙ rw (at 0 (omega arith), at 1 (omega arith), at 2 (omega arith), at 3 (omega arith), at 4 (omega arith), at 5 (omega arith), at 6 (omega arith), at 7 (omega arith)) in
    rw (c.fresh_tally-list.ensures, all)
