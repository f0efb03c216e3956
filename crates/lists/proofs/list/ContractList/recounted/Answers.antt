use native.Mathlib.Omega.{arith}
use mathlib.Core.Path.{◌≡◌}
use lib.ListN.{length}
use borrow.Author.Rules.{rules}
use Rattle.lists.proofs.Listing.{length_of_map}
use Rattle.lists.proofs.Entries.{few_counted}
use Rattle.lists.proofs.Fairness.{recount_none, recount_few, recount_more, recount_all}
use Rattle.lists.proofs.list.ContractList.recounted.Goals as goal

pub loop-i-init : goal.loop-i-init
loop-i-init c =
    let list = c.args.self in
    let eight : length list.entries ≡ 8 = search (rules, length_of_map) in
    (few_counted list eight c.counted-entry-items.ensures, recount_none _ _)

pub with-spent-requires : goal.with-spent-requires
with-spent-requires c =
    let inv = c.loop-i.invariant in
    recount_few _ _ _ _ _ _ inv.1 inv.0 (omega arith)

pub loop-i-preserved : goal.loop-i-preserved
loop-i-preserved c =
    let inv = c.loop-i.invariant in
    (inv.0, recount_more _ _ _ _ _ _ inv.1 inv.0 (omega arith) _ _ _ c.with-spent.ensures c.with-judged.ensures)

pub returns : goal.returns
returns c =
    let inv = c.loop-i.invariant in
    rw c.counted-entry-items.ensures at (recount_all _ _ _ _ _ _ inv.1 (omega arith))
