use native.Mathlib.Omega.{arith}
use mathlib.Core.Path.{◌≡◌}
use lib.ListN.{length}
use borrow.Author.Rules.{rules}
use Rattle.lists.proofs.Listing.{length_of_map}
use Rattle.lists.proofs.Entries.{few_counted}
use Rattle.lists.proofs.Tallying.{tally_none}
use Rattle.lists.proofs.Fairness.{tally_more, tally_all}
use Rattle.lists.proofs.list.ContractList.fresh_tally.Goals as goal

pub loop-entry-init : goal.loop-entry-init
loop-entry-init c =
    let list = c.args.self in
    let eight : length list.entries ≡ 8 = search (rules, length_of_map) in
    (few_counted list eight c.counted-entry-items.ensures, tally_none _)

pub loop-entry-preserved : goal.loop-entry-preserved
loop-entry-preserved c =
    let inv = c.loop-entry.invariant in
    (inv.0, tally_more _ _ _ _ inv.1 inv.0 _ _ (omega arith) c.with-tally.ensures)

pub returns : goal.returns
returns c =
    let inv = c.loop-entry.invariant in
    rw c.counted-entry-items.ensures at (tally_all _ _ _ _ inv.1 (omega arith))
