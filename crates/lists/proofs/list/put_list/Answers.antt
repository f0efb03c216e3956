use mathlib.Core.Path.{◌≡◌, refl}
use native.Mathlib.Omega.{arith}
use lib.ListN.{length}
use Rattle.rows.specs.Table.BestContracts.{contract_list}
use Rattle.rows.specs.Inner.Line.{given, ◌◂◌}
use Rattle.lists.proofs.Listing.{length_of_map}
use Rattle.lists.proofs.Rowing.{putting_more, putting_all}
use Rattle.lists.proofs.Lines.{numbers_flat}
use borrow.Author.Rules.{rules}
use Rattle.lists.proofs.list.put_list.Goals as goal

pub loop-k-init : goal.loop-k-init
loop-k-init c = record { upto = omega arith; ready = c.at_most-head.ensures.ready; puts = given }

pub loop-k-preserved : goal.loop-k-preserved
loop-k-preserved c = putting_more c.loop-k.invariant 6 (λ e. refl) _ _ _ (omega arith) c.put_entry-c.ensures

pub returns : goal.returns
unfolding contract_list
returns c =
    let l = c.args.list in
    let eight : length l.entries ≡ 8 = search (rules, length_of_map) in
    c.at_most-head.ensures ◂ (rw (eight, ← numbers_flat l eight) at (putting_all c.loop-k.invariant (omega arith)))
