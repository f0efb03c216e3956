use mathlib.Core.Path.{refl}
use native.Mathlib.Omega.{arith}
use Rattle.rows.specs.Table.BestContracts.{contract_list}
use Rattle.rows.proofs.Tables.{list_rows}
use Rattle.lists.specs.List.{list_fault, fair}
use Rattle.lists.proofs.Kept.{inside_limits}
use Rattle.lists.proofs.Listing.{list_tallied, list_unwritten, list_unwritten_outside, fairly_unwritten}
use Rattle.lists.proofs.list.write.Goals as goal

pub returns-then-bytes-ne-BYTES : goal.returns-then-bytes-ne-BYTES
unfolding contract_list
returns-then-bytes-ne-BYTES c =
    let a = c.args in
    fairly_unwritten (list_fault a.n) _ _ _ _ (fair a.c a.list) _ refl (list_unwritten (list_fault a.n) _ _ _ _ c.if-bytes-ne-BYTES.true)

pub returns-then-outside : goal.returns-then-outside
unfolding contract_list
returns-then-outside c =
    let a = c.args in
    fairly_unwritten (list_fault a.n) _ _ _ _ (fair a.c a.list) _ refl (list_unwritten_outside (list_fault a.n) _ _ _ _ c.if-bytes-ne-BYTES.false (rw c.outside.ensures at c.if-outside.true))

pub held-last-requires : goal.held-last-requires
held-last-requires c =
    let limits = inside_limits _ c.args.c (rw c.outside.ensures at c.if-outside.false) in
    (limits.0.1, omega (arith, limits))

pub returns : goal.returns
unfolding contract_list
returns c =
    let a = c.args in
    let inside = rw c.outside.ensures at c.if-outside.false in
    rw c.met.ensures
    (list_tallied (list_fault a.n) _ (contract_list a.n) _ _ _ _ _ _ _ (omega (arith, list_rows a.n)) c.if-bytes-ne-BYTES.false inside refl refl c.put_list-end.ensures refl (fair a.c a.list) _ c.held-last.ensures c.end.ensures)
