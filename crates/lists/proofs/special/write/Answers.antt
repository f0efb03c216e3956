use mathlib.Core.Path.{refl}
use native.Mathlib.Omega.{arith}
use borrow.Author.Tests.{lt-ltb, le-ltb}
use Rattle.rows.specs.Table.Special.{special_list}
use Rattle.rows.proofs.Tables.{special_rows}
use Rattle.lists.specs.Special.{special_fault}
use Rattle.lists.proofs.Listing.{list_written, list_unwritten, list_unwritten_outside}
use Rattle.lists.proofs.Judging.{obeyed_rule}
use Rattle.lists.proofs.special.write.Goals as goal

pub returns-then-bytes-ne-BYTES : goal.returns-then-bytes-ne-BYTES
unfolding special_list
returns-then-bytes-ne-BYTES c = list_unwritten (special_fault c.args.s) _ _ _ _ c.if-bytes-ne-BYTES.true

pub returns-then-s-gt-MOST : goal.returns-then-s-gt-MOST
unfolding special_list
returns-then-s-gt-MOST c = list_unwritten_outside (special_fault c.args.s) _ _ _ _ c.if-bytes-ne-BYTES.false (lt-ltb _ _ c.if-s-gt-MOST.true)

pub returns : goal.returns
unfolding special_list
returns c =
    let last = obeyed_rule _ _ c.obeyed-last.ensures c.at_fault.ensures in
    rw c.met.ensures
    (list_written (special_fault c.args.s) _ special_list _ _ _ _ _ _ _ (omega (arith, special_rows)) c.if-bytes-ne-BYTES.false (le-ltb _ _ c.if-s-gt-MOST.false) refl refl c.put_list-end.ensures last c.end.ensures)
