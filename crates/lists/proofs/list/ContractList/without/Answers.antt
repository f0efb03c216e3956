use native.Mathlib.Omega.{arith}
use mathlib.Core.Path.{◌≡◌, refl, ◌∙◌}
use lib.ListN.{length}
use borrow.Author.Rules.{rules}
use Rattle.lists.proofs.Listing.{length_of_map}
use Rattle.lists.proofs.Masks.{bit_most, from_bit}
use Rattle.lists.proofs.Entries.{few_counted, thinning_start, thinning_out, thinning_kept, thinned, gone_few, clearing_start, clearing_more, clearing_all}
use Rattle.lists.proofs.list.ContractList.without.Goals as goal
use Rattle.lists.proofs.list.ContractList.without.Goals.{then-entry-pointer, else-entry-pointer}

pub loop-i-init : goal.loop-i-init
loop-i-init c =
    let list = c.args.self in
    let eight : length list.entries ≡ 8 = search (rules, length_of_map) in
    (rw c.len-n.ensures (few_counted list eight refl), thinning_start _ list eight, refl)

pub overflow_add-gone : goal.overflow_add-gone
overflow_add-gone c =
    let loop = c.loop-i in
    let used = c.used_up.result in
    omega (arith, gone_few loop.invariant.1, c.from-gone.ensures, from_bit used, bit_most used)

pub loop-i-preserved : goal.loop-i-preserved
loop-i-preserved c =
    let inv = c.loop-i.invariant in
    let more = rw c.len-n.ensures at c.loop-i-test.true in (
      inv.0,
      elim c.if-entry-pointer.branch [
        | then-entry-pointer w ↦ rw (w.self-is, w.gone-is, w.left-is) (thinning_kept inv.1 _ more w.if-entry-pointer.true)
        | else-entry-pointer w ↦ rw (w.self-is, w.gone-is, w.left-is, w.from-gone.ensures, from_bit w.used_up.result, w.used_up.ensures) (thinning_out inv.1 _ more w.if-entry-pointer.false)
      ],
      elim c.if-entry-pointer.branch [ then-entry-pointer w ↦ rw w.self-is inv.2 | else-entry-pointer w ↦ rw w.self-is inv.2 ],
    )

pub loop-k-init : goal.loop-k-init
loop-k-init c = clearing_start _ c.loop-i.invariant.1.eight (omega arith)

pub loop-k-preserved : goal.loop-k-preserved
loop-k-preserved c = clearing_more c.loop-k.invariant (omega arith)

pub returns : goal.returns
returns c =
    let inv = c.loop-i.invariant in
    let all = rw c.len-n.ensures at c.loop-i-test.false in
    clearing_all c.loop-k.invariant c.loop-k-test.false ∙ thinned inv.1 _ _ all (rw inv.2 at c.without-self.ensures)
