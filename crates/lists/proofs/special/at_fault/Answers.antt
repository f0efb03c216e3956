use Prim.Native.Nat.{ℕ}
use mathlib.Core.Path.{◌≡◌, ap, ◌∙◌}
use native.Mathlib.Omega.{arith}
use lib.ListN.{length, take, length-take}
use lib.Seq.{take_all}
use borrow.Author.Rules.{rules}
use Rattle.lists.specs.Inner.Judging.{optional}
use Rattle.lists.proofs.Listing.{length_of_map}
use Rattle.lists.proofs.Judging.{judges_none, judges_next}
use Rattle.lists.proofs.special.Laws.{fault_special}
use Rattle.lists.proofs.special.at_fault.Goals as goal

pub loop-i-init : goal.loop-i-init
loop-i-init c =
    let list = c.args.list in
    let four : length list.entries ≡ 4 = search (rules, length_of_map) in
    (rw (c.counted-entry-items.ensures, length-take, four) (omega arith), judges_none _ _)

pub loop-i-preserved : goal.loop-i-preserved
loop-i-preserved c =
    let inv = c.loop-i.invariant in
    (inv.0, judges_next _ _ 7 _ _ _ _ (omega arith) inv.1 c.with-judged.ensures)

pub returns : goal.returns
returns c =
    let list = c.args.list in
    let four : length list.entries ≡ 4 = search (rules, length_of_map) in
    let items = c.counted-entry-items.result.now in
    let all : take c.loop-i.i items ≡ take list.count list.entries = take_all c.loop-i.i items c.loop-i-test.false ∙ c.counted-entry-items.ensures in
    c.fault.ensures ∙ ap (λ (k : ℕ). optional k) (rw (all, fault_special c.args.s list four) at c.loop-i.invariant.1.fault)
