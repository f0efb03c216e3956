use Rattle.std.proofs.Common.{rules, refl, arith, eq-eqb, ne_eqb}
use Rattle.rows.specs.Inner.Standing.{stand}
use Rattle.rows.proofs.Stepping.{halted, clear, on, off}
use Rattle.rows.proofs.Giving.{gave_refused, gave_absent, gave_tariff, packs_clear}
use Rattle.rows.proofs.put.tariff.Goals as goal

pub returns-then-is_refused : goal.returns-then-is_refused
returns-then-is_refused c = gave_refused _ _ _ _ _ _ _ c.requires (halted c.is_refused.ensures c.if-is_refused.true)

pub returns-then-not-here : goal.returns-then-not-here
returns-then-not-here c = gave_absent _ _ _ _ _ _ _ _ _ c.requires refl (clear c.is_refused.ensures c.if-is_refused.false) (off _ c.args.when c.there-here.ensures c.if-not-here.true) (rw c.if-not-here.true at c.tariff_wide-wide.ensures) c.absent.ensures

pub packed-requires : goal.packed-requires
packed-requires c = let a = c.args in (packs_clear a.room (stand a.c) a.key a.kind a.priority _ _ _ (rw c.if-not-here.false at c.tariff_wide-wide.ensures) c.admit-d.ensures (clear c.is_refused-2.ensures c.if-not-is_refused.true)).small

pub lay-requires : goal.lay-requires
lay-requires c = let a = c.args in
    let packs = packs_clear a.room (stand a.c) a.key a.kind a.priority _ _ _ (rw c.if-not-here.false at c.tariff_wide-wide.ensures) c.admit-d.ensures (clear c.is_refused-2.ensures c.if-not-is_refused.true) in
    (omega (arith, c.requires.within, c.requires.longer), (omega arith, rw c.packed.ensures packs.whole))

pub returns-then-not-is_refused : goal.returns-then-not-is_refused
returns-then-not-is_refused c =
    let a = c.args in
    gave_tariff _ _ _ _ _ _ _ _ _ _ _ c.requires c.lay.auto.draft (on _ c.args.when c.there-here.ensures c.if-not-here.false) (rw c.if-not-here.false at c.tariff_wide-wide.ensures) (search (rules, eq-eqb, ne_eqb)) c.admit-d.ensures (λ ok. rw c.packed.ensures at c.lay.ensures)

pub returns-else-not-is_refused : goal.returns-else-not-is_refused
returns-else-not-is_refused c =
    let a = c.args in
    gave_tariff _ _ _ _ _ _ _ _ _ _ _ c.requires refl (on _ c.args.when c.there-here.ensures c.if-not-here.false) (rw c.if-not-here.false at c.tariff_wide-wide.ensures) (search (rules, eq-eqb, ne_eqb)) c.admit-d.ensures (λ ok. absurd (halted c.is_refused-2.ensures c.if-not-is_refused.false ok))
