use Rattle.std.proofs.Common.{refl}
use Rattle.rows.specs.Inner.Standing.{stand}
use Rattle.rows.proofs.Stepping.{halted, clear, on, off}
use Rattle.rows.proofs.Giving.{gave_refused, gave_absent, gave_box, lays}
use Rattle.rows.proofs.put.ruled.Goals as goal

pub returns-then-is_refused : goal.returns-then-is_refused
returns-then-is_refused c = gave_refused _ _ _ _ _ _ _ c.requires.0 (halted c.is_refused.ensures c.if-is_refused.true)

pub returns-then-not-there : goal.returns-then-not-there
returns-then-not-there c = gave_absent _ _ _ _ _ _ _ _ _ c.requires.0 refl (clear c.is_refused.ensures c.if-is_refused.false) (off _ c.args.when c.there.ensures c.if-not-there.true) c.wide.ensures c.absent.ensures

pub lay-requires : goal.lay-requires
lay-requires c = let a = c.args in lays a.draft.now a.room (stand a.c) a.w a.v _ _ _ c.requires.0 c.requires.1 c.wide-wide.ensures c.admit-d.ensures (clear c.is_refused-2.ensures c.if-not-is_refused.true)

pub returns-then-not-is_refused : goal.returns-then-not-is_refused
returns-then-not-is_refused c = gave_box _ _ _ _ _ _ _ _ _ _ _ c.requires.0 c.lay.auto.draft (on _ c.args.when c.there.ensures c.if-not-there.false) c.wide-wide.ensures c.ruled-broken.ensures c.admit-d.ensures (λ ok. c.lay.ensures)

pub returns-else-not-is_refused : goal.returns-else-not-is_refused
returns-else-not-is_refused c = gave_box _ _ _ _ _ _ _ _ _ _ _ c.requires.0 refl (on _ c.args.when c.there.ensures c.if-not-there.false) c.wide-wide.ensures c.ruled-broken.ensures c.admit-d.ensures (λ ok. absurd (halted c.is_refused-2.ensures c.if-not-is_refused.false ok))
