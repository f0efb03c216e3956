use Rattle.std.proofs.Common.{length, sym, refl, ◌∙◌}
use lib.ListN.{length-replicate}
use Rattle.rows.specs.Inner.Standing.{stand}
use Rattle.rows.proofs.Stepping.{halted, clear, on, off, map_none}
use Rattle.rows.proofs.Giving.{gave_refused, gave_absent, gave_text, lays_all, some_wide}
use Rattle.rows.proofs.put.text.Goals as goal

pub returns-then-is_refused : goal.returns-then-is_refused
returns-then-is_refused c = gave_refused _ _ _ _ _ _ _ c.requires.0 (halted c.is_refused.ensures c.if-is_refused.true)

pub returns-then-not-there : goal.returns-then-not-there
returns-then-not-there c =
    let a = c.args in
    let wide = rw (← map_none (length a.letters.now) 5) at (c.any_wide.ensures ∙ some_wide 0 c.args.letters.now) in
    gave_absent _ _ _ _ _ _ _ _ _ c.requires.0 (sym (length-replicate _ 5)) (clear c.is_refused.ensures c.if-is_refused.false) (off _ c.args.when c.there.ensures c.if-not-there.true) wide c.absent.ensures

pub lay_all-requires : goal.lay_all-requires
lay_all-requires c = let a = c.args in lays_all _ a.room (stand a.c) _ _ _ c.requires.0 c.ranges.room.fits (c.any_wide-wide.ensures ∙ some_wide 5 c.args.letters.now) c.admit-d.ensures (clear c.is_refused-2.ensures c.if-not-is_refused.true)

pub returns-then-not-is_refused : goal.returns-then-not-is_refused
returns-then-not-is_refused c = gave_text _ _ _ _ _ _ _ _ c.requires.0 c.lay_all.auto.draft (on _ c.args.when c.there.ensures c.if-not-there.false) (c.any_wide-wide.ensures ∙ some_wide 5 c.args.letters.now) c.admit-d.ensures (λ ok. c.lay_all.ensures)

pub returns-else-not-is_refused : goal.returns-else-not-is_refused
returns-else-not-is_refused c = gave_text _ _ _ _ _ _ _ _ c.requires.0 refl (on _ c.args.when c.there.ensures c.if-not-there.false) (c.any_wide-wide.ensures ∙ some_wide 5 c.args.letters.now) c.admit-d.ensures (λ ok. absurd (halted c.is_refused-2.ensures c.if-not-is_refused.false ok))
