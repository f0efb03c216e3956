use Rattle.std.proofs.Common.{rules, refl, arith, eq-eqb, ne_eqb}
use Rattle.rows.proofs.Stepping.{halted, clear, on, off}
use Rattle.rows.proofs.Taking.{took_refused, took_absent, took_past, took_tariff}
use Rattle.rows.proofs.take.tariff.Goals as goal

pub returns-then-is_refused : goal.returns-then-is_refused
returns-then-is_refused c = rw c.without_numbers.ensures (took_refused _ _ _ _ _ _ _ c.requires (halted c.is_refused.ensures c.if-is_refused.true))

pub returns-then-not-there : goal.returns-then-not-there
returns-then-not-there c = rw c.without_numbers-then-not-there.ensures (took_absent _ _ _ _ _ _ _ _ c.requires (clear c.is_refused.ensures c.if-is_refused.false) (off _ c.args.when c.there.ensures c.if-not-there.true) refl c.absent.ensures)

pub returns-then-end-c-lt-BITS : goal.returns-then-end-c-lt-BITS
returns-then-end-c-lt-BITS c = rw c.without_numbers-then-end-c-lt-BITS.ensures (took_past _ _ _ _ _ _ _ _ c.requires (clear c.is_refused.ensures c.if-is_refused.false) (rw (on _ c.args.when c.there.ensures c.if-not-there.false) (omega arith)) c.past.ensures)

pub returns : goal.returns
returns c =
    took_tariff _ _ _ _ _ _ _ c.requires (on _ c.args.when c.there.ensures c.if-not-there.false) c.number-v.ensures (search (rules, eq-eqb, ne_eqb)) c.admit-cursor.ensures
