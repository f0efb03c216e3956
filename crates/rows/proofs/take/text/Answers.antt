use Rattle.std.proofs.Common.{length, sym, ◌∙◌, arith}
use Rattle.rows.proofs.Stepping.{halted, clear, on, off, map_none, total_same}
use Rattle.rows.proofs.Taking.{took_refused, took_absent, took_past, took_text}
use Rattle.rows.proofs.take.text.Goals as goal

pub returns-then-is_refused : goal.returns-then-is_refused
returns-then-is_refused c = took_refused _ _ _ _ _ _ _ c.requires.0 (halted c.is_refused.ensures c.if-is_refused.true)

pub returns-then-not-there : goal.returns-then-not-there
returns-then-not-there c = took_absent _ _ _ _ _ _ _ _ c.requires.0 (clear c.is_refused.ensures c.if-is_refused.false) (off _ c.args.when c.there.ensures c.if-not-there.true) (c.requires.1.1 ∙ sym (map_none (length c.args.letters.now) 5)) c.absent.ensures

pub returns-then-end-c : goal.returns-then-end-c
returns-then-end-c c = took_past _ _ _ _ _ _ _ _ c.requires.0 (clear c.is_refused.ensures c.if-is_refused.false) (rw (on _ c.args.when c.there.ensures c.if-not-there.false, total_same) (omega arith)) c.past.ensures

pub returns : goal.returns
returns c = took_text _ _ _ _ _ _ _ c.requires.0 (on _ c.args.when c.there.ensures c.if-not-there.false) c.spell.ensures c.admit.ensures
