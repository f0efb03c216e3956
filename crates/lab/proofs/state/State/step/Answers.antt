use Rattle.std.proofs.Common.{◌≡◌, ◌+◌, ◌<◌, map, drop, ap, length, get_or, sym, ◌∙◌, lt-ltb, eq-eqb}
use Rattle.rows.specs.Inner.Standing.{why_of}
use Rattle.lab.proofs.Answers.{unmet}
use Rattle.lab.specs.Layout.{row_of}
use Rattle.lab.specs.Machine.{Reader, closed, stepped}
use Rattle.lab.proofs.Rows.{rows_from}
use Rattle.lab.proofs.state.State.step.Goals as goal

pub returns : goal.returns
unfolding stepped
returns c =
    let inside : c.args.self.row < length c.args.rows.now = c.in-Some.ensures.lookup.3.0 in
    let own : get_or c.args.rows.now c.args.self.row 0 ≡ c.in-Some.field-0.now = sym (c.in-Some.ensures.lookup.3.1 0) in
    let more = rw (c.taken.ensures, c.bits.ensures) at c.if-bits-taken.false in
    rw (eq-eqb (why_of c.args.self.why) 0 (unmet c.args.self.why (sym c.is_some.ensures ∙ c.if-is_some.false)), lt-ltb _ _ c.if-self.false, rows_from _ _ _ inside, own, lt-ltb _ _ more) (c.closed.ensures ∙ ap (λ (r : Reader). closed (row_of r.most c.in-Some.field-0.now) (drop (r.row + 1) (map (row_of r.most) c.args.rows.now)) r) c.noted.ensures)
