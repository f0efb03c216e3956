use Rattle.std.proofs.Common.{◌≡◌, Err, map, rules}
use Rattle.rows.specs.Walk.{slots}
use Rattle.lab.specs.Layout.{row_of}
use Rattle.lab.proofs.Answers.{row_low, with_refused, with_all}
use Rattle.lab.proofs.reading.with_margin.Goals as goal

pub met-requires : goal.met-requires
met-requires g c = λ why.
    row_low (map (row_of 0) c.args.rows.now) 0 c.args.bytes.now g.row.N _ c.requires.0 c.run-state.ensures why

pub returns-in_err-met : goal.returns-in_err-met
returns-in_err-met g c =
    let is : c.from_residual.result ≡ Err c.in_err-met.field-0.0 = search rules in
    rw is (with_refused _ _ _ _ _ c.requires.0 c.run-state.ensures _ c.in_err-met.ensures (slots (map (row_of 0) c.args.rows.now)) _)

pub returns : goal.returns
returns g c =
    with_all _ _ _ _ _ c.requires.0 c.run-state.ensures c.in_ok-met.ensures _ (search rules) c.copy_from_slice.ensures.after c.margin.ensures
