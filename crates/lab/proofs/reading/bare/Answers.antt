use Rattle.std.proofs.Common.{◌≡◌, Err, map, rules}
use Rattle.lab.specs.Layout.{row_of}
use Rattle.lab.proofs.Answers.{row_low, bare_refused, bare_five, bare_all}
use Rattle.lab.proofs.reading.bare.Goals as goal

pub met-requires : goal.met-requires
met-requires g c = λ why.
    row_low (map (row_of c.args.most) c.args.rows.now) c.args.most c.args.bytes.now g.row.N _ c.requires.0 c.run-state.ensures why

pub returns-in_err-met : goal.returns-in_err-met
returns-in_err-met g c =
    let is : c.from_residual.result ≡ Err c.in_err-met.field-0.0 = search rules in
    rw is (bare_refused _ _ _ _ _ c.requires.0 c.run-state.ensures _ c.in_err-met.ensures)

pub returns-in-Some : goal.returns-in-Some
returns-in-Some g c = bare_five _ _ _ _ _ c.requires.0 c.run-state.ensures c.in_ok-met.ensures _ c.in-Some.ensures.0 c.in-Some.ensures.1

pub returns : goal.returns
returns g c = bare_all _ _ _ _ _ c.requires.0 c.run-state.ensures c.in_ok-met.ensures c.in_default.ensures c.requires.1 c.copy_from_slice.ensures.after
