use Rattle.std.proofs.Common.{◌≡◌, Err, rules}
use mathlib.Core.Path.{refl}
use native.Mathlib.Omega.{arith}
use Rattle.rows.specs.Table.Holder.{holder}
use Rattle.rows.proofs.Tables.{holder_rows}
use Rattle.records.proofs.Answering.{met_none, met_one, area_unput, area_written}
use Rattle.rows.specs.Inner.Standing.{stand}
use Rattle.holder.proofs.write_area.Goals as goal

pub returns-in_err-met : goal.returns-in_err-met
unfolding holder
returns-in_err-met c =
    let one = c.in_err-met.ensures in
    let is : c.from_residual.result ≡ Err c.in_err-met.field-0.0 = search rules in
    rw (is, one) (area_unput holder _ _ _ _ _ _ _ (omega (arith, holder_rows)) refl refl c.requires c.put_fields-last.ensures.puts (met_one _ (stand c.put_fields-last.result) one))

pub returns : goal.returns
unfolding holder
returns c =
    rw c.met-2.ensures
    (area_written holder _ _ _ _ _ _ _ (omega (arith, holder_rows)) refl refl _ _ _ (met_none (stand c.put_fields-last.result) c.in_ok-met.ensures) c.end.ensures c.requires c.put_fields-last.ensures.puts c.put_area-end.ensures)
