use Rattle.rows.specs.Inner.Line.{taken, ◌▸◌}
use Rattle.rows.specs.Table.Contract.{data50}
use Rattle.contract.proofs.take_limits.Goals as goal

pub returns : goal.returns
unfolding data50
returns c = λ n h. record {
  takes =
      c.number-weekly.ensures
      ▸ c.number-start_date.ensures
      ▸ c.at_most-end_minute.ensures
      ▸ c.number-token.ensures
      ▸ c.number-intermodal.ensures
      ▸ taken;
  ready = c.number-intermodal.ensures.ready;
}
