use Rattle.rows.specs.Inner.Line.{taken, ◌▸◌}
use Rattle.rows.specs.Table.Contract.{data50}
use Rattle.contract.proofs.take_zones.Goals as goal

pub returns : goal.returns
unfolding data50
returns c = λ n h. record {
  takes =
      c.number-period_end.ensures
      ▸ c.number-period_balance.ensures
      ▸ c.number-zone1.ensures
      ▸ c.number-zone2.ensures
      ▸ c.number-zone3.ensures
      ▸ c.number-sections.ensures
      ▸ c.number-sections_left.ensures
      ▸ taken;
  ready = c.number-sections_left.ensures.ready;
}
