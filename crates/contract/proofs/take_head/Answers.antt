use Rattle.rows.specs.Inner.Line.{taken, ◌▸◌}
use Rattle.rows.specs.Table.Contract.{head}
use Rattle.contract.proofs.take_head.Goals as goal

pub returns : goal.returns
unfolding head
returns c = record {
  takes =
      c.number-bitmap.ensures
      ▸ c.number-provider.ensures
      ▸ c.number-tariff.ensures
      ▸ c.number-serial.ensures
      ▸ c.number-class.ensures
      ▸ c.number-validity.ensures
      ▸ c.number-start_date.ensures
      ▸ c.number-end_date.ensures
      ▸ c.number-status.ensures
      ▸ taken;
  ready = c.number-status.ensures.ready;
}
