use Rattle.rows.specs.Inner.Line.{taken, ◌▸◌}
use Rattle.rows.specs.Table.Contract.{data42}
use Rattle.contract.proofs.take_carnet.Goals as goal

pub returns : goal.returns
unfolding data42
returns c = λ h. record {
  takes =
      c.number-pay_method.ensures
      ▸ c.number-price.ensures
      ▸ c.number-sale_date.ensures
      ▸ c.at_most-sale_minute.ensures
      ▸ c.number-agent.ensures
      ▸ c.number-device.ensures
      ▸ c.number-receipt.ensures
      ▸ c.number-passengers.ensures
      ▸ c.number-inhibition_end.ensures
      ▸ taken;
  ready = c.number-inhibition_end.ensures.ready;
}
