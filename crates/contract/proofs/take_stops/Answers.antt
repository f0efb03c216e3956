use Rattle.rows.specs.Inner.Line.{taken, ◌▸◌}
use Rattle.rows.specs.Table.Contract.{data50}
use Rattle.contract.proofs.take_stops.Goals as goal

pub returns : goal.returns
unfolding data50
returns c = λ n h. record {
  takes =
      c.number-stop1.ensures
      ▸ c.number-stop2.ensures
      ▸ c.number-stop3.ensures
      ▸ c.number-stop4.ensures
      ▸ c.number-line1.ensures
      ▸ c.number-line2.ensures
      ▸ taken;
  ready = c.number-line2.ensures.ready;
}
