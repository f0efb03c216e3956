use Rattle.rows.specs.Inner.Line.{taken, ◌▸◌}
use Rattle.rows.specs.Table.Contract.{data50}
use Rattle.contract.proofs.take_terms.Goals as goal

pub returns : goal.returns
unfolding data50
returns c = λ h. record {
  takes =
      c.number-end_date.ensures
      ▸ c.number-grey_list.ensures
      ▸ c.number-chrono.ensures
      ▸ c.number-flag.ensures
      ▸ c.number-groups.ensures
      ▸ c.number-agent.ensures
      ▸ c.number-origin.ensures
      ▸ c.number-destination.ensures
      ▸ c.number-via.ensures
      ▸ taken;
  ready = c.number-via.ensures.ready;
}
