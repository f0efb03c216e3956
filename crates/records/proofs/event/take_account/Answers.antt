use Rattle.rows.specs.Inner.Line.{taken, ◌▸◌}
use Rattle.rows.specs.Table.Event.{event}
use Rattle.records.proofs.event.take_account.Goals as goal

pub returns : goal.returns
unfolding event
returns c =
    record {
      takes =
          c.number-total_journeys.ensures
          ▸ c.number-distance.ensures
          ▸ c.number-price.ensures
          ▸ c.number-price_unit.ensures
          ▸ c.at_most-pointer.ensures
          ▸ c.number-authenticator.ensures
          ▸ c.number-data_bitmap.ensures
          ▸ c.number-first_date.ensures
          ▸ c.at_most-first_minute.ensures
          ▸ c.number-simulation.ensures
          ▸ c.number-trip.ensures
          ▸ c.number-direction.ensures
          ▸ taken;
      ready = c.number-direction.ensures.ready;
    }
