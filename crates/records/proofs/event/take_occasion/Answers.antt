use Rattle.rows.specs.Inner.Line.{taken, ◌▸◌}
use Rattle.rows.specs.Table.Event.{event}
use Rattle.records.proofs.event.take_occasion.Goals as goal

pub returns : goal.returns
unfolding event
returns c =
    record {
      takes =
          c.number-date.ensures
          ▸ c.at_most-minute.ensures
          ▸ c.number-bitmap.ensures
          ▸ c.number-display_data.ensures
          ▸ c.number-network.ensures
          ▸ c.number-code.ensures
          ▸ c.number-result.ensures
          ▸ c.number-provider.ensures
          ▸ c.number-not_ok_counter.ensures
          ▸ c.number-serial.ensures
          ▸ c.number-destination.ensures
          ▸ c.number-location.ensures
          ▸ taken;
      ready = c.number-location.ensures.ready;
    }
