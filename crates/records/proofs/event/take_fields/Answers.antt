use Rattle.rows.specs.Table.Event.{event}
use Rattle.rows.proofs.Running.{takes_append}
use Rattle.records.proofs.event.take_fields.Goals as goal

pub returns : goal.returns
unfolding event
returns c =
    record {
      takes =
          takes_append c.take_occasion-occasion.ensures.takes
          (takes_append c.take_journey-journey.ensures.takes c.take_account.ensures.takes);
      ready = c.take_account.ensures.ready;
    }
