use Rattle.rows.specs.Table.Event.{event}
use Rattle.rows.proofs.Running.{puts_append}
use Rattle.records.proofs.event.put_fields.Goals as goal

pub returns : goal.returns
unfolding event
returns c =
    record {
      puts =
          puts_append c.put_occasion-occasion.ensures.puts
          (puts_append c.put_journey-journey.ensures.puts c.put_account.ensures.puts);
      ready = c.put_account.ensures.ready;
    }
