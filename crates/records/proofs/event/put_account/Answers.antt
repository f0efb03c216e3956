use lib.Dec.{lit≤}
use Rattle.rows.specs.Table.Event.{event}
use Rattle.rows.proofs.Putting.{all_put, ◌◃◌, puts_from}
use Rattle.rows.proofs.Running.{puts_long}
use Rattle.records.proofs.event.put_account.Goals as goal

pub returns : goal.returns
unfolding event
returns c =
    record {
      puts =
          puts_from 24
          (c.number-d.ensures
          ◃ c.number-d-2.ensures
          ◃ c.number-d-3.ensures
          ◃ c.number-d-4.ensures
          ◃ c.at_most-d.ensures
          ◃ c.number-d-5.ensures
          ◃ c.number-d-6.ensures
          ◃ c.number-d-7.ensures
          ◃ c.at_most-d-2.ensures
          ◃ c.number-d-8.ensures
          ◃ c.number-d-9.ensures
          ◃ c.number.ensures
          ◃ all_put)
          (lit≤ tt);
      ready = c.number.ensures.ready;
    }
