use lib.Dec.{lit≤}
use Rattle.rows.specs.Table.Event.{event}
use Rattle.rows.proofs.Putting.{all_put, ◌◃◌, puts_from}
use Rattle.rows.proofs.Running.{puts_long}
use Rattle.records.proofs.event.put_journey.Goals as goal

pub number-d-requires-9 : goal.number-d-requires-9
number-d-requires-9 c = ((c.never-d.ensures _ c.number-d-8.ensures.ready.longer).ready, lit≤ tt)

pub returns : goal.returns
unfolding event
returns c =
    record {
      puts =
          puts_from 12
          (c.number-d.ensures
          ◃ c.number-d-2.ensures
          ◃ c.number-d-3.ensures
          ◃ c.number-d-4.ensures
          ◃ c.number-d-5.ensures
          ◃ c.number-d-6.ensures
          ◃ c.number-d-7.ensures
          ◃ c.number-d-8.ensures
          ◃ c.never-d.ensures _ c.number-d-8.ensures.ready.longer
          ◃ c.number-d-9.ensures
          ◃ c.number-d-10.ensures
          ◃ c.number.ensures
          ◃ all_put)
          (lit≤ tt);
      ready = c.number.ensures.ready;
    }
