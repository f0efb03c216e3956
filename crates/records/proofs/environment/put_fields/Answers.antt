use Rattle.rows.specs.Inner.Line.{given, ◌◂◌}
use Rattle.rows.specs.Table.Environment.{environment}
use Rattle.rows.proofs.Running.{puts_long}
use Rattle.records.proofs.environment.put_fields.Goals as goal

pub returns : goal.returns
unfolding environment
returns c =
    record {
      puts =
          c.number-c.ensures
          ◂ c.number-c-2.ensures
          ◂ c.number-c-3.ensures
          ◂ c.number-c-4.ensures
          ◂ c.number-c-5.ensures
          ◂ c.number-c-6.ensures
          ◂ c.number-c-7.ensures
          ◂ c.number-c-8.ensures
          ◂ c.env_data-c.ensures
          ◂ c.number-c-9.ensures
          ◂ given;
      ready = c.number-c-9.ensures.ready;
    }
