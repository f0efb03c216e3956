use Rattle.rows.specs.Inner.Line.{given, ◌◂◌}
use Rattle.rows.specs.Table.Holder.{holder}
use Rattle.holder.proofs.put_identity.Goals as goal

pub returns : goal.returns
unfolding holder
returns c =
    record {
      puts =
          c.number-c.ensures
          ◂ c.number-c-2.ensures
          ◂ c.number-c-3.ensures
          ◂ c.at_most.ensures
          ◂ given;
      ready = c.at_most.ensures.ready;
    }
