use Rattle.rows.specs.Inner.Line.{taken, ◌▸◌}
use Rattle.rows.specs.Table.Holder.{holder}
use Rattle.holder.proofs.take_identity.Goals as goal

pub returns : goal.returns
unfolding holder
returns c =
    record {
      takes =
          c.number-id.ensures
          ▸ c.number-country.ensures
          ▸ c.number-company.ensures
          ▸ c.at_most-count.ensures
          ▸ taken;
      ready = c.at_most-count.ensures.ready;
    }
