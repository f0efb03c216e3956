use Rattle.rows.specs.Inner.Line.{taken, ◌▸◌}
use Rattle.rows.specs.Table.Holder.{holder}
use Rattle.holder.proofs.take_data.Goals as goal

pub returns : goal.returns
unfolding holder
returns c =
    record {
      takes =
          c.number-data.ensures
          ▸ c.number-status.ensures
          ▸ c.number-pay.ensures
          ▸ c.take_place-residence.ensures
          ▸ c.number-commercial.ensures
          ▸ c.take_place-work.ensures
          ▸ c.take_place-study.ensures
          ▸ c.number-sale.ensures
          ▸ c.number-auth.ensures
          ▸ c.number-start1.ensures
          ▸ c.number-start2.ensures
          ▸ c.number-start3.ensures
          ▸ c.number-start4.ensures
          ▸ taken;
      ready = c.number-start4.ensures.ready;
    }
