use Rattle.rows.specs.Inner.Line.{taken, ◌▸◌}
use Rattle.rows.specs.Table.Environment.{environment}
use Rattle.records.proofs.environment.take_fields.Goals as goal

pub returns : goal.returns
unfolding environment
returns c =
    record {
      takes =
          c.number-version.ensures
          ▸ c.number-bitmap.ensures
          ▸ c.number-network.ensures
          ▸ c.number-issuer.ensures
          ▸ c.number-end_date.ensures
          ▸ c.number-pay_method.ensures
          ▸ c.number-authenticator.ensures
          ▸ c.number-select_list.ensures
          ▸ c.env_data-data.ensures
          ▸ c.number-card_status.ensures
          ▸ taken;
      ready = c.number-card_status.ensures.ready;
    }
