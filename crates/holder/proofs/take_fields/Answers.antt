use Rattle.rows.specs.Table.Holder.{holder}
use Rattle.rows.proofs.Running.{takes_append}
use Rattle.holder.proofs.take_fields.Goals as goal

pub returns : goal.returns
unfolding holder
returns c =
    record {
      takes =
          takes_append c.take_person-person.ensures.takes
          (takes_append c.take_identity-identity.ensures.takes
          (takes_append c.take_profiles-profiles.ensures.takes c.take_data.ensures.takes));
      ready = c.take_data.ensures.ready;
    }
