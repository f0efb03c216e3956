use mathlib.Core.Path.{refl}
use Rattle.rows.specs.Inner.Line.{taken, ◌▸◌}
use Rattle.bip.specs.Table.{bip}
use Rattle.bip.proofs.take_fields.Goals as goal

pub returns : goal.returns
unfolding bip
returns c =
    record {
      all = _;
      last = _;
      taken =
          record {
            takes =
                c.number-company.ensures
                ▸ c.number-format.ensures
                ▸ c.number-rfu.ensures
                ▸ c.number-extra_tariff.ensures
                ▸ c.number-tariff.ensures
                ▸ c.number-serial.ensures
                ▸ c.number-start.ensures
                ▸ c.number-end.ensures
                ▸ c.number-days.ensures
                ▸ c.number-sam_serial.ensures
                ▸ c.number-sam_counter.ensures
                ▸ c.number-tag.ensures
                ▸ c.number-mac.ensures
                ▸ taken;
            ready = c.number-mac.ensures.ready;
          };
      value = rw (c.of-2.ensures, c.of.ensures, c.complement-2.ensures, c.complement.ensures) refl;
    }
