use Rattle.rows.specs.Inner.Line.{taken, ◌▸◌}
use Rattle.rows.specs.Table.Holder.{holder}
use Rattle.holder.proofs.Letters.{letters_took}
use Rattle.holder.proofs.take_person.Goals as goal

pub returns : goal.returns
unfolding holder
returns c =
    record {
      takes =
          c.number-bitmap.ensures
          ▸ c.number-name.ensures
          ▸ letters_took 17 c.text-c.auto.letters c.text-c.ensures
          ▸ letters_took 17 c.text-c-2.auto.letters c.text-c-2.ensures
          ▸ c.number-birth.ensures
          ▸ c.number-date.ensures
          ▸ letters_took 23 c.text-c-3.auto.letters c.text-c-3.ensures
          ▸ letters_took 17 c.text-last.auto.letters c.text-last.ensures
          ▸ taken;
      ready = c.text-last.ensures.ready;
    }
