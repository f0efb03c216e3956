use Rattle.rows.specs.Inner.Line.{given, ◌◂◌}
use Rattle.bip.specs.Table.{bip}
use Rattle.bip.proofs.put_fields.Goals as goal

pub returns : goal.returns
unfolding bip
returns c =
    record {
      puts =
          c.number-c.ensures
          ◂ c.number-c-2.ensures
          ◂ c.number-c-3.ensures
          ◂ c.number-c-4.ensures
          ◂ c.number-c-5.ensures
          ◂ c.number-c-6.ensures
          ◂ (rw c.complement.ensures at c.number-c-7.ensures)
          ◂ (rw c.complement-2.ensures at c.number-c-8.ensures)
          ◂ (rw c.byte.ensures at c.number-c-9.ensures)
          ◂ c.number-c-10.ensures
          ◂ c.number-c-11.ensures
          ◂ (rw c.tag.ensures at c.number-c-12.ensures)
          ◂ c.number.ensures
          ◂ given;
      ready = c.number.ensures.ready;
    }
