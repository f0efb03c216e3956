use Rattle.rows.specs.Inner.Line.{given, ◌◂◌}
use Rattle.rows.specs.Table.Contract.{data42}
use Rattle.contract.proofs.put_carnet.Goals as goal

pub returns : goal.returns
unfolding data42
returns c = λ h. record {
  puts =
      c.number-at.ensures
      ◂ c.number-at-2.ensures
      ◂ c.number-at-3.ensures
      ◂ c.at_most-at.ensures
      ◂ c.number-at-4.ensures
      ◂ c.number-at-5.ensures
      ◂ c.number-at-6.ensures
      ◂ c.number-at-7.ensures
      ◂ c.number.ensures
      ◂ given;
  ready = c.number.ensures.ready;
}
