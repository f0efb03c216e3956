use Rattle.rows.specs.Inner.Line.{given, ◌◂◌}
use Rattle.rows.specs.Table.Contract.{data50}
use Rattle.contract.proofs.put_purse.Goals as goal

pub returns : goal.returns
unfolding data50
returns c = λ n h. record {
  puts =
      c.number-at.ensures
      ◂ c.number-at-2.ensures
      ◂ c.number-at-3.ensures
      ◂ c.number-at-4.ensures
      ◂ c.number-at-5.ensures
      ◂ c.number-at-6.ensures
      ◂ c.number-at-7.ensures
      ◂ c.number-at-8.ensures
      ◂ c.number.ensures
      ◂ given;
  ready = c.number.ensures.ready;
}
