use Rattle.rows.specs.Inner.Line.{taken, ◌▸◌}
use Rattle.rows.specs.Table.Contract.{data50}
use Rattle.contract.proofs.take_purse.Goals as goal

pub returns : goal.returns
unfolding data50
returns c = λ n h. record {
  takes =
      c.number-token1.ensures
      ▸ c.number-token2.ensures
      ▸ c.number-autoload_start.ensures
      ▸ c.number-autoload_end.ensures
      ▸ c.number-balance.ensures
      ▸ c.number-last_debit.ensures
      ▸ c.number-purse.ensures
      ▸ c.number-debit.ensures
      ▸ c.number-passengers.ensures
      ▸ taken;
  ready = c.number-passengers.ensures.ready;
}
