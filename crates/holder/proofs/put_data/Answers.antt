use Prim.Native.Nat.{ℕ}
use mathlib.Core.List.{List}
use Rattle.rows.specs.Inner.Line.{Puts, given, ◌◂◌}
use Rattle.rows.specs.Table.Holder.{holder}
use Rattle.rows.proofs.Running.{puts_append}
use Rattle.records.specs.Answer.{from}
use Rattle.holder.specs.Holder.{numbers_of}
use Rattle.holder.specs.Inner.Steps.{block}
use Rattle.holder.proofs.put_data.Goals as goal

pub returns : goal.returns
unfolding holder
returns c =
    let vals : List ℕ = numbers_of c.args.h in
    let front : Puts _ vals (block 28 6) (from 0 98 vals) _ _ (from 0 104 vals) _ _ =
    c.number-c.ensures
    ◂ c.number-c-2.ensures
    ◂ c.number-c-3.ensures
    ◂ c.put_place-c.ensures
    ◂ c.number-c-4.ensures
    ◂ c.put_place-c-2.ensures
    ◂ given in
    let back : Puts _ vals (block 34 7) (from 0 104 vals) _ _ vals _ _ =
    c.put_place-c-3.ensures
    ◂ c.number-c-5.ensures
    ◂ c.number-c-6.ensures
    ◂ c.number-c-7.ensures
    ◂ c.number-c-8.ensures
    ◂ c.number-c-9.ensures
    ◂ c.number.ensures
    ◂ given in
    record { puts = puts_append front back; ready = c.number.ensures.ready }
