use Rattle.records.specs.Answer.{heard}
use Rattle.contract.specs.Contract.{contract_read}
use Rattle.contract.proofs.Telling.{contract_one}
use Rattle.selection.proofs.serves.Goals as goal

pub returns-then-opens : goal.returns-then-opens
returns-then-opens c =
    let read = contract_one (heard c.read.result) (contract_read c.args.entry.kind c.part-part.result.now) c.read.ensures in
    rw (← c.part-part.ensures, ← read, c.in-Ok.is, ← c.opens.ensures, c.if-opens.true) c.in_force.ensures

pub returns-else-opens : goal.returns-else-opens
returns-else-opens c =
    let read = contract_one (heard c.read.result) (contract_read c.args.entry.kind c.part-part.result.now) c.read.ensures in
    rw (← c.part-part.ensures, ← read, c.in-Ok.is, ← c.opens.ensures, c.if-opens.false)
