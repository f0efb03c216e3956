use mathlib.Core.Path.{refl}
use Rattle.records.proofs.Answering.{record_unwritten}
use Rattle.bip.proofs.Whole.{puts_whole}
use Rattle.bip.proofs.write.Goals as goal

pub returns-then-bytes-ne-BYTES : goal.returns-then-bytes-ne-BYTES
returns-then-bytes-ne-BYTES c = record_unwritten _ _ _ _ c.if-bytes-ne-BYTES.true

pub returns : goal.returns
returns c =
    let given = c.put_fields-last.ensures in
    rw c.met.ensures
    (puts_whole c.args.b _ _ _ _ _ refl c.if-bytes-ne-BYTES.false given c.end.ensures)
