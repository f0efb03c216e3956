use mathlib.Core.Bool.{false}
use mathlib.Core.Path.{◌≡◌}
use lib.ListN.{length}
use Rattle.records.specs.Answer.{area_length}
use Rattle.records.proofs.Answering.{area_short}
use Rattle.holder.proofs.read.Goals as goal

pub returns : goal.returns
returns c =
    let short : area_length (length c.args.bytes.now) ≡ false = cc in
    area_short _ _ _ _ short
