use mathlib.Core.Path.{refl, ap, ◌∙◌}
use native.Mathlib.Omega.{arith}
use Rattle.records.proofs.Answering.{record_read, record_short}
use Rattle.bip.specs.Table.{bip}
use Rattle.bip.specs.Value.{bip_of, bip_told}
use Rattle.std.specs.Prelude.{Ok, Err}
use Rattle.bip.proofs.Whole.{bip_rows, takes_whole}
use Rattle.bip.proofs.read.Goals as goal

pub returns-then-bytes-ne-BYTES : goal.returns-then-bytes-ne-BYTES
returns-then-bytes-ne-BYTES c = ap bip_told (record_short _ _ _ _ c.if-bytes-ne-BYTES.true)

pub returns : goal.returns
returns c =
    let bytes = c.args.bytes.now in
    let long = c.if-bytes-ne-BYTES.false in
    let cuts = c.words.ensures in
    let whole = c.take_fields.ensures in
    ap bip_told
    (ap Ok whole.value
    ∙ record_read (λ vals margin. Ok (bip_of vals)) Err bip bytes _ whole.all whole.last (omega (arith, bip_rows)) long cuts whole.taken
    (takes_whole bytes _ whole.all whole.last long cuts whole.taken) refl)
