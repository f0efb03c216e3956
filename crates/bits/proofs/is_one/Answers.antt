use Rattle.bits.proofs.Cutting.{bit_spread}
use Rattle.bits.proofs.is_one.Goals as goal

pub returns : goal.returns
returns c = rw c.byte-byte.ensures (bit_spread c.args.bytes.now c.args.at (λ i. (c.type_inv.bytes i).fits))
