use Rattle.std.proofs.Common.{◌≡◌, ◌/◌, ◌≤◌, false, length, get_or, arith}
use lib.ListN.{get_or-eq_default}
use Rattle.bits.specs.Bits.{spread}
use Rattle.bits.proofs.Cutting.{length-spread, bit_spread}
use Rattle.lab.proofs.run.bit_at.Goals as goal

pub returns-in-None : goal.returns-in-None
returns-in-None c =
    let a = c.args in
    let bits = spread 8 a.bytes.now in
    let over = c.in-None.ensures.lookup in
    let past : length bits ≤ a.place = rw length-spread (omega arith) in
    rw (get_or-eq_default bits false past)

pub returns-in-Some : goal.returns-in-Some
returns-in-Some c =
    let a = c.args in
    let own : c.in-Some.byte.now ≡ get_or a.bytes.now (a.place / 8) 0 = c.in-Some.ensures.lookup.3.1 0 in
    rw own (bit_spread a.bytes.now a.place (λ i. (c.type_inv.bytes i).fits))
