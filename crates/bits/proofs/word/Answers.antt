use Prim.Native.Nat.{◌*◌}
use mathlib.Core.Path.{◌∙◌}
use native.Mathlib.Omega.{arith}
use Rattle.bits.specs.Bits.{spread}
use Rattle.bits.proofs.Fronts.{part_padded}
use Rattle.bits.proofs.Cutting.{eight_bytes}
use Rattle.bits.proofs.word.Goals as goal

-- Eight bytes, of which some may lie past the end.
pub returns : goal.returns
returns c =
    let a = c.args in
    c.from_be_bytes.ensures
    ∙ rw (c.byte.ensures, c.byte-2.ensures, c.byte-3.ensures, c.byte-4.ensures, c.byte-5.ensures, c.byte-6.ensures, c.byte-7.ensures, c.byte-8.ensures)
    (eight_bytes a.bytes.now (λ i. (c.type_inv.bytes i).fits) (4 * a.j) (32 * a.j) (omega arith))
    ∙ part_padded 64 (32 * a.j) (spread 8 a.bytes.now)
