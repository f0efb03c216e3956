use Prim.Native.Nat.{◌*◌}
use mathlib.Core.Path.{refl, ◌∙◌}
use Rattle.bits.specs.Bits.{spread}
use Rattle.bits.proofs.Fronts.{part_padded}
use Rattle.bits.proofs.Cutting.{eight_bytes}
use Rattle.bits.proofs.eight.Goals as goal

pub returns : goal.returns
returns c =
    let a = c.args in
    c.from_be_bytes.ensures
    ∙ eight_bytes a.bytes.now (λ i. (c.type_inv.bytes i).fits) a.i (8 * a.i) refl
    ∙ part_padded 64 (8 * a.i) (spread 8 a.bytes.now)
