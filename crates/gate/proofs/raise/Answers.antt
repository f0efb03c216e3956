use mathlib.Core.Path.{◌∙◌}
use native.Mathlib.Omega.{arith}
use Rattle.gate.proofs.Bytewise.{spread_or}
use Rattle.gate.proofs.raise.Goals as goal

pub returns : goal.returns
returns c = let l = c.loop-i in spread_or _ _ _ c.requires (l.auto.«record» ∙ c.requires) (λ i h. l.invariant.0 i (omega arith))
