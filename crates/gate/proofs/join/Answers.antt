use mathlib.Core.Path.{◌∙◌}
use borrow.Author.Rules.{rules}
use Rattle.gate.specs.Writes.{joining}
use Rattle.gate.proofs.Bytewise.{back}
use Rattle.gate.proofs.join.Goals as goal

pub returns : goal.returns
unfolding joining
returns c =
    let after = back _ _ (c.both.auto.out ∙ c.if-write-ne-BYTES.false) (λ i. (c.type_inv.write i).fits) c.both.ensures in
    search rules
