use mathlib.Core.Path.{◌∙◌}
use borrow.Author.Rules.{rules}
use Rattle.gate.specs.Writes.{applying}
use Rattle.gate.proofs.Bytewise.{back}
use Rattle.gate.proofs.apply.Goals as goal

pub returns : goal.returns
unfolding applying
returns c =
    let after = back _ _ (c.raise_all.auto.«record» ∙ c.if-record-ne-BYTES.false) (λ i. (c.type_inv.«record» i).fits) c.raise_all.ensures in
    search rules
