use mathlib.Core.Path.{◌∙◌}
use borrow.Author.Rules.{rules}
use Rattle.gate.specs.Writes.{finding}
use Rattle.gate.proofs.Bytewise.{back}
use Rattle.gate.proofs.find.Goals as goal

pub returns : goal.returns
unfolding finding
returns c =
    let after = back _ _ (c.keep_only.auto.out ∙ c.if-write-ne-BYTES.false) (λ i. (c.type_inv.write i).fits) c.keep_only.ensures in
    search rules
