use mathlib.Core.Path.{sym, ◌∙◌}
use borrow.Author.Rules.{rules}
use Rattle.gate.proofs.Bytewise.{spread_or}
use Rattle.gate.proofs.both.Goals as goal

pub returns : goal.returns
returns c =
    spread_or _ _ _ (c.requires.0 ∙ sym c.requires.1) (c.each_byte.auto.out ∙ sym c.requires.1) (λ i h. let made = c.each_byte.ensures i h in search rules)
