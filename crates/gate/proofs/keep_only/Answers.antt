use mathlib.Core.Path.{sym, ◌∙◌}
use borrow.Author.Rules.{rules}
use Rattle.gate.proofs.Bytewise.{spread_only, or_above}
use Rattle.gate.proofs.keep_only.Goals as goal

pub each_byte-requires-clause-callable : goal.each_byte-requires-clause-callable
each_byte-requires-clause-callable c = search (rules, or_above)

pub returns : goal.returns
returns c =
    spread_only _ _ _ (c.requires.0 ∙ sym c.requires.1) (c.each_byte.auto.out ∙ sym c.requires.1) (λ i h. let made = c.each_byte.ensures i h in search rules)
