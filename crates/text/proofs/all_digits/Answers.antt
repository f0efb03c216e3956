use borrow.Author.Rules.{rules}
use borrow.Author.Tests.{tests}
use lib.Dec.{ltb}
use mathlib.Core.Path.{◌∙◌}
use Rattle.std.proofs.lemmas.Iterator.{YieldsList-from_slice}
use Rattle.std.proofs.lemmas.Iterator.Search.{all_from_yields_List}
use Rattle.text.specs.Hex.{worth}
use Rattle.text.proofs.Digits.{each_digit}
use Rattle.text.proofs.all_digits.Goals as goal

pub returns : goal.returns
returns c =
    let text = c.args.text.now in
    all_from_yields_List (λ b. ltb (worth b) 16) _ _ _ c.all.ensures.ran (YieldsList-from_slice text cc) (λ x b q k. search (rules, tests)) ∙ each_digit text
