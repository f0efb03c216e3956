use borrow.Author.Rules.{rules}
use borrow.Author.Tests.{tests}
use lib.Dec.{eqb}
use lib.ListN.{take}
use Rattle.lists.specs.declared.special.SpecialEntry.{SpecialEntry}
use mathlib.Core.Path.{◌∙◌}
use Rattle.std.proofs.lemmas.Iterator.{YieldsList-from_slice, YieldsList-from_take}
use Rattle.std.proofs.lemmas.Iterator.Search.{any_from_yields_List}
use Rattle.loading.proofs.Counted.{any_some}
use Rattle.loading.proofs.blocking.listed.Goals as goal

pub returns : goal.returns
returns c =
    any_from_yields_List (λ e. eqb e.pointer c.args.k) _ _ _ c.any.ensures.ran (YieldsList-from_take c.args.list.count (YieldsList-from_slice c.args.list.entries cc) cc) (λ x b q k. search (rules, tests))
    ∙ any_some (λ (e : SpecialEntry). eqb e.pointer c.args.k) (take c.args.list.count c.args.list.entries)
