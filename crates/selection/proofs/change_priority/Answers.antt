use mathlib.Core.Path.{ap, ◌∙◌}
use borrow.Author.Tests.{eq-eqb, ne_eqb, le-ltb}
use Rattle.lists.specs.List.{list_written}
use Rattle.lists.specs.declared.list.ContractList.{ContractList}
use Rattle.selection.specs.Selection.{changing}
use Rattle.selection.proofs.change_priority.Goals as goal

pub returns : goal.returns
unfolding changing
returns c =
    rw (eq-eqb _ _ c.if-list-ne-BYTES.false, ne_eqb _ _ c.if-position-eq0.false, ne_eqb _ _ c.if-code-eq-UNDEFINED.false, le-ltb _ _ c.if-code-gt-LAST_PRIORITY.false, ← c.in_ok-old.ensures, le-ltb _ _ c.if-old-position.false)
    (c.write.ensures ∙ ap (λ (l : ContractList). list_written c.args.n c.args.c l c.args.list.now) c.with_priority.ensures)
