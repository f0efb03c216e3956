use Rattle.std.proofs.Common.{sym, ◌∙◌, arith, eqb-true}
use Rattle.rows.specs.Inner.Standing.{stand}
use Rattle.rows.proofs.Margins.{kept_none}
use Rattle.rows.proofs.margin.put_area.Goals as goal

-- With no one in the margin all stays as it is.
pub returns-then-all_zero : goal.returns-then-all_zero
returns-then-all_zero c =
    kept_none c.args.draft.now c.args.room (stand c.args.c) c.args.whole.now c.requires.1.0 c.requires.0.within (omega (arith, c.requires.1.1))
    (eqb-true _ _ (sym c.all_zero.ensures ∙ c.if-all_zero.true))
