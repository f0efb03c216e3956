use Rattle.std.proofs.Common.{sym, ◌∙◌, eqb-true}
use Rattle.rows.specs.Inner.Standing.{stand}
use Rattle.rows.specs.Margin.{words_of}
use Rattle.rows.proofs.Margins.{kept_none}
use Rattle.rows.proofs.margin.put.Goals as goal

-- With no one in the margin all stays as it is.
pub returns-then-is_none : goal.returns-then-is_none
returns-then-is_none c =
    kept_none c.args.draft.now c.args.room (stand c.args.c) (words_of c.args.margin) c.requires.1.0 c.requires.0.within c.requires.1.1.0
    (eqb-true _ _ (sym c.is_none.ensures ∙ c.if-is_none.true))

pub returns : goal.returns
returns c = rw c.words-whole.ensures at c.put_words.ensures
