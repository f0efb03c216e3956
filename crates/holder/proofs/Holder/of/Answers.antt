use mathlib.Core.Path.{◌≡◌, ◌∙◌}
use native.Mathlib.Omega.{arith}
use lib.ListN.{length}
use borrow.Author.Rules.{rules}
use Rattle.holder.proofs.Letters.{part_named, made_of}
use Rattle.holder.proofs.Holder.of.Goals as goal

pub returns : goal.returns
returns c =
    let vals = c.args.numbers in
    let inside : length vals ≡ 111 = search rules in
    made_of vals c.args.margin (search rules)
    (c.copy_from_slice.ensures.after ∙ part_named 2 17 vals (omega arith))
    (c.copy_from_slice-2.ensures.after ∙ part_named 19 17 vals (omega arith))
    (c.copy_from_slice-3.ensures.after ∙ part_named 38 23 vals (omega arith))
    (c.copy_from_slice-4.ensures.after ∙ part_named 61 17 vals (omega arith))
    c.with_texts.ensures
