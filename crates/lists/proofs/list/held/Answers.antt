use mathlib.Core.Bool.{or-true}
use mathlib.Core.Path.{◌≡◌, sym, ap, ◌∙◌}
use lib.ListN.{length}
use borrow.Author.Rules.{rules}
use borrow.Author.Tests.{ne_eqb}
use Rattle.rows.specs.Inner.Standing.{Standing, stand}
use Rattle.rows.proofs.Stepping.{halted, clear}
use Rattle.lists.specs.List.{fair}
use Rattle.lists.specs.Inner.Steps.{tallied}
use Rattle.lists.proofs.Listing.{length_of_map, obeyed_none}
use Rattle.lists.proofs.Fairness.{rule_held, recount_ready, tally_held}
use Rattle.lists.proofs.Judging.{obeyed_rule}
use Rattle.lists.proofs.list.held.Goals as goal

pub returns-then-is_refused : goal.returns-then-is_refused
returns-then-is_refused c =
    let eight : length c.args.list.entries ≡ 8 = search (rules, length_of_map) in
    let own = rw (rule_held _ _ c.args.list eight _ c.recounted-recount.ensures) at (obeyed_rule _ _ c.obeyed-ruled.ensures c.fault.ensures) in
    let why = ne_eqb _ _ (halted c.is_refused.ensures c.if-is_refused.true) in
    own ∙ sym (rw (← own, why, or-true))

pub tally-fresh-requires : goal.tally-fresh-requires
tally-fresh-requires c =
    let eight : length c.args.list.entries ≡ 8 = search (rules, length_of_map) in
    (c.requires.1, recount_ready _ _ c.args.list eight _ c.recounted-recount.ensures)

pub returns : goal.returns
returns c =
    let eight : length c.args.list.entries ≡ 8 = search (rules, length_of_map) in
    let so = c.recounted-recount.ensures in
    let told = obeyed_rule _ _ c.obeyed-ruled.ensures c.fault.ensures in
    let none = obeyed_none (stand c.args.end) c.recounted-recount.result.judged.fault (sym (ap (λ (d : Standing). d.why) told) ∙ clear c.is_refused.ensures c.if-is_refused.false) in
    let own = rw (rule_held _ _ c.args.list eight _ so) at told in
    let right = c.eq.ensures ∙ tally_held _ _ c.args.list eight _ so _ none c.tally-fresh.ensures in
    c.fair.ensures ∙ (ap (tallied (stand c.obeyed-ruled.result)) right ∙ ap (λ (d : Standing). tallied d (fair c.args.c c.args.list)) own)
