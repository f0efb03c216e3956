use Rattle.std.proofs.Common.{◌≡◌, Err, Ok, rules, eq-eqb, ne_eqb}
use Rattle.lists.specs.Listing.{at_fault}
use Rattle.records.specs.Answer.{as_answer}
use Rattle.lab.proofs.Answers.{listed_answers}
use Rattle.lab.proofs.reading.listed.Goals as goal

pub returns-in_err-numbers : goal.returns-in_err-numbers
returns-in_err-numbers g c =
    let r = c.in_err-numbers.field-0.0 in
    let is : c.from_residual.result ≡ Err r = search rules in
    rw is (listed_answers _ _ _ (Err (as_answer r)) c.requires.2 c.in_err-numbers.ensures)

pub returns-in-Some : goal.returns-in-Some
returns-in-Some g c =
    let a = c.args in
    let fault = c.in-Some.ensures.0 in
    let all = listed_answers _ _ (at_fault a.entries a.size a.full a.limit) (Ok c.in_ok-numbers.numbers) c.requires.2 c.in_ok-numbers.ensures in
    rw (c.against.ensures) (rw (fault, ne_eqb _ _ c.in-Some.ensures.1) at all)

pub returns-in-None : goal.returns-in-None
returns-in-None g c =
    let a = c.args in
    let all = listed_answers _ _ (at_fault a.entries a.size a.full a.limit) (Ok c.in_ok-numbers.numbers) c.requires.2 c.in_ok-numbers.ensures in
    rw (eq-eqb _ _ c.in-None.ensures) at all
