use mathlib.Core.Path.{◌≡◌, sym, ◌∙◌}
use Rattle.records.specs.Answer.{from}
use Rattle.records.proofs.Inverse.{from_all}
use borrow.Author.Rules.{rules}
use Rattle.holder.proofs.Holder.name_numbers.Goals as goal

pub returns : goal.returns
returns c =
    let h = c.args.self in
    let surname : c.copy_from_slice.new.self ≡ from 0 17 h.surname = c.copy_from_slice.ensures.after ∙ sym (from_all 17 h.surname (search rules)) in
    let forename : c.copy_from_slice-2.new.self ≡ from 0 17 h.forename = c.copy_from_slice-2.ensures.after ∙ sym (from_all 17 h.forename (search rules)) in
    rw (surname, forename)
