use mathlib.Core.Path.{◌≡◌, sym, ◌∙◌}
use Rattle.records.specs.Answer.{from}
use Rattle.records.proofs.Inverse.{from_all}
use borrow.Author.Rules.{rules}
use Rattle.holder.proofs.Holder.birth_numbers.Goals as goal

pub returns : goal.returns
returns c =
    let h = c.args.self in
    let birth_place : c.copy_from_slice.new.self ≡ from 0 23 h.birth_place = c.copy_from_slice.ensures.after ∙ sym (from_all 23 h.birth_place (search rules)) in
    let birth_name : c.copy_from_slice-2.new.self ≡ from 0 17 h.birth_name = c.copy_from_slice-2.ensures.after ∙ sym (from_all 17 h.birth_name (search rules)) in
    rw (birth_place, birth_name)
