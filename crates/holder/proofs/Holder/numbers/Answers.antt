use mathlib.Core.Path.{◌≡◌, ◌∙◌}
use Rattle.records.specs.Answer.{from}
use Rattle.holder.specs.Holder.{numbers_of}
use Rattle.holder.proofs.Holder.numbers.Goals as goal

pub returns : goal.returns
returns c =
    let vals = numbers_of c.args.self in
    let name : c.copy_from_slice.new.self ≡ from 0 36 vals = c.copy_from_slice.ensures.after ∙ c.name_numbers.ensures in
    let birth : c.copy_from_slice-2.new.self ≡ from 36 42 vals = c.copy_from_slice-2.ensures.after ∙ c.birth_numbers.ensures in
    let other : c.copy_from_slice-3.new.self ≡ from 78 33 vals = c.copy_from_slice-3.ensures.after ∙ c.other_numbers.ensures in
    rw (name, birth, other)
