use Rattle.rows.specs.Inner.Line.{given, ◌◂◌}
use Rattle.rows.specs.Table.Holder.{holder}
use Rattle.holder.specs.Holder.{Spelled}
use Rattle.holder.proofs.Letters.{letters_gave}
use borrow.Author.Rules.{rules}
use Rattle.holder.proofs.put_person.Goals as goal

pub returns : goal.returns
unfolding holder
returns c =
    let spelled : Spelled c.args.h =
    record { surname = search rules; forename = search rules; birth_place = search rules; birth_name = search rules; margin = search rules } in
    record {
      puts =
          c.number-c.ensures
          ◂ c.number-c-2.ensures
          ◂ letters_gave 17 spelled.surname c.text-c.ensures
          ◂ letters_gave 17 spelled.forename c.text-c-2.ensures
          ◂ c.number-c-3.ensures
          ◂ c.number-c-4.ensures
          ◂ letters_gave 23 spelled.birth_place c.text-c-3.ensures
          ◂ letters_gave 17 spelled.birth_name c.text.ensures
          ◂ given;
      ready = c.text.ensures.ready;
    }
