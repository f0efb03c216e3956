use Rattle.std.proofs.Common.{◌≡◌, drop}
use Rattle.lists.specs.Entries.{counted}
use Rattle.loading.specs.Inner.Marks.{marked}
use Rattle.loading.specs.Place.{first_erasable}
use Rattle.loading.proofs.place.first_erasable.Given as goal

abbrev pub invariant-loop-entry : goal.invariant-loop-entry
invariant-loop-entry l =
    first_erasable (marked l.marks) l.first l.last (counted l.fn.list) ≡ first_erasable (marked l.marks) l.first l.last (drop l.entry-index l.entry-items)
