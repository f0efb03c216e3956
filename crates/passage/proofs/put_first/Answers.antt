use mathlib.Core.Path.{sym}
use lib.Seq.{length-take-le}
use Rattle.passage.proofs.Moving.{first_put}
use Rattle.passage.proofs.put_first.Goals as goal

pub slice_bounds-write-end-2 : goal.slice_bounds-write-end-2
slice_bounds-write-end-2 c = sym (length-take-le 29 _ (rw c.move_down.auto.journal c.requires))

pub returns : goal.returns
returns c = first_put c.args.journal.now _ _ c.args.e _ c.requires c.move_down.ensures c.write.ensures
