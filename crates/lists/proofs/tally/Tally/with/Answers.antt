use Rattle.lists.specs.Tally.{entered}
use Rattle.lists.proofs.Tallying.{put_own}
use Rattle.lists.proofs.tally.Tally.with.Goals as goal

pub returns : goal.returns
returns c =
    let a = c.args in
    put_own a.c a.pointer (entered a.pointer a.priority) a.self c.of-positions.ensures c.with.ensures c.put.ensures
