use Rattle.lists.specs.Tally.{removed}
use Rattle.lists.proofs.Tallying.{put_own}
use Rattle.lists.proofs.tally.Tally.without.Goals as goal

pub returns : goal.returns
returns c =
    let a = c.args in
    put_own a.c a.pointer (removed a.pointer a.gone) a.self c.of-positions.ensures c.without.ensures c.put.ensures
