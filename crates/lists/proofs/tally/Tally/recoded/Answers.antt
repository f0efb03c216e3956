use Rattle.lists.specs.Tally.{revalued}
use Rattle.lists.proofs.Tallying.{put_own}
use Rattle.lists.proofs.tally.Tally.recoded.Goals as goal

pub returns : goal.returns
returns c =
    let a = c.args in
    put_own a.c a.pointer (revalued a.old a.new) a.self c.of-positions.ensures c.recoded.ensures c.put.ensures
