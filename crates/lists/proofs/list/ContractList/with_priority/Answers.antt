use Rattle.lists.proofs.Entries.{no_position, past_position, stored}
use Rattle.lists.proofs.Listing.{length_of_map}
use lib.ListN.{length}
use mathlib.Core.Path.{◌≡◌}
use borrow.Author.Rules.{rules}
use Rattle.lists.proofs.list.ContractList.with_priority.Goals as goal

pub returns-then-k-lt1 : goal.returns-then-k-lt1
returns-then-k-lt1 c = no_position _ _ _ _ c.if-k-lt1.true

pub returns-then-len-k : goal.returns-then-len-k
returns-then-len-k c = past_position _ _ _ _ c.if-k-lt1.false (rw c.len.ensures at c.if-len-k.true)

pub returns : goal.returns
returns c =
    let list = c.args.self in
    let eight : length list.entries ≡ 8 = search (rules, length_of_map) in
    stored _ _ _ list _ eight c.if-k-lt1.false (rw c.len.ensures at c.if-len-k.false) c.recoded-self.ensures
