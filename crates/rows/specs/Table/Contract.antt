-- Contract, of type 42h or 50h. Document 01, "Layouts" and "Numbers with a range"; 004 section 6.6. Each number of a
-- group is a field of its own.
use Rattle.std.specs.Prelude.{ℕ, List, [], ◌∷◌, ◌++◌}
use Rattle.rows.specs.Row.{Row, Cond, always, bit, box, minute}

-- The head, common to both types.
unfoldable pub head : List Row
head =
    -- slot 0: bitmap; [6] says that the data follow
    box 7 always
    -- 1: provider
    ∷ box 8 (bit 0 0)
    -- 2: tariff
    ∷ box 16 (bit 0 1)
    -- 3: serial
    ∷ box 32 (bit 0 2)
    -- 4: class
    ∷ box 8 (bit 0 3)
    -- 5: validity, a bitmap
    ∷ box 2 (bit 0 4)
    -- 6: start date
    ∷ box 14 (bit 5 0)
    -- 7: end date
    ∷ box 14 (bit 5 1)
    -- 8: status
    ∷ box 8 (bit 0 5)
    ∷ []

-- The data are there where bit [6] of the head's bitmap says so.
abbrev follows : Cond
follows = bit 0 6

unfoldable pub data42 : List Row
data42 =
    -- 9: pay method
    box 11 follows
    -- 10: price
    ∷ box 16 follows
    -- 11: sale date
    ∷ box 14 follows
    -- 12: sale minute
    ∷ minute follows
    -- 13: agent
    ∷ box 8 follows
    -- 14: device
    ∷ box 16 follows
    -- 15: receipt
    ∷ box 1 follows
    -- 16: passengers
    ∷ box 8 follows
    -- 17: inhibition end
    ∷ box 14 follows
    ∷ []

abbrev group : ℕ → Cond
group e = bit 13 e

unfoldable pub data50 : List Row
data50 =
    -- 9: end date
    box 14 follows
    -- 10: grey list
    ∷ box 14 follows
    -- 11: chrono
    ∷ box 16 follows
    -- 12: flag
    ∷ box 2 follows
    -- 13: bitmap of groups
    ∷ box 16 follows
    -- 14: [0] agent
    ∷ box 8 (group 0)
    -- 15: [1] origin
    ∷ box 14 (group 1)
    -- 16: [1] destination
    ∷ box 14 (group 1)
    -- 17: [1] via
    ∷ box 14 (group 1)
    -- 18: [2] token 1
    ∷ box 16 (group 2)
    -- 19: [2] token 2
    ∷ box 16 (group 2)
    -- 20: [2] autoload start
    ∷ box 14 (group 2)
    -- 21: [2] autoload end
    ∷ box 14 (group 2)
    -- 22: [3] balance
    ∷ box 8 (group 3)
    -- 23: [3] last debit
    ∷ box 5 (group 3)
    -- 24: [4] purse
    ∷ box 19 (group 4)
    -- 25: [4] debit
    ∷ box 16 (group 4)
    -- 26: [5] passengers
    ∷ box 6 (group 5)
    -- 27: [6] period end
    ∷ box 14 (group 6)
    -- 28: [6] period balance
    ∷ box 6 (group 6)
    -- 29: [7] zone 1
    ∷ box 6 (group 7)
    -- 30: [7] zone 2
    ∷ box 6 (group 7)
    -- 31: [7] zone 3
    ∷ box 6 (group 7)
    -- 32: [8] sections
    ∷ box 6 (group 8)
    -- 33: [8] sections left
    ∷ box 6 (group 8)
    -- 34: [9] stop 1
    ∷ box 14 (group 9)
    -- 35: [9] stop 2
    ∷ box 14 (group 9)
    -- 36: [9] stop 3
    ∷ box 14 (group 9)
    -- 37: [9] stop 4
    ∷ box 14 (group 9)
    -- 38: [10] line 1
    ∷ box 14 (group 10)
    -- 39: [10] line 2
    ∷ box 14 (group 10)
    -- 40: [11] weekly limits
    ∷ box 14 (group 11)
    -- 41: [12] start date
    ∷ box 14 (group 12)
    -- 42: [13] end minute
    ∷ minute (group 13)
    -- 43: [14] token
    ∷ box 4 (group 14)
    -- 44: [15] intermodal
    ∷ box 4 (group 15)
    ∷ []

unfoldable pub contract42 : List Row
contract42 = head ++ data42

unfoldable pub contract50 : List Row
contract50 = head ++ data50
