-- Event, of the journal and of the special events. Document 01, "Layouts" and "Numbers with a range"; 004 section 6.3.
-- Element [17] is 240 bits wide and can never fit, so that its bit is refusal 2 both ways by itself.
use Rattle.std.specs.Prelude.{List, [], ◌∷◌}
use Rattle.rows.specs.Row.{Row, always, bit, box, box_most, minute}

unfoldable pub event : List Row
event =
    -- slot 0: date
    box 14 always
    -- 1: minute
    ∷ minute always
    -- 2: bitmap
    ∷ box 28 always
    -- 3: [0] display data
    ∷ box 8 (bit 2 0)
    -- 4: [1] network
    ∷ box 24 (bit 2 1)
    -- 5: [2] event code
    ∷ box 8 (bit 2 2)
    -- 6: [3] result
    ∷ box 8 (bit 2 3)
    -- 7: [4] provider
    ∷ box 8 (bit 2 4)
    -- 8: [5] not-ok counter
    ∷ box 8 (bit 2 5)
    -- 9: [6] serial number
    ∷ box 24 (bit 2 6)
    -- 10: [7] destination
    ∷ box 16 (bit 2 7)
    -- 11: [8] location
    ∷ box 16 (bit 2 8)
    -- 12: [9] gate
    ∷ box 8 (bit 2 9)
    -- 13: [10] device
    ∷ box 16 (bit 2 10)
    -- 14: [11] route
    ∷ box 16 (bit 2 11)
    -- 15: [12] route variant
    ∷ box 8 (bit 2 12)
    -- 16: [13] journey run
    ∷ box 16 (bit 2 13)
    -- 17: [14] vehicle
    ∷ box 16 (bit 2 14)
    -- 18: [15] vehicle class
    ∷ box 8 (bit 2 15)
    -- 19: [16] location type
    ∷ box 5 (bit 2 16)
    -- 20: [17] employee, which never fits
    ∷ box 240 (bit 2 17)
    -- 21: [18] location reference
    ∷ box 16 (bit 2 18)
    -- 22: [19] interchanges
    ∷ box 8 (bit 2 19)
    -- 23: [20] period journeys
    ∷ box 16 (bit 2 20)
    -- 24: [21] total journeys
    ∷ box 16 (bit 2 21)
    -- 25: [22] distance
    ∷ box 16 (bit 2 22)
    -- 26: [23] price
    ∷ box 16 (bit 2 23)
    -- 27: [24] price unit
    ∷ box 16 (bit 2 24)
    -- 28: [25] contract pointer: 0 none, 16 to 19 simple rights
    ∷ box_most 19 5 (bit 2 25)
    -- 29: [26] authenticator
    ∷ box 16 (bit 2 26)
    -- 30: [27] a bitmap
    ∷ box 5 (bit 2 27)
    -- 31: date of the first boarding
    ∷ box 14 (bit 30 0)
    -- 32: its minute
    ∷ minute (bit 30 1)
    -- 33: simulation
    ∷ box 1 (bit 30 2)
    -- 34: trip
    ∷ box 2 (bit 30 3)
    -- 35: direction
    ∷ box 2 (bit 30 4)
    ∷ []
