-- Holder, in an area of 1 to 4 records: at most 867 bits. Document 01, "Layouts" and "Numbers with a range"; 004 section 6.2.
use Rattle.std.specs.Prelude.{ℕ, ◌+◌, ◌*◌, List, [], ◌∷◌, ◌++◌}
use Rattle.rows.specs.Row.{Row, always, bit, above, box, box_most, text}

-- Residence, work and study place are at most 99999.
abbrev place : ℕ → Row
place e = box_most 99999 17 (bit 98 e)

-- Profile k: its bitmap, network, number and date.
abbrev profile : ℕ → List Row
profile k =
    let slot : ℕ = 82 + 4 * k in
    box 3 (above 81 k) ∷ box 24 (bit slot 0) ∷ box 8 (bit slot 1) ∷ box 14 (bit slot 2) ∷ []

unfoldable pub holder : List Row
holder =
    -- slot 0: bitmap
    (box 8 always
    -- 1: name, a bitmap
    ∷ box 2 (bit 0 0)
    -- 2 to 18: surname
    ∷ text 17 (bit 1 0)
    -- 19 to 35: forename
    ∷ text 17 (bit 1 1)
    -- 36: birth, a bitmap
    ∷ box 2 (bit 0 1)
    -- 37: date
    ∷ box 32 (bit 36 0)
    -- 38 to 60: place
    ∷ text 23 (bit 36 1)
    -- 61 to 77: birth name
    ∷ text 17 (bit 0 2)
    -- 78: id
    ∷ box 32 (bit 0 3)
    -- 79: country
    ∷ box 24 (bit 0 4)
    -- 80: company
    ∷ box 32 (bit 0 5)
    -- 81: profile count
    ∷ box_most 4 4 (bit 0 6)
    ∷ [])
    -- 82 to 97: the profiles
    ++ (profile 0 ++ (profile 1 ++ (profile 2 ++ (profile 3
    -- 98: data, a bitmap
    ++ (box 12 (bit 0 7)
    -- 99: card status
    ∷ box 4 (bit 98 0)
    -- 100: telepayment
    ∷ box 4 (bit 98 1)
    -- 101: residence
    ∷ place 2
    -- 102: commercial id
    ∷ box 6 (bit 98 3)
    -- 103: work place
    ∷ place 4
    -- 104: study place
    ∷ place 5
    -- 105: sale device
    ∷ box 16 (bit 98 6)
    -- 106: authenticator
    ∷ box 16 (bit 98 7)
    -- 107 to 110: four start dates
    ∷ box 14 (bit 98 8)
    ∷ box 14 (bit 98 9)
    ∷ box 14 (bit 98 10)
    ∷ box 14 (bit 98 11)
    ∷ [])))))
