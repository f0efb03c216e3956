-- The BIP contract record. Source document 000, section 3.10, its table of names, lengths and offsets; section 3.2, high byte first. Every
-- field is there, and together they fill the 29 bytes.
use Rattle.std.specs.Prelude.{ℕ, ◌*◌, List, [], ◌∷◌}
use Rattle.rows.specs.Row.{Row, always, box}

-- A field of n bytes.
abbrev bytes : ℕ → Row
bytes n = box (8 * n) always

unfoldable pub bip : List Row
bip =
    -- slot 0, from byte 00h: company code
    bytes 1
    -- 1, 01h: format
    ∷ bytes 1
    -- 2, 02h: RFU
    ∷ bytes 1
    -- 3, 03h: additional tariff
    ∷ bytes 1
    -- 4, 04h: tariff
    ∷ bytes 2
    -- 5, 06h: serial
    ∷ bytes 3
    -- 6, 09h: start
    ∷ bytes 3
    -- 7, 0Ch: end
    ∷ bytes 3
    -- 8, 0Fh: weekdays
    ∷ bytes 1
    -- 9, 10h: SAM serial
    ∷ bytes 4
    -- 10, 14h: SAM counter
    ∷ bytes 3
    -- 11, 17h: extension tag
    ∷ bytes 2
    -- 12, 19h: MAC
    ∷ bytes 4
    ∷ []
