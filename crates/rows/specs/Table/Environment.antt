-- Environment. Document 01, "Layouts"; 004 section 6.1. EnvData2 has no stated width: marked present it is
-- refusal 3 at the EnvData bitmap, so that it needs no row.
use Rattle.std.specs.Prelude.{List, [], ◌∷◌}
use Rattle.rows.specs.Row.{Row, always, bit, box}
use Rattle.rows.specs.declared.Rule.TheVariants.{NoSecond}

unfoldable pub environment : List Row
environment =
    -- slot 0: version
    box 6 always
    -- 1: bitmap
    ∷ box 7 always
    -- 2: network
    ∷ box 24 (bit 1 0)
    -- 3: issuer
    ∷ box 8 (bit 1 1)
    -- 4: end date
    ∷ box 14 (bit 1 2)
    -- 5: pay method
    ∷ box 11 (bit 1 3)
    -- 6: authenticator
    ∷ box 16 (bit 1 4)
    -- 7: select list
    ∷ box 32 (bit 1 5)
    -- 8: EnvData, a bitmap
    ∷ record { boxes = 2 ∷ []; cond = bit 1 6; rule = NoSecond }
    -- 9: card status
    ∷ box 1 (bit 8 0)
    ∷ []
