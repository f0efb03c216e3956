-- Contract list (BestContracts). Document 01, "Layouts" and "Numbers with a range"; 004 section 6.5. The count is at
-- most n, the card's number of contract records. An entry's tariff (key, type, priority) is one field.
use Rattle.std.specs.Prelude.{ℕ, ◌+◌, ◌*◌, List, [], ◌∷◌, ◌++◌}
use Rattle.rows.specs.Row.{Row, always, bit, above, box, box_most}
use Rattle.rows.specs.declared.Rule.TheVariants.{Tariff}

-- Entry k: its bitmap, network, tariff and pointer.
abbrev pub entry : ℕ → List Row
entry k =
    let slot : ℕ = 1 + 6 * k in
    box 3 (above 0 k)
    ∷ box 24 (bit slot 0)
    ∷ record { boxes = 4 ∷ 8 ∷ 4 ∷ []; cond = bit slot 1; rule = Tariff }
    ∷ box 5 (bit slot 2)
    ∷ []

unfoldable pub contract_list : ℕ → List Row
contract_list n =
    -- slot 0: count; then the entries
    box_most n 4 always
    ∷ (entry 0 ++ (entry 1 ++ (entry 2 ++ (entry 3 ++ (entry 4 ++ (entry 5 ++ (entry 6 ++ entry 7)))))))
