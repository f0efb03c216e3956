-- Special event list. Document 01, "Layouts" and "Numbers with a range"; 004 section 6.4. The count is at most 4,
-- whatever the number of special event records.
use Rattle.std.specs.Prelude.{ℕ, ◌+◌, ◌*◌, List, [], ◌∷◌, ◌++◌}
use Rattle.rows.specs.Row.{Row, always, bit, above, box, box_most}

-- Entry k: its bitmap, network, provider, seriousness and pointer.
abbrev pub entry : ℕ → List Row
entry k =
    let slot : ℕ = 1 + 5 * k in
    box 4 (above 0 k)
    ∷ box 24 (bit slot 0)
    ∷ box 8 (bit slot 1)
    ∷ box 2 (bit slot 2)
    ∷ box 5 (bit slot 3)
    ∷ []

unfoldable pub special_list : List Row
special_list =
    -- slot 0: count; then the entries
    box_most 4 4 always ∷ (entry 0 ++ (entry 1 ++ (entry 2 ++ entry 3)))
