use Rattle.std.proofs.Common.{ℕ, ◌⊎◌, inl, inr, ◌≡◌, ◌&&◌, eqb, eq-eqb, ne_eqb, arith, false, ◌∙◌, rules}
use Rattle.rows.proofs.Margins.{none_of}
use Rattle.rows.proofs.margin.Margin.is_none.Goals as goal

pub returns-then-self-eq0-3 : goal.returns-then-self-eq0-3
returns-then-self-eq0-3 c =
    let m = c.args.self in
    let h = c.if-self-eq0-3.true in
    let here : eqb m.at192 0 ≡ (((eqb m.at0 0 && eqb m.at64 0) && eqb m.at128 0) && eqb m.at192 0) =
    rw (eq-eqb _ _ h.0, eq-eqb _ _ h.1, eq-eqb _ _ h.2) in
    here ∙ none_of m.at0 m.at64 m.at128 m.at192 (omega arith) (omega arith) (omega arith) (omega arith)

-- Where one of the first three words is not 0, not all four are.
some : (a b c d : ℕ) → ((a ≡ 0) × (b ≡ 0) × (c ≡ 0 → ⊥)) ⊎ (((a ≡ 0) × (b ≡ 0 → ⊥)) ⊎ (a ≡ 0 → ⊥))
    → false ≡ (((eqb a 0 && eqb b 0) && eqb c 0) && eqb d 0)
some a b c d (inl w) = rw (eq-eqb _ _ w.0, eq-eqb _ _ w.1, ne_eqb _ _ w.2)
some a b c d (inr (inl w)) = rw (eq-eqb _ _ w.0, ne_eqb _ _ w.1)
some a b c d (inr (inr w)) = rw (ne_eqb _ _ w)

pub returns-else-self-eq0-3 : goal.returns-else-self-eq0-3
returns-else-self-eq0-3 c =
    let m = c.args.self in
    let all = some m.at0 m.at64 m.at128 m.at192 c.if-self-eq0-3.either
    ∙ none_of m.at0 m.at64 m.at128 m.at192 (omega arith) (omega arith) (omega arith) (omega arith) in
    search rules
