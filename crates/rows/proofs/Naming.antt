-- A refusal in a walk names the row at fault: the rows before it come to their end at the refusal's place, and the row of that
-- rank is refused there. Document 02, Q-2.
use Rattle.std.proofs.Common.{◌≡◌, ℕ, suc, ◌+◌, ◌-◌, Bool, true, false, eqb, ◌⊎◌, List, [], ◌∷◌, ◌++◌, length, take, drop, refl, ◌∙◌, inl, inr, arith}
use Rattle.bits.specs.Bits.{cleared, leading}
use Rattle.rows.specs.Row.{Row, pick, broken}
use Rattle.rows.specs.Walk.{Outcome, done, refused, and_then, total, boxes_of, exceeds, fault, Source, field, walk, boxes_at, slots_of, Content, holding, blank, read, read_bare, frame, laid_on, stray, write}

-- Of rows that begin with rank j, after the numbers seen and at bit start.
pub record Names (room : ℕ) (from : Source) (rows : List Row) (j : ℕ) (seen : List ℕ) (start n at i : ℕ) : Type 0 where
  pub before : ℕ
  pub rank : i ≡ j + before
  pub row : Row
  pub behind : List Row
  pub own : drop before rows ≡ row ∷ behind
  pub numbers : List ℕ
  pub passed : walk room from (take before rows) j seen start ≡ done numbers at
  pub fails : field room from row i numbers at ≡ refused n at i

module _ (room : ℕ) (from : Source) where
  -- A field is refused where it begins, by its own rank.
  refused_there : (r : Row) (j : ℕ) (seen : List ℕ) (start n at i : ℕ) → field room from r j seen start ≡ refused n at i → (at ≡ start) × (i ≡ j)
  unfolding field
  refused_there r j seen start n at i = go _ _ (eqb m 0)
    where
      m : ℕ
      m = fault (exceeds (boxes_of r seen) (from start (length seen) (boxes_of r seen))) (start + total (boxes_of r seen)) room (broken r.rule (from start (length seen) (boxes_of r seen)))

      go : (vs : List ℕ) (end : ℕ) (b : Bool) → pick b (done vs end) (refused m start j) ≡ refused n at i → (at ≡ start) × (i ≡ j)
      go vs end true h = let z : ◌≡◌ {A = ℕ} 0 1 = cc in absurd (omega arith)
      go vs end false h = (cc, cc)

  walk_names : (rows : List Row) (j : ℕ) (seen : List ℕ) (start n at i : ℕ) → walk room from rows j seen start ≡ refused n at i
      → Names room from rows j seen start n at i
  walk_names [] j seen start n at i h = let z : ◌≡◌ {A = ℕ} 0 1 = cc in absurd (omega arith)
  walk_names (r ∷ rs) j seen start n at i h = go (field room from r j seen start) refl h (λ vs end. walk_names rs (suc j) (seen ++ vs) end n at i)
    where
      go : (o : Outcome (List ℕ)) → field room from r j seen start ≡ o
          → and_then o (λ vs end. walk room from rs (suc j) (seen ++ vs) end) ≡ refused n at i
          → ((vs : List ℕ) (end : ℕ) → walk room from rs (suc j) (seen ++ vs) end ≡ refused n at i → Names room from rs (suc j) (seen ++ vs) end n at i)
          → Names room from (r ∷ rs) j seen start n at i
      go (done vs end) e h rest =
          let named = rest vs end h in
          record {
            before = suc named.before;
            rank = named.rank ∙ omega arith;
            row = named.row;
            behind = named.behind;
            own = named.own;
            numbers = named.numbers;
            passed = rw e named.passed;
            fails = named.fails;
          }
      go (refused m p k) e h rest =
          let (here, first) = refused_there r j seen start n at i (e ∙ h) in
          record {
            before = 0;
            rank = first ∙ omega arith;
            row = r;
            behind = rs;
            own = refl;
            numbers = seen;
            passed = rw here;
            fails = rw (first, here) (e ∙ h ∙ rw (first, here));
          }

-- A walk that is refused, with what follows it where it is not.
then_names : {A : Type 0} (rows : List Row) (room : ℕ) (from : Source) (next : List ℕ → ℕ → Outcome A) (n at i : ℕ)
    → and_then (walk room from rows 0 [] 0) next ≡ refused n at i
    → ((vals : List ℕ) × (end : ℕ) × (walk room from rows 0 [] 0 ≡ done vals end) × (next vals end ≡ refused n at i))
    ⊎ Names room from rows 0 [] 0 n at i
then_names rows room from next n at i = go (walk room from rows 0 [] 0) refl
  where
    go : (o : Outcome (List ℕ)) → walk room from rows 0 [] 0 ≡ o → and_then o next ≡ refused n at i
        → ((vals : List ℕ) × (end : ℕ) × (walk room from rows 0 [] 0 ≡ done vals end) × (next vals end ≡ refused n at i))
        ⊎ Names room from rows 0 [] 0 n at i
    go (done vals end) e h = inl (vals, end, e, h)
    go (refused m p k) e h = inr (walk_names room from rows 0 [] 0 n at i (e ∙ cc))

-- Bits that must be zero are refused at their first one.
blank_names : {A : Type 0} (k : ℕ) (bs : List Bool) (a : A) (end n at i : ℕ) → blank k bs a end ≡ refused n at i
    → (n ≡ k) × (at ≡ leading bs) × (i ≡ 0)
unfolding blank
blank_names k bs a end n at i = go (eqb (leading bs) (length bs))
  where
    go : (t : Bool) → pick t (done a end) (refused k (leading bs) 0) ≡ refused n at i → (n ≡ k) × (at ≡ leading bs) × (i ≡ 0)
    go true h = let z : ◌≡◌ {A = ℕ} 0 1 = cc in absurd (omega arith)
    go false h = (cc, cc, cc)

-- A refusal behind the last field: the first one of some bits, and no field.
pub record Behind (room : ℕ) (from : Source) (rows : List Row) (k : ℕ) (bits : ℕ → List Bool) (n at i : ℕ) : Type 0 where
  pub end : ℕ
  pub vals : List ℕ
  pub passed : walk room from rows 0 [] 0 ≡ done vals end
  pub number : n ≡ k
  pub place : at ≡ leading (bits end)
  pub field : i ≡ 0

-- A reading that is refused names the row at fault,
pub read_names : (rows : List Row) (bs : List Bool) (n at i : ℕ) → read rows bs ≡ refused n at i → Names (length bs) (boxes_at bs) rows 0 [] 0 n at i
unfolding read
read_names rows bs n at i h = go (then_names rows (length bs) (boxes_at bs) _ n at i h)
  where
    go : ((vals : List ℕ) × (end : ℕ) × (walk (length bs) (boxes_at bs) rows 0 [] 0 ≡ done vals end)
        × (done (holding bs vals end) end ≡ refused n at i))
        ⊎ Names (length bs) (boxes_at bs) rows 0 [] 0 n at i
        → Names (length bs) (boxes_at bs) rows 0 [] 0 n at i
    go (inl (vals, end, passed, h)) = let z : ◌≡◌ {A = ℕ} 0 1 = cc in absurd (omega arith)
    go (inr names) = names

-- that of a list too, unless it is 5 at the first one behind the last field,
pub bare_names : (rows : List Row) (bs : List Bool) (n at i : ℕ) → read_bare rows bs ≡ refused n at i
    → Behind (length bs) (boxes_at bs) rows 5 (λ end. cleared end bs) n at i ⊎ Names (length bs) (boxes_at bs) rows 0 [] 0 n at i
unfolding read_bare read
bare_names rows bs n at i = go (walk (length bs) (boxes_at bs) rows 0 [] 0) refl
  where
    go : (o : Outcome (List ℕ)) → walk (length bs) (boxes_at bs) rows 0 [] 0 ≡ o
        → and_then (and_then o (λ vals end. done (holding bs vals end) end)) (λ c end. blank 5 c.margin c.numbers end)
        ≡ refused n at i
        → Behind (length bs) (boxes_at bs) rows 5 (λ end. cleared end bs) n at i ⊎ Names (length bs) (boxes_at bs) rows 0 [] 0 n at i
    go (done vals end) e h =
        let (number, place, field) = blank_names 5 (cleared end bs) vals end n at i h in
        inl (record { end = end; vals = vals; passed = e; number = number; place = place; field = field })
    go (refused m p k) e h = inr (walk_names (length bs) (boxes_at bs) rows 0 [] 0 n at i (e ∙ cc))

-- and a writing, unless it is 7 at the first bit of the margin that is out of place.
pub write_names : (rows : List Row) (room : ℕ) (c : Content) (n at i : ℕ) → write rows room c ≡ refused n at i
    → Behind room (slots_of c.numbers) rows 7 (λ end. stray room end c.margin) n at i ⊎ Names room (slots_of c.numbers) rows 0 [] 0 n at i
unfolding write
write_names rows room c n at i h = go (then_names rows room (slots_of c.numbers) _ n at i h)
  where
    bits : ℕ → List Bool
    bits end = laid_on [] (frame rows c.numbers) c.numbers ++ take (room - end) (drop end c.margin)

    go : ((vals : List ℕ) × (end : ℕ) × (walk room (slots_of c.numbers) rows 0 [] 0 ≡ done vals end)
        × (blank 7 (stray room end c.margin) (bits end) end ≡ refused n at i))
        ⊎ Names room (slots_of c.numbers) rows 0 [] 0 n at i
        → Behind room (slots_of c.numbers) rows 7 (λ end. stray room end c.margin) n at i ⊎ Names room (slots_of c.numbers) rows 0 [] 0 n at i
    go (inl (vals, end, passed, h)) =
        let (number, place, field) = blank_names 7 (stray room end c.margin) (bits end) end n at i h in
        inl (record { end = end; vals = vals; passed = passed; number = number; place = place; field = field })
    go (inr names) = inr names
