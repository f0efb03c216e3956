-- The second reader's run over a table of rows is the meaning of reading it, once for all tables.
use Rattle.std.proofs.Common.{◌≡◌, ℕ, suc, ◌+◌, ◌-◌, ◌%◌, ◌^◌, ◌<◌, ◌≤◌, Bool, true, false, ◌&&◌, ◌||◌, eqb, ltb, List, [], ◌∷◌, ◌++◌, map, length, take, drop, replicate, sym, refl, ap, ◌∙◌, true≢false, append_assoc, mod-eq_of_lt, arith, length-append, length-drop, take-append-drop, length-take-le, drop-drop, take_at, take-add, drop_at, ltb-false, ltb-true, le-ltb, lt-ltb}
use lib.ListN.{length-map}
use lib.Seq.{drop-append_seam, take-nil, drop-nil}
use Rattle.rows.specs.Row.{Row, Cond, always, bit, above, pick, told, holds, broken}
use Rattle.rows.specs.declared.Rule.{Rule}
use Rattle.rows.specs.declared.Rule.TheVariants.{Any, Most, Tariff, NoSecond}
use Rattle.rows.specs.Walk.{Outcome, done, refused, total, boxes_of, exceeds, numbers, walk, boxes_at, slots}
use Rattle.rows.proofs.Boxes.{length-numbers, numbers_fit}
use Rattle.rows.proofs.Margins.{both}
use Rattle.rows.proofs.Stepping.{total_none, broken_none}
use Rattle.rows.proofs.Taking.{numbers_none}
use Rattle.rows.proofs.Walked.{walk_row}
use Rattle.lab.specs.Machine.{stopped, passed, entered, arrived, closed, counted, stepped, begun, run}
use Rattle.lab.specs.Machine.{Reader}
use Rattle.lab.specs.Inner.Reading.{narrow, sized, all_sized}
use Rattle.lab.proofs.Filling.{padded, padded_zeros, get_or_padded, filled_more}

-- What a state at the end tells, of a table with n slots.
abbrev pub outcome : ℕ → Reader → Outcome (List ℕ)
outcome n s = pick (eqb s.why 0) (done (take n s.numbers) s.start) (refused s.why s.start s.row)

-- Rules and conditions see nothing of the zeros behind the numbers.
broken_padded : (rule : Rule) (vs : List ℕ) (k : ℕ) → broken rule (vs ++ replicate k 0) ≡ broken rule vs
broken_padded Any vs k = refl
broken_padded (Most m) vs k = rw get_or_padded
broken_padded Tariff vs k = rw get_or_padded
broken_padded NoSecond vs k = rw get_or_padded

told_padded : (c : Cond) (seen : List ℕ) (k : ℕ) → told c (seen ++ replicate k 0) ≡ told c seen
told_padded always seen k = refl
told_padded (bit slot e) seen k = rw get_or_padded
told_padded (above slot j) seen k = rw get_or_padded

module _ (rows : List Row) where
  -- After a refusal nothing moves.
  stuck : (s : Reader) (bs : List Bool) → eqb s.why 0 ≡ false → run rows s bs ≡ s
  unfolding stepped
  stuck s [] e = refl
  stuck s (b ∷ bs) e = rw still (stuck s bs e)
    where
      still : stepped rows s b ≡ s
      still = rw e

  -- Behind the last row bits tell nothing.
  in_margin : (n : ℕ) (s : Reader) (bs : List Bool) → drop s.row rows ≡ [] → outcome n (run rows s bs) ≡ outcome n s
  unfolding stepped
  in_margin n s [] e = refl
  in_margin n s (b ∷ bs) e =
      ap (λ (t : Reader). outcome n (run rows t bs)) turn
      ∙ go (eqb s.why 0 && ltb s.at s.room) (in_margin n (counted s) bs e) (in_margin n s bs e)
    where
      turn : stepped rows s b ≡ pick (eqb s.why 0 && ltb s.at s.room) (counted s) s
      turn = rw e

      go : (t : Bool) → outcome n (run rows (counted s) bs) ≡ outcome n s → outcome n (run rows s bs) ≡ outcome n s
          → outcome n (run rows (pick t (counted s) s) bs) ≡ outcome n s
      go true p q = p
      go false p q = q

module _ (room most : ℕ) where
  -- At the beginning of row i, after the numbers seen, from a bit on.
  abbrev at_row : ℕ → List ℕ → ℕ → Reader
  at_row i seen at =
      record { room = room; most = most; at = at; why = 0; row = i; start = at; first = length seen; numbers = padded seen }

  -- In its field, after some bits of it.
  abbrev amid : ℕ → List ℕ → ℕ → List ℕ → List Bool → Reader
  amid i seen at ws bs =
      record {
        room = room;
        most = most;
        at = at + length bs;
        why = 0;
        row = i;
        start = at;
        first = length seen;
        numbers = padded (seen ++ numbers ws bs);
      }

  module _ (rows : List Row) (i : ℕ) (r : Row) (rs : List Row) (seen : List ℕ) (at : ℕ)
      (here : drop i rows ≡ r ∷ rs) (thin : narrow r.boxes ≡ true) (ends : at + total r.boxes ≤ room) where
    -- One bit of a field.
    one_bit : (bs : List Bool) (b : Bool) → length bs < total r.boxes
        → stepped rows (amid i seen at r.boxes bs) b ≡ closed r rs (amid i seen at r.boxes (bs ++ (b ∷ [])))
    unfolding stepped
    one_bit bs b h =
        let ws : List ℕ = r.boxes in
        let p : at + length bs - at ≡ length bs = omega arith in
        let next : at + length bs + 1 ≡ at + length (bs ++ (b ∷ [])) = rw length-append (omega arith) in
        let left : at + length bs < room = omega arith in
        let more : ltb (at + length bs) room ≡ true = lt-ltb _ _ left in
        rw (more, here, p, lt-ltb _ _ h, filled_more seen ws bs b thin h, next)

    -- All of them.
    all_bits : (bs cs rest : List Bool) → 0 < length cs → length bs + length cs ≡ total r.boxes
        → run rows (amid i seen at r.boxes bs) (cs ++ rest) ≡ run rows (closed r rs (amid i seen at r.boxes (bs ++ cs))) rest
    all_bits bs [] rest some e = absurd (omega arith)
    all_bits bs (c ∷ []) rest some e = ap (λ (t : Reader). run rows t rest) (one_bit bs c (omega arith))
    all_bits bs (c ∷ d ∷ cs) rest some e =
        let inside : length bs < total r.boxes = omega arith in
        let now : length (bs ++ (c ∷ [])) ≡ length bs + 1 = length-append bs (c ∷ []) in
        let before : length (bs ++ (c ∷ [])) < total r.boxes = omega arith in
        let later : length (bs ++ (c ∷ [])) + length (d ∷ cs) ≡ total r.boxes = omega arith in
        ap (λ (t : Reader). run rows t (d ∷ cs ++ rest)) (one_bit bs c inside ∙ unclosed (bs ++ (c ∷ [])) before)
        ∙ all_bits (bs ++ (c ∷ [])) (d ∷ cs) rest (omega arith) later
        ∙ ap (λ (l : List Bool). run rows (closed r rs (amid i seen at r.boxes l)) rest) (append_assoc bs (c ∷ []) (d ∷ cs))
      where
        -- Before the last the field is not closed.
        unclosed : (bs : List Bool) → length bs < total r.boxes → closed r rs (amid i seen at r.boxes bs) ≡ amid i seen at r.boxes bs
        unclosed bs h =
            let p : at + length bs - at ≡ length bs = omega arith in
            rw (p, lt-ltb _ _ h)

    -- Behind the last its rule decides, by its numbers alone.
    closing : (bs : List Bool) → length bs ≡ total r.boxes → length seen + length r.boxes ≤ 111
        → closed r rs (amid i seen at r.boxes bs)
        ≡ pick (eqb (broken r.rule (numbers r.boxes bs)) 0)
        (arrived rs (at_row (suc i) (seen ++ numbers r.boxes bs) (at + total r.boxes)))
        (stopped (broken r.rule (numbers r.boxes bs)) (amid i seen at r.boxes bs))
    closing bs e few =
        let ws : List ℕ = r.boxes in
        let p : at + length bs - at ≡ total ws = omega arith in
        let last : at + length bs ≡ at + total ws = omega arith in
        let row : i + 1 ≡ suc i = omega arith in
        let low : length seen + length ws < 2 ^ 32 = omega arith in
        let next : (length seen + length ws) % 2 ^ 32 ≡ length (seen ++ numbers ws bs) = rw (length-append, length-numbers) (mod-eq_of_lt low) in
        let ruled : broken r.rule (drop (length seen) (padded (seen ++ numbers ws bs))) ≡ broken r.rule (numbers ws bs) =
        rw (append_assoc, drop-append_seam) (broken_padded r.rule (numbers ws bs) (111 - length (seen ++ numbers ws bs))) in
        rw (p, le-ltb (total ws) (total ws) (omega arith), ruled, last, row, next)

-- The numbers of boxes are in their bits.
numbers_front : (ws : List ℕ) (bs : List Bool) → total ws ≤ length bs → numbers ws (take (total ws) bs) ≡ numbers ws bs
numbers_front [] bs h = refl
numbers_front (w ∷ ws) bs h =
    let long : length (take w bs) ≡ w = length-take-le w bs (omega arith) in
    let fits : total ws ≤ length (drop w bs) = rw length-drop (omega arith) in
    rw (
      take-add w (total ws) bs,
      take_at (take w bs) (take (total ws) (drop w bs)) w long,
      drop_at (take w bs) (take (total ws) (drop w bs)) w long,
      numbers_front ws (drop w bs) fits,
    )

-- An absent field's numbers are zeros.
zero_boxes : (ws : List ℕ) → map {B = ℕ} (λ (w : ℕ). 0) ws ≡ replicate (length ws) 0
zero_boxes [] = refl
zero_boxes (w ∷ ws) = ap (λ (l : List ℕ). 0 ∷ l) (zero_boxes ws)

no_bits : (ws : List ℕ) → numbers ws [] ≡ replicate (length ws) 0
no_bits [] = refl
no_bits (w ∷ ws) = rw (take-nil w, drop-nil w, no_bits ws)

thin : (a b : Bool) → (a || b) ≡ true → b ≡ false → a ≡ true
thin true b e f = refl
thin false b e f = absurd (true≢false (sym e ∙ f))

module _ (most : ℕ) (rows : List Row) (bs : List Bool) (n : ℕ) (few : n ≤ 111) where
  -- What is said of the rows from row i on.
  abbrev Follows : List Row → ℕ → List ℕ → ℕ → Type 0
  Follows rs i seen at =
      outcome n (run rows (arrived rs (at_row (length bs) most i seen at)) (drop at bs)) ≡ walk (length bs) (boxes_at bs) rs i seen at

  module _ (r : Row) (rs : List Row) (i : ℕ) (seen : List ℕ) (at : ℕ) (here : drop i rows ≡ r ∷ rs)
      (inside : at ≤ length bs) (count : length seen + slots (r ∷ rs) ≡ n) (fits : sized (length bs) r ≡ true)
      (later : (seen : List ℕ) (at : ℕ) → at ≤ length bs → length seen + slots rs ≡ n → Follows rs (suc i) seen at) where
    -- An absent field: its zeros are passed over.
    over : holds (told r.cond seen) ≡ false
        → outcome n (run rows (arrived rs (passed r (at_row (length bs) most i seen at))) (drop at bs)) ≡ walk (length bs) (boxes_at bs) (r ∷ rs) i seen at
    over absent =
        let ws : List ℕ = r.boxes in
        let zs : List ℕ = map (λ (w : ℕ). 0) ws in
        let gives : numbers (boxes_of r seen) (drop at bs) ≡ zs = rw absent (numbers_none ws (drop at bs)) in
        let row : i + 1 ≡ suc i = omega arith in
        let low : length seen + length ws < 2 ^ 32 = omega arith in
        let long : length (seen ++ zs) ≡ length seen + length ws = rw (length-append, length-map) in
        let next : (length seen + length ws) % 2 ^ 32 ≡ length (seen ++ zs) = mod-eq_of_lt low ∙ sym long in
        let pads : padded seen ≡ padded (seen ++ zs) = rw (zero_boxes ws) (sym (padded_zeros seen (length ws) (omega arith))) in
        let rest : length (seen ++ zs) + slots rs ≡ n = omega arith in
        let same : passed r (at_row (length bs) most i seen at) ≡ at_row (length bs) most (suc i) (seen ++ zs) at = rw (row, next, pads) in
        let still : at + 0 ≡ at = omega arith in
        let narrow : exceeds zs zs ≡ false = rw numbers_none at (numbers_fit zs (drop at bs)) in
        ap (λ (s : Reader). outcome n (run rows (arrived rs s) (drop at bs))) same
        ∙ later (seen ++ zs) at inside rest
        ∙ sym (walk_row (length bs) (boxes_at bs) r rs i seen at zs gives
        ∙ rw (absent, narrow, total_none, still, le-ltb (length bs) at inside, broken_none))

    -- A field that is there.
    into : holds (told r.cond seen) ≡ true
        → outcome n (run rows (entered r (at_row (length bs) most i seen at)) (drop at bs)) ≡ walk (length bs) (boxes_at bs) (r ∷ rs) i seen at
    into present = go (ltb (length bs) (at + total ws)) refl
      where
        ws : List ℕ
        ws = r.boxes

        vs : List ℕ
        vs = numbers ws (drop at bs)

        s : Reader
        s = at_row (length bs) most i seen at

        xs : List Bool
        xs = take (total ws) (drop at bs)

        -- Before its first bit.
        opens : length seen + length ws ≤ 111 → s ≡ amid (length bs) most i seen at ws []
        opens few =
            let still : at + 0 ≡ at = omega arith in
            let pads : padded (seen ++ numbers ws []) ≡ padded seen = rw no_bits (padded_zeros seen (length ws) few) in
            rw (still, pads)

        -- Behind its last, with its numbers.
        after : List ℕ → Outcome (List ℕ)
        after us =
            outcome n
            (run rows
            (pick (eqb (broken r.rule us) 0) (arrived rs (at_row (length bs) most (suc i) (seen ++ us) (at + total ws)))
            (stopped (broken r.rule us) (amid (length bs) most i seen at ws xs)))
            (drop (at + total ws) bs))

        -- The rest of the walk behind its numbers, or its fault.
        meaning : Bool → Outcome (List ℕ)
        meaning past =
            let why : ℕ = pick past 2 (broken r.rule vs) in
            pick (eqb why 0) (walk (length bs) (boxes_at bs) rs (suc i) (seen ++ vs) (at + total ws)) (refused why at i)

        means : walk (length bs) (boxes_at bs) (r ∷ rs) i seen at ≡ meaning (ltb (length bs) (at + total ws))
        means =
            let gives : numbers (boxes_of r seen) (drop at bs) ≡ vs = rw present in
            walk_row (length bs) (boxes_at bs) r rs i seen at vs gives ∙ rw (present, numbers_fit)

        closes : (t : Bool) → eqb (broken r.rule vs) 0 ≡ t → Follows rs (suc i) (seen ++ vs) (at + total ws)
            → outcome n
            (run rows
            (pick t (arrived rs (at_row (length bs) most (suc i) (seen ++ vs) (at + total ws)))
            (stopped (broken r.rule vs) (amid (length bs) most i seen at ws xs)))
            (drop (at + total ws) bs))
            ≡ pick t (walk (length bs) (boxes_at bs) rs (suc i) (seen ++ vs) (at + total ws)) (refused (broken r.rule vs) at i)
        closes true e next = next
        closes false e next =
            let stop : Reader = stopped (broken r.rule vs) (amid (length bs) most i seen at ws xs) in
            ap (outcome n) (stuck rows stop (drop (at + total ws) bs) e) ∙ rw e

        go : (past : Bool) → ltb (length bs) (at + total ws) ≡ past
            → outcome n (run rows (pick past (stopped 2 s) s) (drop at bs)) ≡ walk (length bs) (boxes_at bs) (r ∷ rs) i seen at
        go true e = ap (outcome n) (stuck rows (stopped 2 s) (drop at bs) refl) ∙ sym (means ∙ ap meaning e)
        go false e =
            let ends : at + total ws ≤ length bs = ltb-false _ _ e in
            let long : length xs ≡ total ws = length-take-le (total ws) (drop at bs) (rw length-drop (omega arith)) in
            let some : 0 < length xs = omega (arith, ltb-true 0 (total ws) (both (ltb 0 (total ws)) (narrow ws || ltb (length bs) (total ws)) fits).0) in
            let short : ltb (length bs) (total ws) ≡ false = le-ltb (length bs) (total ws) (omega arith) in
            let thinly : narrow ws ≡ true = thin (narrow ws) (ltb (length bs) (total ws)) (both (ltb 0 (total ws)) (narrow ws || ltb (length bs) (total ws)) fits).1 short in
            let room : length seen + length ws ≤ 111 = omega arith in
            let same : numbers ws xs ≡ vs = numbers_front ws (drop at bs) (rw length-drop (omega arith)) in
            let parts : drop at bs ≡ xs ++ drop (at + total ws) bs = sym (take-append-drop (total ws) (drop at bs)) ∙ rw drop-drop in
            ap (λ (t : Reader). outcome n (run rows t (drop at bs))) (opens room)
            ∙ ap (λ (l : List Bool). outcome n (run rows (amid (length bs) most i seen at ws []) l)) parts
            ∙ ap (outcome n) (all_bits (length bs) most rows i r rs seen at here thinly ends [] xs (drop (at + total ws) bs) some (omega arith))
            ∙ ap (λ (t : Reader). outcome n (run rows t (drop (at + total ws) bs))) (closing (length bs) most rows i r rs seen at here thinly ends xs long room)
            ∙ ap after same
            ∙ closes (eqb (broken r.rule vs) 0) refl (later (seen ++ vs) (at + total ws) ends (rw (length-append, length-numbers) (omega arith)))
            ∙ sym (means ∙ ap meaning e)

  -- The rows from row i on.
  follow : (rs : List Row) (i : ℕ) (seen : List ℕ) (at : ℕ) → drop i rows ≡ rs → at ≤ length bs → length seen + slots rs ≡ n
      → all_sized (length bs) rs ≡ true → Follows rs i seen at
  follow [] i seen at here inside count fits =
      let long : length seen ≡ n = omega arith in
      in_margin rows n (at_row (length bs) most i seen at) (drop at bs) here ∙ rw (take_at seen (replicate (111 - length seen) 0) n long)
  follow (r ∷ rs) i seen at here inside count fits =
      let (this, others) = both (sized (length bs) r) (all_sized (length bs) rs) fits in
      let row : i + 1 ≡ suc i = omega arith in
      let next : drop (suc i) rows ≡ rs = rw row at (sym (drop-drop 1 i rows) ∙ ap (λ (l : List Row). drop 1 l) here) in
      rw (told_padded r.cond seen (111 - length seen))
      (go (holds (told r.cond seen)) refl (over r rs i seen at here inside count this (λ seen at h k. follow rs (suc i) seen at next h k others)) (into r rs i seen at here inside count this (λ seen at h k. follow rs (suc i) seen at next h k others)))
    where
      go : (t : Bool) → holds (told r.cond seen) ≡ t
          → (holds (told r.cond seen) ≡ false → outcome n (run rows (arrived rs (passed r (at_row (length bs) most i seen at))) (drop at bs)) ≡ walk (length bs) (boxes_at bs) (r ∷ rs) i seen at)
          → (holds (told r.cond seen) ≡ true → outcome n (run rows (entered r (at_row (length bs) most i seen at)) (drop at bs)) ≡ walk (length bs) (boxes_at bs) (r ∷ rs) i seen at)
          → outcome n (run rows (pick t (entered r (at_row (length bs) most i seen at)) (arrived rs (passed r (at_row (length bs) most i seen at)))) (drop at bs))
          ≡ walk (length bs) (boxes_at bs) (r ∷ rs) i seen at
      go true e p q = q e
      go false e p q = p e

  -- The run over a table's bits is its walk.
  pub followed : slots rows ≡ n → all_sized (length bs) rows ≡ true
      → outcome n (run rows (begun rows most (length bs)) bs) ≡ walk (length bs) (boxes_at bs) rows 0 [] 0
  unfolding begun
  followed count fits = follow rows 0 [] 0 refl (omega arith) (omega arith) fits
