-- A field of one box that is wider than all the bits: where a reading succeeds it is absent, and its number is zero.
use Rattle.std.proofs.Common.{◌≡◌, ℕ, zero, suc, ◌<◌, Bool, true, false, List, [], ◌∷◌, ◌++◌, map, length, get_or, take, drop, refl, ap, ◌∙◌, arith, get_or-append-add}
use Rattle.rows.specs.Row.{Row, Cond, pick, told, holds}
use Rattle.rows.specs.Walk.{done, total, boxes_of, numbers, Content, frame_on, frame, read, slots}
use Rattle.rows.specs.declared.Rule.{Rule}
use Rattle.rows.proofs.Boxes.{length_there, total-append}
use Rattle.rows.proofs.RoundTrip.{reading}

-- A box of no bits holds zero.
numbers_none : (ws : List ℕ) (bs : List Bool) (s : ℕ) → get_or ws s 0 ≡ 0 → get_or (numbers ws bs) s 0 ≡ 0
numbers_none [] bs s e = refl
numbers_none (w ∷ ws) bs zero e = rw e
numbers_none (w ∷ ws) bs (suc s) e = numbers_none ws (drop w bs) s e

module _ (w : ℕ) (k : Cond) (rule : Rule) (ws : List Row) where
  abbrev row : Row
  row = record { boxes = w ∷ []; cond = k; rule = rule }

  -- A frame that takes fewer bits has no box for it.
  frame_wide : (us : List Row) (seen vals : List ℕ) → total (frame_on (us ++ (row ∷ ws)) seen vals) < w
      → get_or (frame_on (us ++ (row ∷ ws)) seen vals) (slots us) 0 ≡ 0
  frame_wide [] seen vals h = go (holds (told k seen)) h
    where
      rest : List ℕ
      rest = frame_on ws (seen ++ take 1 vals) (drop 1 vals)

      go : (t : Bool) → total (pick t (w ∷ []) (map (λ (w : ℕ). 0) (w ∷ [])) ++ rest) < w
          → get_or (pick t (w ∷ []) (map (λ (w : ℕ). 0) (w ∷ [])) ++ rest) 0 0 ≡ 0
      go true h = absurd (omega arith)
      go false h = refl
  frame_wide (u ∷ us) seen vals h =
      let n : ℕ = length u.boxes in
      let own : List ℕ = boxes_of u seen in
      let rest : List ℕ = frame_on (us ++ (row ∷ ws)) (seen ++ take n vals) (drop n vals) in
      let less : total rest < w = omega (arith, total-append own rest) in
      rw length_there at (get_or-append-add own rest (slots us) 0) ∙ frame_wide us (seen ++ take n vals) (drop n vals) less

  pub read_wide : (us : List Row) (bs : List Bool) {c : Content} {end : ℕ} → length bs < w
      → read (us ++ (row ∷ ws)) bs ≡ done c end
      → get_or c.numbers (slots us) 0 ≡ 0
  unfolding frame
  read_wide us bs {c} h e =
      let r = reading (us ++ (row ∷ ws)) bs e in
      ap (λ (l : List ℕ). get_or l (slots us) 0) r.held
      ∙ numbers_none (frame_on (us ++ (row ∷ ws)) [] c.numbers) bs (slots us) (frame_wide us [] c.numbers (omega arith))
