-- The raise law: what a reading becomes after a write that only raises bits and spares bitmaps and counts.
use Rattle.std.proofs.Common.{◌≡◌, ℕ, suc, ◌+◌, ◌<◌, ◌≤◌, Bool, true, false, eqb, ltb, List, [], ◌∷◌, ◌++◌, length, get_or, take, drop, sym, refl, ap, ◌∙◌, arith, length-drop, take-append-drop, length-take, get_or-take, drop-drop, take-add, ltb-false, ltb-true}
use lib.ListN.{get_or-eq_default}
use Rattle.bits.specs.Bits.{zeros, cleared, join}
use Rattle.rows.specs.Row.{Row, Cond, always, bit, above, told, broken}
use Rattle.rows.specs.Walk.{Outcome, done, refused, and_then, total, walk, numbers, boxes_at, Content, holding, read, frame_on, frame, slots}
use Rattle.rows.specs.Raise.{raised_in, after, slot_of, named, AllZero, Spares, judge_on, judge, raised_to}
use Rattle.rows.proofs.Boxes.{total-append, length-join, drop-join, join-append, join-zeros, numbers-join, numbers_spared}
use Rattle.rows.proofs.Walked.{length-frame, not_refused, Held, walk_judged}
use Rattle.rows.proofs.RoundTrip.{Reading, reading}

-- Numbers that break no rule are handed on, and end where their boxes end.
judged : (rs : List Row) (i : ℕ) (ws all vals : List ℕ) (at : ℕ) {vs : List ℕ} {end : ℕ} → length ws ≡ slots rs
    → judge_on rs i ws all vals at ≡ done vs end → (vs ≡ all) × (end ≡ at + total ws)
judged [] i [] all vals at {vs} {end} n h = let here : at ≡ end = cc in (cc, omega arith)
judged [] i (w ∷ ws) all vals at n h = absurd (omega arith)
judged (r ∷ rs) i ws all vals at {vs} {end} n h =
    let k : ℕ = length r.boxes in
    let ruled : ℕ = broken r.rule (take k vals) in
    let next : ℕ = at + total (take k ws) in
    let sound : judge_on rs (suc i) (drop k ws) all (drop k vals) next ≡ done vs end = not_refused (eqb ruled 0) _ ruled at i h in
    let rest = judged rs (suc i) (drop k ws) all (drop k vals) next (simp length-drop (omega arith)) sound in
    let parts : total ws ≡ total (take k ws) + total (drop k ws) = rw take-append-drop at (total-append (take k ws) (drop k ws)) in
    (rest.0, omega arith)

-- Numbers that agree wherever us is zero: in front of any place too, and so in all that a condition sees.
module _ (us xs ys : List ℕ) (agree : (s : ℕ) → get_or us s 0 ≡ 0 → get_or xs s 0 ≡ get_or ys s 0) where
  seen_same : (n s : ℕ) → get_or us s 0 ≡ 0 → get_or (take n xs) s 0 ≡ get_or (take n ys) s 0
  seen_same n s z = go (ltb s n) refl
    where
      go : (t : Bool) → ltb s n ≡ t → get_or (take n xs) s 0 ≡ get_or (take n ys) s 0
      go true e = let h : s < n = ltb-true _ _ e in rw (get_or-take n xs s 0, get_or-take n ys s 0) (agree s z)
      go false e =
          let h : n ≤ s = ltb-false _ _ e in
          let a : length (take n xs) ≤ s = simp length-take (omega arith) in
          let b : length (take n ys) ≤ s = simp length-take (omega arith) in
          rw (get_or-eq_default (take n xs) 0 a, get_or-eq_default (take n ys) 0 b)

  told_same : (c : Cond) (n : ℕ) (ss : List ℕ) → AllZero us (slot_of c ++ ss) → (told c (take n xs) ≡ told c (take n ys)) × AllZero us ss
  told_same always n ss z = (refl, z)
  told_same (bit s e) n ss z = (rw (seen_same n s z.0), z.1)
  told_same (above s k) n ss z = (rw (seen_same n s z.0), z.1)

  pub frame_same : (rs : List Row) (n : ℕ) → AllZero us (named rs) → frame_on rs (take n xs) (drop n xs) ≡ frame_on rs (take n ys) (drop n ys)
  frame_same [] n z = refl
  frame_same (r ∷ rs) n z =
      let k : ℕ = length r.boxes in
      let row = told_same r.cond n (named rs) z in
      rw (row.0, ← take-add n k xs, ← take-add n k ys, drop-drop k n xs, drop-drop k n ys, frame_same rs (n + k) row.1)

-- After a write that spares a reading, the raised numbers stand in the bits, in the frame that was; so a walk judges them.
raised_walk : (rows : List Row) (bs w : List Bool) {c : Content} {end : ℕ} → Reading rows bs c end → length w ≡ length bs → Spares rows c.numbers w
    → walk (length bs) (boxes_at (join bs w)) rows 0 [] 0 ≡ judge rows (frame rows c.numbers) (after rows c.numbers w)
unfolding frame after judge
raised_walk rows bs w {c} r n spares =
    let vals : List ℕ = c.numbers in
    let f : List ℕ = frame_on rows [] vals in
    let us : List ℕ = numbers f w in
    let ys : List ℕ = raised_in f vals us in
    let inside : 0 + total f ≤ length bs = omega arith in
    let joined : numbers f (join bs w) ≡ ys = numbers-join f bs w n (omega arith) ∙ ap (λ (l : List ℕ). raised_in f l us) (sym r.held) in
    let agree : (s : ℕ) → get_or us s 0 ≡ 0 → get_or vals s 0 ≡ get_or ys s 0 = λ s z. rw (← joined, numbers_spared f bs w s n z) (ap (λ (l : List ℕ). get_or l s 0) r.held) in
    let frames : frame_on rows [] ys ≡ f = sym (frame_same us vals ys agree rows 0 spares) in
    let held : Held (join bs w) rows [] 0 ys = rw frames (sym joined) in
    rw frames at (walk_judged (length bs) (join bs w) rows 0 [] 0 held (rw frames inside))

-- Where they break no rule, the outcome is the raised numbers, with the end that was.
pub raise_done : (rows : List Row) (bs w : List Bool) {c : Content} {end : ℕ} {vs : List ℕ} {e : ℕ} → read rows bs ≡ done c end
    → judge rows (frame rows c.numbers) (after rows c.numbers w) ≡ done vs e → (vs ≡ after rows c.numbers w) × (e ≡ end)
unfolding judge frame
raise_done rows bs w {c} h sound =
    let r = reading rows bs h in
    let (same, ends) = judged rows 0 (frame_on rows [] c.numbers) _ _ 0 (length-frame rows [] c.numbers) sound in
    (same, omega arith)

-- The margin of joined bits is their margins joined.
cleared-join : (end : ℕ) (bs w : List Bool) → length w ≡ length bs → cleared end (join bs w) ≡ join (cleared end bs) (cleared end w)
cleared-join end bs w n =
    ap (λ (l : List Bool). zeros end ++ l) (drop-join end bs w n)
    ∙ ap (λ (l : List Bool). l ++ join (drop end bs) (drop end w)) (sym (join-zeros (zeros end) end))
    ∙ sym (join-append (zeros end) (drop end bs) (zeros end) (drop end w) refl)

-- The raise law: after a write that spares a reading, the bits read as the raised numbers, judged by the rules, and the raised margin.
pub raise_law : (rows : List Row) (bs w : List Bool) {c : Content} {end : ℕ} → read rows bs ≡ done c end → length w ≡ length bs
    → Spares rows c.numbers w → read rows (join bs w) ≡ raised_to rows c end w
unfolding read raised_to
raise_law rows bs w {c} {end} h n spares =
    let r = reading rows bs h in
    let margin : cleared end (join bs w) ≡ join c.margin (cleared end w) = cleared-join end bs w n ∙ rw r.margin in
    rw (length-join bs w, raised_walk rows bs w r n spares) (go (judge rows (frame rows c.numbers) (after rows c.numbers w)) refl margin)
  where
    raised_holding : List ℕ → Content
    raised_holding vals = record { numbers = vals; margin = join c.margin (cleared end w) }

    go : (o : Outcome (List ℕ)) → judge rows (frame rows c.numbers) (after rows c.numbers w) ≡ o
        → cleared end (join bs w) ≡ join c.margin (cleared end w)
        → and_then o (λ vals e. done (holding (join bs w) vals e) e)
        ≡ and_then o (λ vals e. done (raised_holding vals) e)
    go (done vs e) sound margin = rw ((raise_done rows bs w h sound).1, margin)
    go (refused m at i) sound margin = refl
