-- The change of one number: where bits read, the bits with that one box replaced are the writing of the numbers so changed.
use Rattle.std.proofs.Common.{◌≡◌, ℕ, zero, suc, ◌+◌, ◌-◌, ◌^◌, ◌<◌, ◌≤◌, Bool, true, false, ◌||◌, eqb, ltb, List, [], ◌∷◌, ◌++◌, length, get_or, take, drop, set, replicate, sym, refl, ap, ◌∙◌, true≢false, append_assoc, append-nil, arith, length-append, length-drop, take-append-drop, length-take-le, get_or-set_other, take-take, drop-drop, take_at, get_or-append-add, drop-set-lt, take-add, drop_at, ltb-false, ltb-true, eq-eqb, eqb-true}
use borrow.Author.Tests.{eqb-false}
use lib.ListN.{get_or-append}
use lib.Seq.{take-append-le, drop-append-add, take-set-lt, take-set-le, drop-set-add}
use Rattle.bits.specs.Bits.{number, bits_of, cleared}
use Rattle.bits.proofs.Spelling.{length-bits_of, number-bits_of}
use Rattle.rows.specs.Row.{Row, pick, broken}
use Rattle.rows.specs.Walk.{Outcome, done, refused, total, boxes_of, walk, numbers, boxes_at, Content, read_bare, read, frame_on, frame, write, write_bare, slots}
use Rattle.rows.specs.Raise.{named, AllZero, judge_on}
use Rattle.rows.specs.Change.{place_of, with_box, width_on, broken_by}
use Rattle.rows.proofs.Boxes.{total-append}
use Rattle.rows.proofs.Walked.{never, length-boxes, length-frame, Held, walk_judged}
use Rattle.rows.proofs.RoundTrip.{reading, read_write, bare_read}
use Rattle.rows.proofs.Raising.{frame_same}

-- A box in the middle of the bits lies behind those in front of it.
module _ (w a u v : ℕ) (bs : List Bool) (room : w + a ≤ length bs) where
  with_front : take w (with_box (w + a) u v bs) ≡ take w bs
  with_front =
      let long : w ≤ length (take (w + a) bs) = rw (length-take-le (w + a) bs room) (omega arith) in
      take-append-le w (take (w + a) bs) _ long ∙ take-take w (w + a) bs (omega arith)

  with_behind : drop w (with_box (w + a) u v bs) ≡ with_box a u v (drop w bs)
  with_behind =
      let rest : List Bool = bits_of u v ++ drop (w + a + u) bs in
      let front : length (take w bs) ≡ w = length-take-le w bs (omega arith) in
      let parts : take (w + a) bs ++ rest ≡ take w bs ++ (take a (drop w bs) ++ rest) = rw (take-add w a bs) (append_assoc (take w bs) (take a (drop w bs)) rest) in
      let tail : drop (a + u) (drop w bs) ≡ drop (w + a + u) bs = rw drop-drop (ap (λ (k : ℕ). drop k bs) same) in
      ap (drop w) parts ∙ drop_at (take w bs) _ w front ∙ ap (λ (l : List Bool). take a (drop w bs) ++ (bits_of u v ++ l)) (sym tail)
    where
      same : w + (a + u) ≡ w + a + u
      same = omega arith

-- What follows the box is as before.
with_past : (at w v : ℕ) (bs : List Bool) (e : ℕ) → at + w ≤ length bs → at + w ≤ e → drop e (with_box at w v bs) ≡ drop e bs
with_past at w v bs e room h =
    let front : List Bool = take at bs ++ bits_of w v in
    let long : length front ≡ at + w = rw (length-append, length-take-le at bs (omega arith), length-bits_of) in
    let parts : with_box at w v bs ≡ front ++ drop (at + w) bs = sym (append_assoc (take at bs) (bits_of w v) (drop (at + w) bs)) in
    let m : ℕ = e - (at + w) in
    let far : length front + m ≡ e = omega arith in
    let up : at + w + m ≡ e = omega arith in
    ap (drop e) parts ∙ rw far at (drop-append-add front (drop (at + w) bs) m) ∙ drop-drop m (at + w) bs ∙ ap (λ (k : ℕ). drop k bs) up

total_parts : (s : ℕ) (ws : List ℕ) → total ws ≡ total (take s ws) + total (drop s ws)
total_parts s ws = rw take-append-drop at (total-append (take s ws) (drop s ws))

-- The numbers that stand in bits of which one box holds another number.
numbers_with : (ws : List ℕ) (s v : ℕ) (bs : List Bool) → s < length ws → v < 2 ^ get_or ws s 0 → total ws ≤ length bs
    → numbers ws (with_box (total (take s ws)) (get_or ws s 0) v bs) ≡ set (numbers ws bs) s v
numbers_with [] s v bs h fits room = absurd (omega arith)
numbers_with (w ∷ ws) zero v bs h fits room =
    let n : length (bits_of w v) ≡ w = length-bits_of w v in
    let back : number (bits_of w v) ≡ v = number-bits_of w v fits in
    let plain : 0 + w ≡ w = omega arith in
    rw (take_at (bits_of w v) _ w n, drop_at (bits_of w v) _ w n, back, plain)
numbers_with (w ∷ ws) (suc s) v bs h fits room =
    let a : ℕ = total (take s ws) in
    let u : ℕ = get_or ws s 0 in
    let inside : w + a ≤ length bs = omega (arith, total_parts s ws) in
    let rest = numbers_with ws s v (drop w bs) (omega arith) fits (simp length-drop (omega arith)) in
    rw (with_front w a u v bs inside, with_behind w a u v bs inside, rest)

-- A frame's box is its row's.
width_at : (rs : List Row) (seen vals : List ℕ) (s : ℕ) → get_or (frame_on rs seen vals) s 0 ≡ width_on rs seen vals s
width_at [] seen vals s = refl
width_at (r ∷ rs) seen vals s = go (ltb s k) refl (width_at rs (seen ++ take k vals) (drop k vals) (s - k))
  where
    k : ℕ
    k = length r.boxes

    ws : List ℕ
    ws = boxes_of r seen

    others : List ℕ
    others = frame_on rs (seen ++ take k vals) (drop k vals)

    rest : ℕ
    rest = width_on rs (seen ++ take k vals) (drop k vals) (s - k)

    go : (t : Bool) → ltb s k ≡ t → get_or others (s - k) 0 ≡ rest → get_or (ws ++ others) s 0 ≡ pick t (get_or ws s 0) rest
    go true e more = let h : s < length ws = rw (length-boxes r seen) (ltb-true _ _ e) in get_or-append ws others 0 s h
    go false e more =
        let n : length ws ≡ k = length-boxes r seen in
        let h : k ≤ s = ltb-false _ _ e in
        let up : length ws + (s - k) ≡ s = omega arith in
        rw up at (get_or-append-add ws others (s - k) 0) ∙ more

-- A rule that a judgement passed is not broken, and the rest passes.
pub passed : {A : Type 0} {a : A} {end : ℕ} (n : ℕ) (o : Outcome A) (at i : ℕ) → pick (eqb n 0) o (refused n at i) ≡ done a end → (n ≡ 0) × (o ≡ done a end)
passed {A} {a} {end} n o at i h = go (eqb n 0) refl h
  where
    go : (t : Bool) → eqb n 0 ≡ t → pick t o (refused n at i) ≡ done a end → (n ≡ 0) × (o ≡ done a end)
    go true e h = (eqb-true _ _ e, h)
    go false e h = never h

-- Judgement hands on what it is given.
judged_as : (rs : List Row) (i : ℕ) (ws all xs vals : List ℕ) (at : ℕ) {end : ℕ} → judge_on rs i ws all vals at ≡ done all end
    → judge_on rs i ws xs vals at ≡ done xs end
judged_as [] i ws all xs vals at {end} h = let here : at ≡ end = cc in cc
judged_as (r ∷ rs) i ws all xs vals at h =
    let k : ℕ = length r.boxes in
    let (kept, rest) = passed (broken r.rule (take k vals)) _ at i h in
    rw (eq-eqb _ _ kept) (judged_as rs (suc i) (drop k ws) all xs (drop k vals) (at + total (take k ws)) rest)

-- Where numbers are judged well, so are they with one changed, if that breaks no rule.
judged_with : (rs : List Row) (i : ℕ) (ws all xs vals : List ℕ) (at s v : ℕ) {end : ℕ} → broken_by rs s v vals ≡ 0
    → judge_on rs i ws all vals at ≡ done all end
    → judge_on rs i ws xs (set vals s v) at ≡ done xs end
judged_with [] i ws all xs vals at s v {end} ok h = let here : at ≡ end = cc in cc
judged_with (r ∷ rs) i ws all xs vals at s v {end} ok h =
    go (ltb s k) refl ok (judged_with rs (suc i) (drop k ws) all xs (drop k vals) next (s - k) v)
  where
    k : ℕ
    k = length r.boxes

    next : ℕ
    next = at + total (take k ws)

    row : (broken r.rule (take k vals) ≡ 0) × (judge_on rs (suc i) (drop k ws) all (drop k vals) next ≡ done all end)
    row = passed (broken r.rule (take k vals)) (judge_on rs (suc i) (drop k ws) all (drop k vals) next) at i h

    go : (t : Bool) → ltb s k ≡ t → pick t (broken r.rule (set (take k vals) s v)) (broken_by rs (s - k) v (drop k vals)) ≡ 0
        → (broken_by rs (s - k) v (drop k vals) ≡ 0 → judge_on rs (suc i) (drop k ws) all (drop k vals) next ≡ done all end
        → judge_on rs (suc i) (drop k ws) xs (set (drop k vals) (s - k) v) next ≡ done xs end)
        → judge_on (r ∷ rs) i ws xs (set vals s v) at ≡ done xs end
    go true e ok rest =
        let h : s < k = ltb-true _ _ e in
        rw (take-set-lt k vals s v h, drop-set-lt k vals s v h, eq-eqb _ _ ok) (judged_as rs (suc i) (drop k ws) all xs (drop k vals) next row.1)
    go false e ok rest =
        let h : k ≤ s = ltb-false _ _ e in
        let up : k + (s - k) ≡ s = omega arith in
        let behind : drop k (set vals s v) ≡ set (drop k vals) (s - k) v = rw up at (drop-set-add k vals (s - k) v) in
        rw (take-set-le k vals s v h, behind, eq-eqb _ _ row.0) (rest ok row.1)

-- The numbers of a reading are judged well.
pub judged_read : (rows : List Row) (bs : List Bool) {c : Content} {end : ℕ} → read rows bs ≡ done c end
    → judge_on rows 0 (frame_on rows [] c.numbers) c.numbers c.numbers 0 ≡ done c.numbers end
unfolding frame
judged_read rows bs {c} h =
    let r = reading rows bs h in
    let inside : 0 + total (frame_on rows [] c.numbers) ≤ length bs = omega arith in
    sym (walk_judged (length bs) bs rows 0 [] 0 r.held inside) ∙ r.steps

-- Whether a slot is one that conditions refer to.
abbrev pub refers : ℕ → List ℕ → Bool
refers s [] = false
refers s (x ∷ xs) = eqb x s || refers s xs

-- One number alone is not zero.
abbrev mark : ℕ → List ℕ
mark s = replicate s 0 ++ (1 ∷ [])

mark_other : (s x : ℕ) → (x ≡ s → ⊥) → get_or (mark s) x 0 ≡ 0
mark_other zero zero h = absurd (h refl)
mark_other zero (suc x) h = refl
mark_other (suc s) zero h = refl
mark_other (suc s) (suc x) h = mark_other s x (λ e. h (ap suc e))

mark_own : (s : ℕ) → get_or (mark s) s 0 ≡ 0 → ⊥
mark_own zero h = omega arith
mark_own (suc s) h = mark_own s h

unmarked : (s : ℕ) (xs : List ℕ) → refers s xs ≡ false → AllZero (mark s) xs
unmarked s [] h = tt
unmarked s (x ∷ xs) h = go (eqb x s) refl h (unmarked s xs)
  where
    go : (t : Bool) → eqb x s ≡ t → t || refers s xs ≡ false → (refers s xs ≡ false → AllZero (mark s) xs)
        → (get_or (mark s) x 0 ≡ 0) × AllZero (mark s) xs
    go true e h rest = absurd (true≢false h)
    go false e h rest = (mark_other s x (eqb-false _ _ e), rest h)

box_inside : (s : ℕ) (ws : List ℕ) → s < length ws → total (take s ws) + get_or ws s 0 ≤ total ws
box_inside s [] h = absurd (omega arith)
box_inside zero (w ∷ ws) h = omega arith
box_inside (suc s) (w ∷ ws) h = omega (arith, box_inside s ws (omega arith))

with_length : (at w v : ℕ) (bs : List Bool) → at + w ≤ length bs → length (with_box at w v bs) ≡ length bs
with_length at w v bs h = rw (length-append, length-append, length-take-le at bs (omega arith), length-bits_of, length-drop) (omega arith)

-- The law: one number that no condition refers to, changed to another that fits its box and breaks no rule.
pub change_law : (rows : List Row) (bs : List Bool) (s v : ℕ) {c : Content} {end : ℕ} → read rows bs ≡ done c end
    → s < slots rows
    → refers s (named rows) ≡ false
    → v < 2 ^ width_on rows [] c.numbers s
    → broken_by rows s v c.numbers ≡ 0
    → write rows (length bs) (record { numbers = set c.numbers s v; margin = c.margin })
    ≡ done (with_box (place_of rows c.numbers s) (width_on rows [] c.numbers s) v bs) end
unfolding place_of frame read
change_law rows bs s v {c} {end} h slot free fits ok =
    let r = reading rows bs h in
    let vals : List ℕ = c.numbers in
    let f : List ℕ = frame_on rows [] vals in
    let at : ℕ = total (take s f) in
    let w : ℕ = width_on rows [] vals s in
    let out : List Bool = with_box at w v bs in
    let ys : List ℕ = set vals s v in
    let boxes : s < length f = rw (length-frame rows [] vals) slot in
    let wide : get_or f s 0 ≡ w = width_at rows [] vals s in
    let room : total f ≤ length bs = omega arith in
    let last : at + w ≤ total f = rw (← wide) (box_inside s f boxes) in
    let stand : numbers f out ≡ ys =
    rw wide at (numbers_with f s v bs boxes (rw wide fits) room) ∙ ap (λ (l : List ℕ). set l s v) (sym r.held) in
    let agree : (x : ℕ) → get_or (mark s) x 0 ≡ 0 → get_or vals x 0 ≡ get_or ys x 0 =
    λ x z. sym (get_or-set_other vals s x v 0 (λ e. mark_own s (rw e at z))) in
    let frames : frame_on rows [] ys ≡ f = sym (frame_same (mark s) vals ys agree rows 0 (unmarked s (named rows) free)) in
    let held : Held out rows [] 0 ys = rw frames (sym stand) in
    let inside : 0 + total f ≤ length bs = omega arith in
    let steps : walk (length bs) (boxes_at out) rows 0 [] 0 ≡ judge_on rows 0 f ys ys 0 =
    rw frames at (walk_judged (length bs) out rows 0 [] 0 held (rw frames inside)) in
    let sound : judge_on rows 0 f ys ys 0 ≡ done ys end = judged_with rows 0 f vals ys vals 0 s v ok (judged_read rows bs h) in
    let long : length out ≡ length bs = with_length at w v bs (omega arith) in
    let behind : drop end out ≡ drop end bs = with_past at w v bs end (omega arith) (omega arith) in
    let margin : cleared end out ≡ c.margin = rw behind (sym r.margin) in
    let again : read rows out ≡ done (record { numbers = ys; margin = c.margin }) end = rw (long, steps, sound, margin) in
    rw (long, append-nil) at (read_write rows out 0 again)

-- Of a list.
pub bare_change : (rows : List Row) (bs : List Bool) (s v : ℕ) {vals : List ℕ} {end : ℕ} → read_bare rows bs ≡ done vals end
    → s < slots rows
    → refers s (named rows) ≡ false
    → v < 2 ^ width_on rows [] vals s
    → broken_by rows s v vals ≡ 0
    → write_bare rows (length bs) (set vals s v) ≡ done (with_box (place_of rows vals s) (width_on rows [] vals s) v bs) end
unfolding write_bare
bare_change rows bs s v h slot free fits ok = change_law rows bs s v (bare_read rows bs h) slot free fits ok
