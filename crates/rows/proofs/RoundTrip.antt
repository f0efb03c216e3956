-- The two round trips, over all rows: what was read, written again, and what was written, read again.
use Rattle.std.proofs.Common.{◌≡◌, ℕ, zero, suc, ◌+◌, ◌-◌, ◌≤◌, Bool, true, false, eqb, List, [], ◌∷◌, ◌++◌, length, take, drop, sym, refl, ap, ◌∙◌, append-nil, arith, length-append, length-drop, take-append-drop, length-take-le, take_at, take-add, drop_at, eq-eqb, eqb-true}
use lib.ListN.{length-replicate, replicate-append-replicate}
use lib.Seq.{take-append-le, drop-append-le}
use Rattle.bits.specs.Bits.{zeros, cleared, leading}
use Rattle.bits.proofs.Clearing.{leading_zeros, all_leading, length-cleared, drop-cleared, take-cleared, take-zeros, drop-zeros}
use Rattle.rows.specs.Row.{Row, pick}
use Rattle.rows.specs.Walk.{Outcome, done, refused, and_then, total, walk, numbers, boxes_at, slots_of, Content, holding, bare, blank, read, read_bare}
use Rattle.rows.specs.Walk.{frame_on, frame, laid_on, stray, write, write_bare, slots}
use Rattle.rows.proofs.Boxes.{length-numbers, laid_numbers, length_laid, numbers_laid}
use Rattle.rows.proofs.Walked.{never, length-frame, Held, walk_held, walk_slots, walked}

-- Two steps that succeed, each by itself.
and_then_done : {A B : Type 0} {b : B} {end : ℕ} (o : Outcome A) (next : A → ℕ → Outcome B) → and_then o next ≡ done b end
    → (a : A) × (at : ℕ) × (o ≡ done a at) × (next a at ≡ done b end)
and_then_done (done a at) next h = (a, at, refl, h)
and_then_done (refused n at i) next h = never h

-- Zeros are blank,
pub blank_zeros : {A : Type 0} (n k : ℕ) (a : A) (end : ℕ) → blank n (zeros k) a end ≡ done a end
unfolding blank
blank_zeros n k a end = let all : leading (zeros k) ≡ length (zeros k) = leading_zeros k ∙ sym (length-replicate k false) in rw (eq-eqb _ _ all)

-- and only they.
pub blank_done : {A : Type 0} (n : ℕ) (bs : List Bool) (a : A) (at : ℕ) {b : A} {end : ℕ} → blank n bs a at ≡ done b end
    → (a ≡ b) × (at ≡ end) × (bs ≡ zeros (length bs))
unfolding blank
blank_done n bs a at {b} {end} h = go (eqb (leading bs) (length bs)) refl h
  where
    go : (t : Bool) → eqb (leading bs) (length bs) ≡ t → pick t (done a at) (refused n (leading bs) 0) ≡ done b end
        → (a ≡ b) × (at ≡ end) × (bs ≡ zeros (length bs))
    go true e h = (cc, cc, all_leading bs (eqb-true _ _ e))
    go false e h = never h

-- Parts of zeros are zeros.
zeros_front : (a b : List Bool) (n : ℕ) → a ++ b ≡ zeros n → a ≡ zeros (length a)
zeros_front a b n h =
    let long : length a + length b ≡ n = sym (length-append a b) ∙ ap length h ∙ length-replicate n false in
    sym (take_at a b (length a) refl) ∙ ap (take (length a)) h ∙ take-zeros (length a) n (omega arith)

zeros_behind : (a b : List Bool) (n : ℕ) → a ++ b ≡ zeros n → b ≡ zeros (length b)
zeros_behind a b n h =
    let long : length a + length b ≡ n = sym (length-append a b) ∙ ap length h ∙ length-replicate n false in
    let left : n - length a ≡ length b = omega arith in
    sym (drop_at a b (length a) refl) ∙ ap (drop (length a)) h ∙ drop-zeros (length a) n ∙ ap zeros left

-- What is known where a reading succeeds.
pub record Reading (rows : List Row) (bs : List Bool) (c : Content) (end : ℕ) : Type 0 where
  pub steps : walk (length bs) (boxes_at bs) rows 0 [] 0 ≡ done c.numbers end
  -- its numbers are those that stand in its boxes, one for each slot
  pub held : c.numbers ≡ numbers (frame rows c.numbers) bs
  pub sized : length c.numbers ≡ slots rows
  -- it ends where the boxes end, and its margin is what is left
  pub ends : end ≡ total (frame rows c.numbers)
  pub inside : end ≤ length bs
  pub margin : c.margin ≡ cleared end bs

-- A reading that succeeds is such a reading.
pub reading : (rows : List Row) (bs : List Bool) {c : Content} {end : ℕ} → read rows bs ≡ done c end → Reading rows bs c end
unfolding read frame
reading rows bs {c} {end} h =
    let (vals, at, steps, last) = and_then_done (walk (length bs) (boxes_at bs) rows 0 [] 0) (λ vals end. done (holding bs vals end) end) h in
    let all : holding bs vals at ≡ c = cc in
    let here : at ≡ end = cc in
    let same : vals ≡ c.numbers = ap (λ (c : Content). c.numbers) all in
    let gone : walk (length bs) (boxes_at bs) rows 0 [] 0 ≡ done c.numbers end = cc in
    let (ys, whole, standing) = walk_held (length bs) bs rows 0 [] 0 gone in
    let held : Held bs rows [] 0 c.numbers = rw whole standing in
    let sized : length c.numbers ≡ slots rows = ap length held ∙ length-numbers (frame_on rows [] c.numbers) bs ∙ length-frame rows [] c.numbers in
    let all' = walked (length bs) rows 0 [] 0 c.numbers sized (omega arith) (sym (walk_slots (length bs) bs rows 0 [] 0 held) ∙ gone) in
    record {
      steps = gone;
      held = held;
      sized = sized;
      ends = omega arith;
      inside = all'.inside;
      margin = sym (ap (λ (c : Content). c.margin) all) ∙ rw here;
    }

-- A reading has a number for each slot.
pub read_slots : (rows : List Row) (bs : List Bool) {c : Content} {end : ℕ} → read rows bs ≡ done c end → length c.numbers ≡ slots rows
read_slots rows bs h = (reading rows bs h).sized

-- What was read, written again, is the same bits. A margin may have zeros past the room.
pub read_write : (rows : List Row) (bs : List Bool) (k : ℕ) {c : Content} {end : ℕ} → read rows bs ≡ done c end
    → write rows (length bs) (record { numbers = c.numbers; margin = c.margin ++ zeros k }) ≡ done bs end
unfolding write frame
read_write rows bs k {c} {end} h =
    let r = reading rows bs h in
    let vals : List ℕ = c.numbers in
    let f : List ℕ = frame_on rows [] vals in
    let inside : total f ≤ length bs = omega arith in
    let again : laid_on [] f vals ≡ laid_on [] f (numbers f bs) = ap (λ (l : List ℕ). laid_on [] f l) r.held in
    let laid : laid_on [] f vals ≡ take end bs = again ∙ laid_numbers [] f bs inside ∙ rw r.ends in
    let long : length (cleared end bs) ≡ length bs = length-cleared end bs r.inside in
    let room : end ≤ length (cleared end bs) = omega arith in
    let front : take end (cleared end bs ++ zeros k) ≡ zeros end = take-append-le end (cleared end bs) (zeros k) room ∙ take-cleared end bs in
    let past : drop (length bs) (cleared end bs ++ zeros k) ≡ zeros k = drop_at (cleared end bs) (zeros k) (length bs) long in
    let behind : drop end (cleared end bs ++ zeros k) ≡ drop end bs ++ zeros k = drop-append-le end (cleared end bs) (zeros k) room ∙ rw (drop-cleared end bs) in
    let left : length (drop end bs) ≡ length bs - end = length-drop end bs in
    let rest : take (length bs - end) (drop end bs ++ zeros k) ≡ drop end bs = take_at (drop end bs) (zeros k) (length bs - end) left in
    rw (
      ← walk_slots (length bs) bs rows 0 [] 0 r.held,
      r.steps,
      laid,
      r.margin,
      front,
      past,
      behind,
      rest,
      replicate-append-replicate (length bs - end) k,
      replicate-append-replicate end (length bs - end + k),
      blank_zeros 7 (end + (length bs - end + k)) (take end bs ++ drop end bs) end,
      take-append-drop,
    )

-- What is known where a writing succeeds.
pub record Writing (rows : List Row) (room : ℕ) (c : Content) (bs : List Bool) (end : ℕ) : Type 0 where
  pub steps : walk room (slots_of c.numbers) rows 0 [] 0 ≡ done c.numbers end
  -- its bits are the boxes and the margin, as many as the room has
  pub laid : bs ≡ laid_on [] (frame rows c.numbers) c.numbers ++ take (room - end) (drop end c.margin)
  pub fills : length (laid_on [] (frame rows c.numbers) c.numbers) ≡ end
  pub sized : length bs ≡ room
  -- in which its numbers stand
  pub held : c.numbers ≡ numbers (frame rows c.numbers) bs
  pub inside : end ≤ room
  -- the margin has no one in a field's place and none past the room
  pub clear : take end c.margin ≡ zeros end
  pub past : drop room c.margin ≡ zeros (length c.margin - room)

-- A writing of a number for each slot, with a margin for all of the room, that succeeds is such a writing.
pub writing : (rows : List Row) (room : ℕ) (c : Content) {bs : List Bool} {end : ℕ} → length c.numbers ≡ slots rows → room ≤ length c.margin
    → write rows room c ≡ done bs end → Writing rows room c bs end
unfolding write frame
writing rows room c {bs} {end} n long h =
    let vals : List ℕ = c.numbers in
    let m : List Bool = c.margin in
    let f : List ℕ = frame_on rows [] vals in
    let (all, at, steps, last) = and_then_done (walk room (slots_of vals) rows 0 [] 0)
    (λ all end. blank 7 (stray room end m) (laid_on [] f vals ++ take (room - end) (drop end m)) end) h in
    let (bits, here, none) = blank_done 7 (stray room at m) (laid_on [] f vals ++ take (room - at) (drop at m)) at last in
    let w = walked room rows 0 [] 0 vals n (omega arith) steps in
    let whole : length vals ≡ length f = n ∙ sym (length-frame rows [] vals) in
    let laid : bs ≡ laid_on [] f vals ++ take (room - end) (drop end m) = rw (← here) (sym bits) in
    let fills : length (laid_on [] f vals) ≡ end = omega (arith, length_laid f vals whole) in
    let inside : end ≤ room = omega arith in
    let margin : length (take (room - end) (drop end m)) ≡ room - end = length-take-le (room - end) (drop end m) (rw (length-drop end m) (omega arith)) in
    let same : all ≡ vals = w.same in
    let long' : ℕ = length (stray room end m) in
    let stray' : stray room end m ≡ zeros long' = rw here at none in
    let rest : List Bool = zeros (room - end) ++ drop room m in
    let behind : rest ≡ zeros (length rest) = zeros_behind (take end m) rest long' stray' in
    record {
      steps = cc;
      laid = laid;
      fills = fills;
      sized = ap length laid ∙ simp (length-append, margin) (omega arith);
      held = rw laid (sym (numbers_laid f vals (take (room - end) (drop end m)) whole w.fits));
      inside = inside;
      clear = zeros_front (take end m) rest long' stray' ∙ ap zeros (length-take-le end m (omega arith));
      past = zeros_behind (zeros (room - end)) (drop room m) (length rest) behind ∙ ap zeros (length-drop room m);
    }

-- What was written, read again, is the same numbers and the same margin, which has nothing past the room.
pub write_read : (rows : List Row) (room : ℕ) (c : Content) {bs : List Bool} {end : ℕ} → length c.numbers ≡ slots rows → room ≤ length c.margin
    → write rows room c ≡ done bs end → read rows bs ≡ done (record { numbers = c.numbers; margin = take room c.margin }) end
unfolding read frame
write_read rows room c {bs} {end} n long h =
    let w = writing rows room c n long h in
    let m : List Bool = c.margin in
    let out : List Bool = laid_on [] (frame_on rows [] c.numbers) c.numbers in
    let behind : drop end bs ≡ take (room - end) (drop end m) = ap (drop end) w.laid ∙ drop_at out (take (room - end) (drop end m)) end w.fills in
    let up : end + (room - end) ≡ room = omega arith in
    let margin : cleared end bs ≡ take room m = rw (behind, ← w.clear) (sym (take-add end (room - end) m) ∙ rw up) in
    rw (walk_slots (length bs) bs rows 0 [] 0 w.held, w.sized, w.steps, margin)

-- A list's reading is one with nothing in the margin,
pub bare_read : (rows : List Row) (bs : List Bool) {vals : List ℕ} {end : ℕ} → read_bare rows bs ≡ done vals end → read rows bs ≡ done (bare (length bs) vals) end
unfolding read_bare
bare_read rows bs {vals} {end} h =
    let (c, at, steps, last) = and_then_done (read rows bs) (λ c end. blank 5 c.margin c.numbers end) h in
    let (same, here, none) = blank_done 5 c.margin c.numbers at last in
    let r = reading rows bs steps in
    let long : length c.margin ≡ length bs = ap length r.margin ∙ length-cleared at bs r.inside in
    let whole : c ≡ bare (length bs) vals = content c.margin c.numbers vals (length bs) (rw long at none) same in
    steps ∙ rw (whole, here)
  where
    content : (m : List Bool) (vals ws : List ℕ) (n : ℕ) → m ≡ zeros n → vals ≡ ws → record { numbers = vals; margin = m } ≡ bare n ws
    content m vals ws n e f = rw (e, f)

-- and the other way round.
pub read_bare_law : (rows : List Row) (bs : List Bool) (n : ℕ) {vals : List ℕ} {end : ℕ} → read rows bs ≡ done (bare n vals) end → read_bare rows bs ≡ done vals end
unfolding read_bare
read_bare_law rows bs n {vals} {end} h = rw h (blank_zeros 5 n vals end)

pub bare_slots : (rows : List Row) (bs : List Bool) {vals : List ℕ} {end : ℕ} → read_bare rows bs ≡ done vals end → length vals ≡ slots rows
bare_slots rows bs h = read_slots rows bs (bare_read rows bs h)

pub bare_read_write : (rows : List Row) (bs : List Bool) {vals : List ℕ} {end : ℕ} → read_bare rows bs ≡ done vals end → write_bare rows (length bs) vals ≡ done bs end
unfolding write_bare
bare_read_write rows bs {vals} h = rw append-nil at (read_write rows bs 0 (bare_read rows bs h))

take_none : (k n : ℕ) → take k (zeros n) ≡ zeros (length (take k (zeros n)))
take_none zero n = refl
take_none (suc k) zero = refl
take_none (suc k) (suc n) = ap (λ (l : List Bool). false ∷ l) (take_none k n)

-- A list's writing: the boxes, and zeros behind them.
pub bare_writes : (rows : List Row) (room : ℕ) (vals : List ℕ)
    → write_bare rows room vals
    ≡ and_then (walk room (slots_of vals) rows 0 [] 0) (λ all end. done (laid_on [] (frame rows vals) vals ++ zeros (room - end)) end)
unfolding write_bare write
bare_writes rows room vals = go (walk room (slots_of vals) rows 0 [] 0)
  where
    laid : List Bool
    laid = laid_on [] (frame rows vals) vals

    go : (o : Outcome (List ℕ))
        → and_then o (λ all end. blank 7 (stray room end (zeros room)) (laid ++ take (room - end) (drop end (zeros room))) end)
        ≡ and_then o (λ all end. done (laid ++ zeros (room - end)) end)
    go (done all end) =
        let n : ℕ = length (take end (zeros room)) in
        let rest : take (room - end) (drop end (zeros room)) ≡ zeros (room - end) = rw (drop-zeros end room) (take-zeros (room - end) (room - end) (omega arith)) in
        rw (
          rest,
          take_none end room,
          drop-zeros room room,
          replicate-append-replicate (room - end) (room - room),
          replicate-append-replicate n (room - end + (room - room)),
        )
        (blank_zeros 7 (n + (room - end + (room - room))) (laid ++ zeros (room - end)) end)
    go (refused n at i) = refl

-- A margin of zeros is as long as the room.
bare_long : (room : ℕ) → room ≤ length (zeros room)
bare_long room = rw (length-replicate room false) (omega arith)

pub bare_write_length : (rows : List Row) (room : ℕ) (vals : List ℕ) {bs : List Bool} {end : ℕ} → length vals ≡ slots rows
    → write_bare rows room vals ≡ done bs end → length bs ≡ room
unfolding write_bare
bare_write_length rows room vals n h = (writing rows room (bare room vals) n (bare_long room) h).sized

pub bare_write_read : (rows : List Row) (room : ℕ) (vals : List ℕ) {bs : List Bool} {end : ℕ} → length vals ≡ slots rows
    → write_bare rows room vals ≡ done bs end → read_bare rows bs ≡ done vals end
unfolding write_bare
bare_write_read rows room vals n h = read_bare_law rows _ room (rw (take-zeros room room (omega arith)) at (write_read rows room (bare room vals) n (bare_long room) h))
