-- A straight line of takes is a reading, and one of puts a writing. A reader's or writer's proof lists its steps, a line a
-- row; the laws here take that list to the meaning of the table.
use Rattle.std.proofs.Common.{◌≡◌, ℕ, ◌+◌, ◌-◌, ◌^◌, ◌<◌, Bool, true, false, eqb, List, [], ◌∷◌, ◌++◌, map, length, take, drop, refl, ap, ◌∙◌, append_assoc, append-nil, arith, length-drop, take-append-drop, eq-eqb, ne_eqb}
use lib.Seq.{drop-append_seam}
use Rattle.bits.specs.Bits.{cut, cleared, zeros}
use Rattle.bits.proofs.Cutting.{length_cut}
use Rattle.rows.specs.Row.{Row, Cond, pick, told, holds}
use Rattle.rows.specs.Walk.{Outcome, done, refused, and_then, walk, there, boxes_at, slots_of, frame_on, frame, laid_on, slots, holding, blank, read, read_bare, write, write_bare}
use Rattle.rows.specs.Inner.Step.{passes, resume, Ready, Took, Ended, Kept}
use Rattle.rows.specs.Inner.Line.{start, Takes, taken, ◌▸◌, Puts, given, ◌◂◌, tells}
use Rattle.rows.specs.Inner.Standing.{Standing}
use Rattle.rows.specs.declared.Rule.{Rule}
use Rattle.rows.proofs.Boxes.{length_there, laid_append}
use Rattle.rows.proofs.RoundTrip.{bare_writes}
use Rattle.rows.proofs.Taking.{took_refused, took_absent, ended_there}

module _ (words : List ℕ) (end : ℕ) (bs : List Bool) (long : length bs ≡ end) (cuts : words ≡ cut 32 64 (length words) bs) where
  takes_run : {rows : List Row} {seen : List ℕ} {c : Standing} {all : List ℕ} {d : Standing}
      → c.field + length rows < 2 ^ 32
      → Takes words end rows seen c all d
      → resume end (boxes_at bs) rows seen c ≡ resume end (boxes_at bs) [] all d
  takes_run few taken = refl
  takes_run few (◌▸◌ {k} {rs} {seen} took rest) =
      took.step bs long cuts k rs seen refl (omega arith) ∙ takes_run (omega (arith, took.counted)) rest

  -- A whole reading: the numbers, and the margin behind them,
  pub takes_read : (rows : List Row) (all : List ℕ) (d : Standing)
      → length rows < 2 ^ 32
      → Takes words end rows [] start all d
      → read rows bs ≡ tells d (holding bs all d.at)
  unfolding read resume
  takes_read rows all d few line =
      let steps : walk (length bs) (boxes_at bs) rows 0 [] 0 ≡ resume end (boxes_at bs) [] all d = rw long (takes_run (omega arith) line) in
      ap (λ (o : Outcome (List ℕ)). and_then o (λ vals at. done (holding bs vals at) at)) steps ∙ go (eqb d.why 0)
    where
      go : (b : Bool)
          → and_then (pick b (done all d.at) (refused d.why d.at (d.field - 1))) (λ vals at. done (holding bs vals at) at)
          ≡ pick b (done (holding bs all d.at) d.at) (refused d.why d.at (d.field - 1))
      go true = refl
      go false = refl

  -- and of a list, with its end.
  pub takes_bare : (rows : List Row) (all : List ℕ) (d e : Standing)
      → length rows < 2 ^ 32
      → Takes words end rows [] start all d
      → Ended words end d e
      → read_bare rows bs ≡ tells e all
  unfolding read_bare read resume
  takes_bare rows all d e few line ended =
      let steps : walk (length bs) (boxes_at bs) rows 0 [] 0 ≡ resume end (boxes_at bs) [] all d = rw long (takes_run (omega arith) line) in
      both (walk (length bs) (boxes_at bs) rows 0 [] 0)
      ∙ ap (λ (o : Outcome (List ℕ)). and_then o (λ vals at. blank 5 (cleared at bs) vals at)) steps
      ∙ ended.says bs long cuts all
    where
      both : (o : Outcome (List ℕ))
          → and_then (and_then o (λ vals at. done (holding bs vals at) at)) (λ c at. blank 5 c.margin c.numbers at)
          ≡ and_then o (λ vals at. blank 5 (cleared at bs) vals at)
      both (done vals at) = refl
      both (refused n at i) = refl

module _ (room : ℕ) where
  -- What the numbers put come to, and the draft where there was no fault.
  pub record Ran (vals : List ℕ) (rows : List Row) (seen rest xs : List ℕ) (c : Standing) (ys : List ℕ) (d : Standing) : Type 0 where
    pub comes : resume room (slots_of vals) rows seen c ≡ resume room (slots_of vals) [] vals d
    pub before : d.why ≡ 0 → c.why ≡ 0
    pub laid :
        d.why ≡ 0
        → (out : List Bool)
        → length out ≡ c.at
        → xs ≡ cut 32 32 (length xs) out
        → (length (laid_on out (frame_on rows seen rest) rest) ≡ d.at)
        × (ys ≡ cut 32 32 (length xs) (laid_on out (frame_on rows seen rest) rest))

  puts_run : (vals : List ℕ) {rows : List Row} {seen : List ℕ} (rest : List ℕ) {xs : List ℕ} {c : Standing} {all ys : List ℕ} {d : Standing}
      → vals ≡ seen ++ rest
      → length rest ≡ slots rows
      → c.field + length rows < 2 ^ 32
      → Puts room vals rows seen xs c all ys d
      → Ran vals rows seen rest xs c ys d
  puts_run vals [] parts sized few given =
      record { comes = rw (parts, append-nil); before = λ ok. ok; laid = λ ok out at drafted. (at, drafted) }
  puts_run vals (v ∷ rest) parts sized few given = absurd (omega arith)
  puts_run vals rest parts sized few (◌◂◌ {ws} {k} {rule} {rs} {seen} {xs} {c} {zs} {e} {all} {ys} {d} gave others) =
      let n : ℕ = length ws in
      let own : take n (drop (length seen) vals) ≡ take n rest = rw (parts, drop-append_seam seen rest) in
      let along : Ran vals rs (seen ++ take n (drop (length seen) vals)) (drop n rest) zs e ys d =
      puts_run vals (drop n rest)
      (parts ∙ rw own (rw (append_assoc, take-append-drop n rest)))
      (rw (length-drop n rest) (omega arith))
      (omega (arith, gave.counted))
      others in
      record {
        comes = gave.step vals k rs seen refl refl (omega arith) ∙ along.comes;
        before = λ ok. gave.before (along.before ok);
        laid = λ ok out at drafted.
            let one = gave.laid (along.before ok) out at drafted in
            let two = along.laid ok (laid_on out (there (told k seen) ws) (take n (drop (length seen) vals))) one.0 (rw gave.long one.1) in
            let whole : laid_on out (frame_on (record { boxes = ws; cond = k; rule = rule } ∷ rs) seen rest) rest
            ≡ laid_on (laid_on out (there (told k seen) ws) (take n (drop (length seen) vals))) (frame_on rs (seen ++ take n (drop (length seen) vals)) (drop n rest)) (drop n rest) =
            laid_append out (there (told k seen) ws) (frame_on rs (seen ++ take n rest) (drop n rest)) rest
            ∙ rw (length_there (told k seen) ws, own) in
            rw whole (two.0, rw gave.long at two.1);
      }

  -- A whole line of puts: what its walk comes to, and the draft where there was no fault.
  pub record Walks (rows : List Row) (vals xs ys : List ℕ) (d : Standing) : Type 0 where
    pub says : walk room (slots_of vals) rows 0 [] 0 ≡ tells d vals
    pub fills : d.why ≡ 0 → length (laid_on [] (frame rows vals) vals) ≡ d.at
    pub drawn : d.why ≡ 0 → ys ≡ cut 32 32 (length xs) (laid_on [] (frame rows vals) vals)

  pub puts_walk : (rows : List Row) (vals xs all ys : List ℕ) (d : Standing)
      → length rows < 2 ^ 32
      → length vals ≡ slots rows
      → xs ≡ cut 32 32 (length xs) []
      → Puts room vals rows [] xs start all ys d
      → Walks rows vals xs ys d
  unfolding frame resume
  puts_walk rows vals xs all ys d few sized empty puts =
      let ran = puts_run vals vals refl sized (omega arith) puts in
      record { says = ran.comes; fills = λ ok. (ran.laid ok [] refl empty).0; drawn = λ ok. (ran.laid ok [] refl empty).1 }

  -- A list's writing: zeros behind the boxes.
  pub puts_bare : (rows : List Row) (vals xs ys : List ℕ) (d : Standing) → Walks rows vals xs ys d
      → write_bare rows room vals ≡ tells d (laid_on [] (frame rows vals) vals ++ zeros (room - d.at))
  puts_bare rows vals xs ys d w =
      bare_writes rows room vals
      ∙ ap (λ (o : Outcome (List ℕ)). and_then o (λ all end. done (laid_on [] (frame rows vals) vals ++ zeros (room - end)) end)) w.says
      ∙ go (eqb d.why 0)
    where
      go : (b : Bool)
          → and_then (pick b (done vals d.at) (refused d.why d.at (d.field - 1))) (λ all end. done (laid_on [] (frame rows vals) vals ++ zeros (room - end)) end)
          ≡ pick b (done (laid_on [] (frame rows vals) vals ++ zeros (room - d.at)) d.at) (refused d.why d.at (d.field - 1))
      go true = refl
      go false = refl

  -- A writing that is refused at a field,
  pub puts_refused : (rows : List Row) (vals xs ys : List ℕ) (m : List Bool) (d : Standing) → Walks rows vals xs ys d
      → (d.why ≡ 0 → ⊥)
      → write rows room (record { numbers = vals; margin = m }) ≡ refused d.why d.at (d.field - 1)
  unfolding write
  puts_refused rows vals xs ys m d w why = rw (w.says, ne_eqb _ _ why)

  -- and one with its margin.
  pub puts_kept : (rows : List Row) (vals xs ys zs : List ℕ) (m : List Bool) (d e : Standing) → Walks rows vals xs ys d
      → d.why ≡ 0
      → Kept ys zs room d m e
      → (write rows room (record { numbers = vals; margin = m }) ≡ tells e (laid_on [] (frame rows vals) vals ++ take (room - d.at) (drop d.at m)))
      × (e.why ≡ 0 → zs ≡ cut 32 32 (length xs) (laid_on [] (frame rows vals) vals ++ take (room - d.at) (drop d.at m)))
  unfolding write
  puts_kept rows vals xs ys zs m d e w ok kept =
      let bits : List Bool = laid_on [] (frame rows vals) vals in
      let long : length ys ≡ length xs = ap length (w.drawn ok) ∙ length_cut 32 32 (length xs) bits in (
        rw (w.says, eq-eqb _ _ ok) (kept.says (bits ++ take (room - d.at) (drop d.at m))),
        λ done. rw long at (kept.laid done bits (w.fills ok) (rw long (w.drawn ok))),
      )

-- Two lines of takes are one.
pub takes_append : {words : List ℕ} {end : ℕ} {rows more : List Row} {seen : List ℕ} {c : Standing} {some : List ℕ} {d : Standing} {all : List ℕ} {e : Standing}
    → Takes words end rows seen c some d
    → Takes words end more some d all e
    → Takes words end (rows ++ more) seen c all e
takes_append taken rest = rest
takes_append (took ▸ others) rest = took ▸ takes_append others rest

-- Puts leave a draft as long as it was.
pub puts_long : {room : ℕ} {vals : List ℕ} {rows : List Row} {seen xs : List ℕ} {c : Standing} {all ys : List ℕ} {d : Standing}
    → Puts room vals rows seen xs c all ys d
    → length ys ≡ length xs
puts_long given = refl
puts_long (gave ◂ rest) = puts_long rest ∙ gave.long

-- Two lines of puts are one.
pub puts_append : {room : ℕ} {vals : List ℕ} {rows more : List Row} {seen xs : List ℕ} {c : Standing} {some ys : List ℕ} {d : Standing} {all zs : List ℕ} {e : Standing}
    → Puts room vals rows seen xs c some ys d
    → Puts room vals more some ys d all zs e
    → Puts room vals (rows ++ more) seen xs c all zs e
puts_append given rest = rest
puts_append (gave ◂ others) rest = gave ◂ puts_append others rest

-- After a refusal the rest of a table changes nothing.
pub stopped : {words : List ℕ} {end : ℕ} {c : Standing} → Ready words end c → (c.why ≡ 0 → ⊥)
    → (rows : List Row) (seen : List ℕ)
    → Takes words end rows seen c seen c
stopped ready why [] seen = taken
stopped {words} {end} {c} ready why (r ∷ rs) seen =
    let rest : Takes words end rs (seen ++ []) c seen c = rw (append-nil seen) (stopped ready why rs seen) in
    took_refused words end c _ r.boxes r.rule [] ready why ▸ rest

-- Takes of rows that are all absent: the cursor counts them, and stays where it is.
pub record Skips (words : List ℕ) (end : ℕ) (rows : List Row) (seen : List ℕ) (c : Standing) (all : List ℕ) : Type 0 where
  pub last : Standing
  pub takes : Takes words end rows seen c all last
  pub ready : Ready words end last
  pub clear : last.why ≡ 0
  pub here : last.at ≡ c.at

module _ {words : List ℕ} {end : ℕ} {c : Standing} where
  pub skips_none : Ready words end c → c.why ≡ 0 → (seen : List ℕ) → Skips words end [] seen c seen
  skips_none ready clear seen = record { last = c; takes = taken; ready = ready; clear = clear; here = refl }

  pub skips_more : {ws : List ℕ} {k : Cond} {rule : Rule} {rs : List Row} {seen all : List ℕ}
      → Ready words end c
      → c.why ≡ 0
      → holds (told k seen) ≡ false
      → ((d : Standing) → Ready words end d → d.why ≡ 0 → Skips words end rs (seen ++ map (λ (w : ℕ). 0) ws) d all)
      → Skips words end (record { boxes = ws; cond = k; rule = rule } ∷ rs) seen c all
  skips_more {ws} {k} {rule} {seen} ready clear absent rest =
      let took : Took words end c (told k seen) ws rule (map (λ (w : ℕ). 0) ws) (passes c 1 0 0) =
      took_absent words end c (told k seen) ws rule (map (λ (w : ℕ). 0) ws) (passes c 1 0 0) ready clear absent refl refl in
      let others = rest (passes c 1 0 0) took.ready refl in
      record {
        last = others.last;
        takes = took ▸ others.takes;
        ready = others.ready;
        clear = others.clear;
        here = others.here ∙ omega arith;
      }

  -- So the end of a reading behind them is that before them.
  pub skips_ended : {rows : List Row} {seen all : List ℕ} (e : Standing) (s : Skips words end rows seen c all)
      → c.why ≡ 0
      → Ended words end c e
      → Ended words end s.last e
  skips_ended e s clear ended = ended_there words end c s.last e clear s.clear s.here ended
