-- Laws that both lists share: the line of an entry's takes or puts, and from the line of a whole list to the answer.
use Prim.Native.Nat.{ℕ, suc, ◌-◌, ◌^◌, ◌<◌}
use mathlib.Core.List.{List, [], ◌∷◌, ◌++◌, map, append_assoc}
use mathlib.Core.Bool.{Bool, true, false, not, ◌||◌}
use mathlib.Core.Path.{◌≡◌, refl, sym, ap, ◌∙◌}
use native.Mathlib.Omega.{arith}
use lib.Dec.{eqb}
use lib.ListN.{length, get_or, take, drop, length-append, length-map}
use lib.Seq.{get_or_at, drop-drop, drop-append_seam, take-append_seam}
use borrow.Author.Tests.{eq-eqb, ne_eqb, eqb-true, eqb-false}
use Rattle.bits.specs.Bits.{cut, spread, zeros}
use Rattle.bits.proofs.Cutting.{length-spread, cut_pad}
use Rattle.rows.specs.Row.{Row, pick, above, bit}
use Rattle.rows.specs.Walk.{Outcome, done, refused, and_then, frame, laid_on, slots}
use Rattle.rows.specs.Inner.Step.{Took, Gave, Ended, Packed}
use Rattle.rows.specs.Inner.Line.{start, Takes, ◌▸◌, Taken, Puts, ◌◂◌, tells}
use Rattle.rows.specs.Inner.Standing.{Standing}
use Rattle.rows.specs.declared.Rule.{Rule}
use Rattle.rows.specs.declared.When.TheVariants.{Bit, Above}
use Rattle.rows.proofs.Running.{takes_bare, puts_walk, puts_bare}
use Rattle.records.specs.Answer.{refusal, denied, written, answered}
use Rattle.records.specs.Inner.Met.{met}
use Rattle.records.proofs.Answering.{all_words, packed_answer}
use Rattle.lists.specs.Listing.{obeying, read_list, write_list}
use Rattle.lists.specs.List.{fairly}
use Rattle.lists.specs.Inner.Steps.{obeyed, tallied}
use Rattle.records.specs.Answer.{Answer}

-- The length of an array of structs, which the checker knows of a list mapped from it.
pub length_of_map : (A B : Type 0) (f : A → B) (l : List A) (n : ℕ) → length (map f l) ≡ n → length l ≡ n
length_of_map A B f l n h = sym (length-map l f) ∙ h

-- An entry's fields, the numbers seen before it being so many, with the count in front.
module _ {words : List ℕ} {end : ℕ} (seen : List ℕ) (n count : ℕ) (long : length seen ≡ n) (counted : get_or seen 0 0 ≡ count) where
  -- its bitmap
  pub take_bitmap : {ws : List ℕ} {k : ℕ} {rule : Rule} {rs : List Row} {c : Standing} {b : ℕ} {e : Standing} {all : List ℕ} {d : Standing}
      → Took words end c (Above count k) ws rule (b ∷ []) e
      → Takes words end rs (seen ++ (b ∷ [])) e all d
      → Takes words end (record { boxes = ws; cond = above 0 k; rule = rule } ∷ rs) seen c all d
  take_bitmap took rest = (rw (← counted) at took) ▸ rest

  -- an element, some numbers after the bitmap
  pub take_element : {ws : List ℕ} {j : ℕ} {rule : Rule} {rs : List Row} {c : Standing} {b : ℕ} {vs : List ℕ} {e : Standing} {all : List ℕ} {d : Standing} (some : List ℕ)
      → Took words end c (Bit b j) ws rule vs e
      → Takes words end rs (seen ++ (b ∷ (some ++ vs))) e all d
      → Takes words end (record { boxes = ws; cond = bit n j; rule = rule } ∷ rs) (seen ++ (b ∷ some)) c all d
  take_element {b} {vs} some took rest =
      (rw (← get_or_at seen b some 0 n long) at took) ▸ (rw (← append_assoc seen (b ∷ some) vs) at rest)

-- The same of puts, the numbers from slot n on being the entry's.
module _ {room : ℕ} (vals seen : List ℕ) (n count : ℕ) (long : length seen ≡ n) (counted : get_or seen 0 0 ≡ count) where
  pub put_bitmap : {w k : ℕ} {rule : Rule} {rs : List Row} {xs zs : List ℕ} {c : Standing} {b : ℕ} {more : List ℕ} {e : Standing} {all ys : List ℕ} {d : Standing}
      → drop n vals ≡ b ∷ more
      → Gave xs zs room c (Above count k) (w ∷ []) rule (b ∷ []) e
      → Puts room vals rs (seen ++ (b ∷ [])) zs e all ys d
      → Puts room vals (record { boxes = w ∷ []; cond = above 0 k; rule = rule } ∷ rs) seen xs c all ys d
  put_bitmap {b} split gave rest =
      let own : take 1 (drop (length seen) vals) ≡ b ∷ [] = rw (long, split) in
      (rw (← counted, ← own) at gave) ◂ (rw (← own) at rest)

  pub put_element : {ws : List ℕ} {j : ℕ} {rule : Rule} {rs : List Row} {xs zs : List ℕ} {c : Standing} {b : ℕ} {vs : List ℕ} {e : Standing} {all ys : List ℕ} {d : Standing} (some more : List ℕ)
      → drop n vals ≡ b ∷ (some ++ (vs ++ more))
      → length ws ≡ length vs
      → Gave xs zs room c (Bit b j) ws rule vs e
      → Puts room vals rs (seen ++ (b ∷ (some ++ vs))) zs e all ys d
      → Puts room vals (record { boxes = ws; cond = bit n j; rule = rule } ∷ rs) (seen ++ (b ∷ some)) xs c all ys d
  put_element {ws} {b} {vs} some more split fit gave rest =
      let own : take (length ws) (drop (length (seen ++ (b ∷ some))) vals) ≡ vs =
      rw (length-append seen (b ∷ some), long, ← drop-drop (suc (length some)) n vals, split, drop-append_seam some (vs ++ more), fit) (take-append_seam vs more) in
      (rw (← get_or_at seen b some 0 n long, ← own) at gave) ◂ (rw (← append_assoc seen (b ∷ some) vs, ← own) at rest)

-- The rule after all else, of an outcome and of a cursor.
obeys_tells : {A : Type 0} (fault : A → ℕ) (c : Standing) (a : A)
    → and_then (tells c a) (λ x end. obeying (fault x) x end) ≡ tells (obeyed c (fault a)) a
obeys_tells fault c a = go (eqb c.why 0) refl (eqb (fault a) 0) refl
  where
    go : (b : Bool) → eqb c.why 0 ≡ b → (t : Bool) → eqb (fault a) 0 ≡ t
        → and_then (pick b (done a c.at) (refused c.why c.at (c.field - 1))) (λ x end. obeying (fault x) x end)
        ≡ tells (pick b (pick t c (record { at = fault a; why = 6; field = 0; number = 0 })) c) a
    go true e true h = rw (e, h)
    go true e false h = rw h
    go false e t h = rw e

-- The tally after that, of an answer and of a cursor.
fair_tells : (is_fair : Bool) (before : List ℕ) (c : Standing) (bits : List Bool)
    → fairly is_fair before (written before (tells c bits)) ≡ written before (tells (tallied c is_fair) bits)
fair_tells is_fair before c bits = go (eqb c.why 0) refl is_fair
  where
    go : (b : Bool) → eqb c.why 0 ≡ b → (f : Bool)
        → fairly f before (written before (pick b (done bits c.at) (refused c.why c.at (c.field - 1))))
        ≡ written before (tells (pick (f || not b) c (record { at = 0; why = 6; field = 0; number = 0 })) bits)
    go true e true = rw e
    go true e false = refl
    go false e true = rw e
    go false e false = rw e

-- Both only refuse.
tallied_clear : (c : Standing) (f : Bool) → (tallied c f).why ≡ 0 → c.why ≡ 0
tallied_clear c f = go (f || not (eqb c.why 0))
  where
    go : (b : Bool) → (pick b c (record { at = 0; why = 6; field = 0; number = 0 })).why ≡ 0 → c.why ≡ 0
    go true ok = ok
    go false ok = absurd (omega arith)

obeyed_clear : (c : Standing) (k : ℕ) → (obeyed c k).why ≡ 0 → c.why ≡ 0
obeyed_clear c k = go (eqb c.why 0) refl
  where
    go : (b : Bool) → eqb c.why 0 ≡ b → (pick b (pick (eqb k 0) c (record { at = k; why = 6; field = 0; number = 0 })) c).why ≡ 0 → c.why ≡ 0
    go true e ok = eqb-true c.why 0 e
    go false e ok = ok

-- And the rule finds no fault where nothing is refused.
pub obeyed_none : (c : Standing) (k : ℕ) → (obeyed c k).why ≡ 0 → k ≡ 0
obeyed_none c k = go (eqb c.why 0) refl (eqb k 0) refl
  where
    go : (b : Bool) → eqb c.why 0 ≡ b → (t : Bool) → eqb k 0 ≡ t
        → (pick b (pick t c (record { at = k; why = 6; field = 0; number = 0 })) c).why ≡ 0 → k ≡ 0
    go true e true h ok = eqb-true k 0 h
    go true e false h ok = absurd (omega arith)
    go false e t h ok = absurd (eqb-false _ _ e ok)

module _ {A : Type 0} (good : List ℕ → A) (bad : Answer → A) (fault : List ℕ → ℕ) (outside : Bool) (rows : List Row) (bytes : List ℕ) where
  pub list_short : (length bytes ≡ 29 → ⊥) → bad (refusal 1 0) ≡ read_list good bad fault outside rows bytes
  unfolding read_list
  list_short short = rw (ne_eqb _ _ short)

  pub list_outside : length bytes ≡ 29 → outside ≡ true → bad (refusal 11 0) ≡ read_list good bad fault outside rows bytes
  unfolding read_list
  list_outside whole out = rw (eq-eqb _ _ whole, out)

  module _ (words all : List ℕ) (d e f : Standing)
      (few : length rows < 2 ^ 32)
      (whole : length bytes ≡ 29)
      (inside : outside ≡ false)
      (cuts : words ≡ cut 32 64 8 (spread 8 bytes))
      (taken : Taken words 232 rows [] start all d)
      (ended : Ended words 232 d e)
      (ruled : f ≡ obeyed e (fault all)) where
    says : read_list good bad fault outside rows bytes ≡ answered good bad (tells f all)
    unfolding read_list
    says =
        let long : length (spread 8 bytes) ≡ 232 = rw (length-spread 8 bytes, whole) in
        rw (eq-eqb _ _ whole, inside, ruled)
        (ap (λ (o : Outcome (List ℕ)). answered good bad (and_then o (λ vals end. obeying (fault vals) vals end)))
        (takes_bare words 232 (spread 8 bytes) long (all_words bytes words cuts) rows all d e few taken.takes ended)
        ∙ ap (answered good bad) (obeys_tells fault e all))

    pub list_read_law : f.why ≡ 0 → good all ≡ read_list good bad fault outside rows bytes
    list_read_law ok = sym (says ∙ rw (eq-eqb _ _ ok))

    pub list_refused : (f.why ≡ 0 → ⊥) → bad (met f) ≡ read_list good bad fault outside rows bytes
    list_refused why = sym (says ∙ rw (ne_eqb _ _ why))

module _ (fault : List ℕ → ℕ) (outside : Bool) (rows : List Row) (vals before : List ℕ) where
  pub list_unwritten : (length before ≡ 29 → ⊥) → denied (refusal 1 0) before ≡ write_list fault outside rows vals before
  unfolding write_list
  list_unwritten short = rw (ne_eqb _ _ short)

  pub list_unwritten_outside : length before ≡ 29 → outside ≡ true → denied (refusal 11 0) before ≡ write_list fault outside rows vals before
  unfolding write_list
  list_unwritten_outside whole out = rw (eq-eqb _ _ whole, out)

  -- These stand before the tally is looked at.
  pub fairly_unwritten : (is_fair : Bool) (r : Answer) → eqb r.number 0 ≡ false → denied r before ≡ write_list fault outside rows vals before
      → denied r before ≡ fairly is_fair before (write_list fault outside rows vals before)
  fairly_unwritten is_fair r some e = rw (← e, some)

  module _ (xs all ys : List ℕ) (d f : Standing)
      (few : length rows < 2 ^ 32)
      (whole : length before ≡ 29)
      (inside : outside ≡ false)
      (sized : length vals ≡ slots rows)
      (empty : xs ≡ cut 32 32 (length xs) [])
      (puts : Puts 232 vals rows [] xs start all ys d)
      (ruled : f ≡ obeyed d (fault vals)) where
    bits : List Bool
    bits = laid_on [] (frame rows vals) vals

    says_written : write_list fault outside rows vals before ≡ written before (tells f (bits ++ zeros (232 - d.at)))
    unfolding bits write_list
    says_written =
        rw (eq-eqb _ _ whole, inside, ruled)
        (ap (λ (o : Outcome (List Bool)). written before (and_then o (λ bs end. obeying (fault vals) bs end)))
        (puts_bare 232 rows vals xs ys d (puts_walk 232 rows vals xs all ys d few sized empty puts))
        ∙ ap (written before) (obeys_tells (λ bs. fault vals) d (bits ++ zeros (232 - d.at))))

    drawn : f.why ≡ 0 → ys ≡ cut 32 32 (length xs) (bits ++ zeros (232 - d.at))
    unfolding bits
    drawn ok =
        (puts_walk 232 rows vals xs all ys d few sized empty puts).drawn (obeyed_clear d (fault vals) (rw ruled at ok))
        ∙ sym (cut_pad 32 32 (length xs) (232 - d.at) bits)

    pub list_written : {after : List ℕ} → Packed ys f before after → record { answer = met f; bytes = after } ≡ write_list fault outside rows vals before
    list_written packed = sym (says_written ∙ packed_answer xs ys before _ f (bits ++ zeros (232 - d.at)) packed drawn)

    pub list_tallied : {after : List ℕ} (is_fair : Bool) (g : Standing) → g ≡ tallied f is_fair → Packed ys g before after
        → record { answer = met g; bytes = after } ≡ fairly is_fair before (write_list fault outside rows vals before)
    list_tallied is_fair g last packed =
        sym
        (ap (fairly is_fair before) says_written
        ∙ fair_tells is_fair before f (bits ++ zeros (232 - d.at))
        ∙ rw (← last) (packed_answer xs ys before _ g (bits ++ zeros (232 - d.at)) packed (λ ok. drawn (tallied_clear f is_fair (rw last at ok)))))
