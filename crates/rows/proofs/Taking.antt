-- What shows that a take of a field, of whatever boxes and rule, is the step that the field's row means.
use Rattle.std.proofs.Common.{◌≡◌, ℕ, zero, suc, ◌+◌, ◌-◌, ◌*◌, ◌/◌, ◌%◌, ◌^◌, ◌<◌, ◌≤◌, Bool, true, false, eqb, List, [], ◌∷◌, ◌++◌, map, length, take, drop, set, replicate, sym, refl, ap, ◌∙◌, subst, append_assoc, add-one, arith, length-drop, length-take-le, drop-drop, take-suc-set, eq-eqb, ne_eqb}
use Rattle.bits.specs.Bits.{number, cut, cleared, leading}
use Rattle.bits.specs.Inner.Words.{number_at}
use Rattle.bits.proofs.Spelling.{number_lt}
use Rattle.bits.proofs.Clearing.{leading-cleared, length-cleared}
use Rattle.bits.proofs.Cutting.{number_at_law}
use Rattle.bits.proofs.Fronts.{part, part_part, part_take}
use Rattle.rows.proofs.Boxes.{numbers_fit}
use Rattle.rows.proofs.Stepping.{admit_step, admitted_within, admitted_number, admitted_counted, admitted_none, admitted_past, broken_none, total_none, total_same}
use Rattle.rows.specs.Row.{pick, holds, broken}
use Rattle.rows.specs.Walk.{total, there, numbers, boxes_at, blank}
use Rattle.rows.specs.Inner.Step.{stays, passes, admitted, resume, Ready, Took, Ended, letters_at}
use Rattle.rows.specs.Inner.Standing.{Standing}
use Rattle.rows.specs.declared.When.{When}
use Rattle.rows.specs.declared.Rule.{Rule}
use Rattle.rows.specs.declared.Rule.TheVariants.{Any, Tariff}

-- A take is shown by what its words hold: the rule's refusal where the field has room, its numbers where it has no fault.
pub took : (words : List ℕ) (end : ℕ) (c : Standing) (t : When) (ws : List ℕ) (rule : Rule) (vs : List ℕ) (W n v : ℕ) (d : Standing)
    → Ready words end c
    → W ≡ total (there t ws)
    → ((bs : List Bool) → length bs ≡ end → words ≡ cut 32 64 (length words) bs → c.at + W ≤ end
    → (broken rule (numbers (there t ws) (drop c.at bs)) ≡ n) × (d.why ≡ 0 → numbers (there t ws) (drop c.at bs) ≡ vs))
    → d ≡ admitted c end W false n v
    → Took words end c t ws rule vs d
took words end c t ws rule vs W n v d ready width holds is =
    record {
      ready = record { within = rw is (admitted_within c end W false n v ready.within); covered = ready.covered };
      counted = rw is (admitted_counted c end W false n v);
      step = λ bs long cuts k rs seen told small.
          rw (is, width)
          (admit_step end (boxes_at bs) c t ws rule vs false n v k rs seen told small (numbers_fit (there t ws) (drop c.at bs))
          (λ room. (holds bs long cuts (rw width room)).0)
          (λ room ok. (holds bs long cuts (rw width room)).1 (rw (is, width) ok)));
    }

-- After a refusal nothing is taken.
pub took_refused : (words : List ℕ) (end : ℕ) (c : Standing) (t : When) (ws : List ℕ) (rule : Rule) (vs : List ℕ)
    → Ready words end c
    → (c.why ≡ 0 → ⊥)
    → Took words end c t ws rule vs c
unfolding resume
took_refused words end c t ws rule vs ready why =
    record { ready = ready; counted = omega arith; step = λ bs long cuts k rs seen told small. rw (ne_eqb _ _ why) }

-- A field that is absent has boxes of no bits, which hold zeros.
pub numbers_none : (ws : List ℕ) (bs : List Bool) → numbers (map (λ (w : ℕ). 0) ws) bs ≡ map (λ (w : ℕ). 0) ws
numbers_none [] bs = refl
numbers_none (w ∷ ws) bs = ap (λ (l : List ℕ). 0 ∷ l) (numbers_none ws bs)

pub took_absent : (words : List ℕ) (end : ℕ) (c : Standing) (t : When) (ws : List ℕ) (rule : Rule) (vs : List ℕ) (d : Standing)
    → Ready words end c
    → c.why ≡ 0
    → holds t ≡ false
    → vs ≡ map (λ (w : ℕ). 0) ws
    → d ≡ passes c 1 0 0
    → Took words end c t ws rule vs d
took_absent words end c t ws rule vs d ready clear absent zeros is =
    took words end c t ws rule vs 0 0 0 d ready
    (rw absent (sym (total_none ws)))
    (λ bs long cuts room.
    let gives : numbers (there t ws) (drop c.at bs) ≡ map (λ (w : ℕ). 0) ws = rw absent (numbers_none ws (drop c.at bs)) in
    (ap (broken rule) gives ∙ broken_none rule ws, λ _. gives ∙ sym zeros))
    (is ∙ admitted_none c end ready.within clear)

-- A field that runs past the end.
pub took_past : (words : List ℕ) (end : ℕ) (c : Standing) (t : When) (ws : List ℕ) (rule : Rule) (vs : List ℕ) (d : Standing)
    → Ready words end c
    → c.why ≡ 0
    → end < c.at + total (there t ws)
    → d ≡ stays c 2 0
    → Took words end c t ws rule vs d
took_past words end c t ws rule vs d ready clear long is =
    took words end c t ws rule vs (total (there t ws)) 0 0 d ready refl
    (λ bs size cuts room. absurd (omega arith))
    (is ∙ admitted_past c end (total (there t ws)) clear long)

-- What is read from the words is what the bits hold.
held : (words : List ℕ) (end : ℕ) (c : Standing) (h v : ℕ) (bs : List Bool)
    → Ready words end c
    → h ≤ 32
    → v ≡ number_at words c.at h
    → length bs ≡ end
    → words ≡ cut 32 64 (length words) bs
    → c.at + h ≤ end
    → v ≡ number (take h (drop c.at bs))
held words end c h v bs ready narrow reads long cuts room =
    let covered : c.at / 32 < length words = omega (arith, ready.within, ready.covered) in
    reads ∙ rw cuts (number_at_law (length words) bs c.at h covered narrow (rw long room))

pub took_box : (words : List ℕ) (end : ℕ) (c : Standing) (t : When) (w : ℕ) (rule : Rule) (v n : ℕ) (d : Standing)
    → Ready words end c
    → w ≤ 32
    → holds t ≡ true
    → v ≡ number_at words c.at w
    → n ≡ broken rule (v ∷ [])
    → d ≡ admitted c end w false n v
    → Took words end c t (w ∷ []) rule (d.number ∷ []) d
took_box words end c t w rule v n d ready narrow present reads ruled is =
    let gave : d.number ≡ v = ap (λ (x : Standing). x.number) is ∙ admitted_number c end w false n v in
    subst (λ (x : ℕ). Took words end c t (w ∷ []) rule (x ∷ []) d) (sym gave)
    (took words end c t (w ∷ []) rule (v ∷ []) w n v d ready
    (rw present (omega arith))
    (λ bs long cuts room.
    let gives : numbers (there t (w ∷ [])) (drop c.at bs) ≡ v ∷ [] = rw (present, ← (held words end c w v bs ready narrow reads long cuts room)) in
    (ap (broken rule) gives ∙ sym ruled, λ _. gives))
    is)

-- A part of a number's bits is a part of the number.
part_of : (ds : List Bool) (n o w r : ℕ) → o + w + r ≡ n → n ≤ length ds → number (take w (drop o ds)) ≡ number (take n ds) / 2 ^ r % 2 ^ w
part_of ds n o w r e long =
    let whole : part n 0 ds ≡ number (take n ds) = part_take n 0 ds (omega arith) in
    let here : 0 + o ≡ o = omega arith in
    let one : part n 0 ds / 2 ^ r % 2 ^ w ≡ part w o ds = rw here at (part_part o w r n 0 ds e) in
    sym (part_take w o ds (omega arith)) ∙ sym one ∙ rw whole

tariff_held : (ds : List Bool) (v : ℕ)
    → 16 ≤ length ds
    → v ≡ number (take 16 ds)
    → numbers (4 ∷ 8 ∷ 4 ∷ []) ds ≡ v / 4096 ∷ v / 16 % 256 ∷ v % 16 ∷ []
tariff_held ds v long e =
    let small : v < 2 ^ 16 = rw e (rw (length-take-le 16 ds long) at (number_lt (take 16 ds))) in
    let key : number (take 4 ds) ≡ v / 4096 = part_of ds 16 0 4 12 refl long ∙ rw (← e) (omega arith) in
    let type : number (take 8 (drop 4 ds)) ≡ v / 16 % 256 = part_of ds 16 4 8 4 refl long ∙ rw (← e) (omega arith) in
    let priority : number (take 4 (drop 8 (drop 4 ds))) ≡ v % 16 =
    ap (λ (l : List Bool). number (take 4 l)) (drop-drop 8 4 ds) ∙ part_of ds 16 12 4 0 refl long ∙ rw (← e) (omega arith) in
    rw (key, type, priority)

pub took_tariff : (words : List ℕ) (end : ℕ) (c : Standing) (t : When) (v n : ℕ) (d : Standing)
    → Ready words end c
    → holds t ≡ true
    → v ≡ number_at words c.at 16
    → n ≡ pick (eqb (v % 16) 13) 4 0
    → d ≡ admitted c end 16 false n v
    → Took words end c t (4 ∷ 8 ∷ 4 ∷ []) Tariff (v / 4096 ∷ v / 16 % 256 ∷ v % 16 ∷ []) d
took_tariff words end c t v n d ready present reads ruled is =
    took words end c t (4 ∷ 8 ∷ 4 ∷ []) Tariff _ 16 n v d ready
    (rw present)
    (λ bs long cuts room.
    let gives : numbers (there t (4 ∷ 8 ∷ 4 ∷ [])) (drop c.at bs) ≡ v / 4096 ∷ v / 16 % 256 ∷ v % 16 ∷ [] =
    rw present
    (tariff_held (drop c.at bs) v (rw (length-drop c.at bs) (omega arith))
    (held words end c 16 v bs ready (omega arith) reads long cuts room)) in
    (ap (broken Tariff) gives ∙ sym ruled, λ _. gives))
    is

-- The same of numbers that were read with others, as parts of one: what the bits hold is shown otherwise.
pub held_part : (words : List ℕ) (end : ℕ) (c : Standing) (h v o w r : ℕ) (bs : List Bool)
    → Ready words end c
    → h ≤ 32
    → o + w + r ≡ h
    → v ≡ number_at words c.at h
    → length bs ≡ end
    → words ≡ cut 32 64 (length words) bs
    → c.at + h ≤ end
    → v / 2 ^ r % 2 ^ w ≡ number (take w (drop (c.at + o) bs))
held_part words end c h v o w r bs ready narrow parts reads long cuts room =
    rw (held words end c h v bs ready narrow reads long cuts room, ← drop-drop o c.at bs)
    (sym (part_of (drop c.at bs) h o w r parts (rw (length-drop c.at bs) (omega arith))))

pub took_box_held : (words : List ℕ) (end : ℕ) (c : Standing) (t : When) (w : ℕ) (rule : Rule) (v n x : ℕ) (d : Standing)
    → Ready words end c
    → holds t ≡ true
    → ((bs : List Bool) → length bs ≡ end → words ≡ cut 32 64 (length words) bs → v ≡ number (take w (drop c.at bs)))
    → n ≡ broken rule (v ∷ [])
    → d ≡ admitted c end w false n x
    → Took words end c t (w ∷ []) rule (v ∷ []) d
took_box_held words end c t w rule v n x d ready present hold ruled is =
    took words end c t (w ∷ []) rule (v ∷ []) w n x d ready
    (rw present (omega arith))
    (λ bs long cuts room.
    let gives : numbers (there t (w ∷ [])) (drop c.at bs) ≡ v ∷ [] = rw (present, ← (hold bs long cuts)) in
    (ap (broken rule) gives ∙ sym ruled, λ _. gives))
    is

pub took_tariff_held : (words : List ℕ) (end : ℕ) (c : Standing) (t : When) (v n x : ℕ) (d : Standing)
    → Ready words end c
    → holds t ≡ true
    → ((bs : List Bool) → length bs ≡ end → words ≡ cut 32 64 (length words) bs → v ≡ number (take 16 (drop c.at bs)))
    → n ≡ pick (eqb (v % 16) 13) 4 0
    → d ≡ admitted c end 16 false n x
    → Took words end c t (4 ∷ 8 ∷ 4 ∷ []) Tariff (v / 4096 ∷ v / 16 % 256 ∷ v % 16 ∷ []) d
took_tariff_held words end c t v n x d ready present hold ruled is =
    took words end c t (4 ∷ 8 ∷ 4 ∷ []) Tariff _ 16 n x d ready
    (rw present)
    (λ bs long cuts room.
    let gives : numbers (there t (4 ∷ 8 ∷ 4 ∷ [])) (drop c.at bs) ≡ v / 4096 ∷ v / 16 % 256 ∷ v % 16 ∷ [] =
    rw present (tariff_held (drop c.at bs) v (rw (length-drop c.at bs) (omega arith)) (hold bs long cuts)) in
    (ap (broken Tariff) gives ∙ sym ruled, λ _. gives))
    is

-- One more letter.
pub spelt_more : (words : List ℕ) (at w n : ℕ) (letters : List ℕ) (i place : ℕ)
    → i < n
    → length letters ≡ n
    → letters_at words at w n ≡ take i letters ++ letters_at words place w (n - i)
    → letters_at words at w n ≡ take (i + 1) (set letters i (number_at words place w)) ++ letters_at words (place + w) w (n - (i + 1))
spelt_more words at w n letters i place h long so =
    let left : n - i ≡ suc (n - (i + 1)) = omega arith in
    let inside : i < length letters = omega arith in
    (rw left at so) ∙ rw (add-one i, take-suc-set letters i (number_at words place w) inside, append_assoc)

letters_held : (words : List ℕ) (bs : List Bool) (at w n : ℕ)
    → w ≤ 32
    → (at + w * n) / 32 < length words
    → at + w * n ≤ length bs
    → words ≡ cut 32 64 (length words) bs
    → numbers (replicate n w) (drop at bs) ≡ letters_at words at w n
letters_held words bs at w zero narrow covered room cuts = refl
letters_held words bs at w (suc n) narrow covered room cuts =
    let one : number_at words at w ≡ number (take w (drop at bs)) = rw cuts (number_at_law (length words) bs at w (omega arith) narrow (omega arith)) in
    let rest = letters_held words bs (at + w) w n narrow (omega arith) (omega arith) cuts in
    rw (one, drop-drop w at bs, rest)

pub took_text : (words : List ℕ) (end : ℕ) (c : Standing) (t : When) (letters : List ℕ) (n : ℕ) (d : Standing)
    → Ready words end c
    → holds t ≡ true
    → letters ≡ letters_at words c.at 5 n
    → d ≡ admitted c end (n * 5) false 0 0
    → Took words end c t (replicate n 5) Any letters d
took_text words end c t letters n d ready present spelt is =
    took words end c t (replicate n 5) Any letters (n * 5) 0 0 d ready
    (rw present (sym (total_same n 5)))
    (λ bs long cuts room. (
      refl,
      λ ok. rw present
          (letters_held words bs c.at 5 n (omega arith) (omega (arith, ready.within, ready.covered)) (omega arith) cuts ∙ sym spelt),
    ))
    is

-- The end of a reading after a refusal, at the end of the bits, and at a one before it.
pub ended_refused : (words : List ℕ) (end : ℕ) (c : Standing) → (c.why ≡ 0 → ⊥) → Ended words end c c
unfolding resume
ended_refused words end c why = record { says = λ bs long cuts seen. rw (ne_eqb _ _ why) }

module _ (words : List ℕ) (end : ℕ) (c : Standing) (one : ℕ)
    (clear : c.why ≡ 0)
    (within : c.at ≤ end)
    (found : (bs : List Bool) → length bs ≡ end → words ≡ cut 32 64 (length words) bs → one ≡ c.at + leading (drop c.at bs)) where
  -- What was found is the first one of the margin.
  first_left : (bs : List Bool) → length bs ≡ end → words ≡ cut 32 64 (length words) bs → leading (cleared c.at bs) ≡ one
  first_left bs long cuts = leading-cleared c.at bs ∙ sym (found bs long cuts)

  all_left : (bs : List Bool) → length bs ≡ end → length (cleared c.at bs) ≡ end
  all_left bs long = length-cleared c.at bs (rw long within) ∙ long

  pub ended_done : one ≡ end → Ended words end c c
  unfolding resume blank
  ended_done last =
      record {
        says = λ bs long cuts seen.
            rw (eq-eqb _ _ clear, eq-eqb _ _ (first_left bs long cuts ∙ last ∙ sym (all_left bs long)));
      }

  pub ended_five : (one ≡ end → ⊥) → Ended words end c (record { at = one; why = 5; field = 0; number = 0 })
  unfolding resume blank
  ended_five short =
      record {
        says = λ bs long cuts seen.
            rw (eq-eqb _ _ clear, ne_eqb _ _ (λ e. short (sym (first_left bs long cuts) ∙ e ∙ all_left bs long)), first_left bs long cuts);
      }

-- Of two cursors without a refusal at one place the end is one.
pub ended_there : (words : List ℕ) (end : ℕ) (c d e : Standing) → c.why ≡ 0 → d.why ≡ 0 → d.at ≡ c.at → Ended words end c e → Ended words end d e
unfolding resume
ended_there words end c d e clear same here ended =
    record { says = λ bs long cuts seen. rw (eq-eqb _ _ same, here) (rw (eq-eqb _ _ clear) at (ended.says bs long cuts seen)) }
