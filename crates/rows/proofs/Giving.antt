-- What shows that a put of a field, of whatever boxes and rule, is the step that the field's row means.
use Rattle.std.proofs.Common.{◌≡◌, ℕ, zero, suc, ◌+◌, ◌*◌, ◌/◌, ◌^◌, ◌<◌, ◌≤◌, Bool, true, false, ◌||◌, eqb, ltb, List, [], ◌∷◌, ◌++◌, map, length, get_or, take, replicate, sym, refl, ap, ◌∙◌, true≢false, append_assoc, append-nil, add-one, arith, length-append, length-take-le, take-suc, pow_pos, ltb-true, lt-ltb, eq-eqb, ne_eqb}
use Rattle.std.specs.List.{list_any}
use lib.ListN.{length-replicate}
use Rattle.bits.specs.Bits.{bits_of, cut, number}
use Rattle.bits.proofs.Spelling.{length-bits_of, number_append, number-bits_of, bits_of_number}
use Rattle.rows.proofs.Boxes.{length_there, laid_behind, length_laid}
use Rattle.rows.proofs.Stepping.{Clear, admit_step, admitted_clear, admitted_within, admitted_counted, admitted_none, admitted_past, broken_none, total_none, total_same}
use Rattle.rows.specs.Row.{pick, holds, broken}
use Rattle.rows.specs.Walk.{total, there, exceeds, slots_of, laid_on}
use Rattle.rows.specs.Inner.Step.{stays, settled, admitted, resume, Drafted, Gave, Lays, LaidAll}
use Rattle.rows.specs.Inner.Standing.{Standing}
use Rattle.rows.specs.declared.When.{When}
use Rattle.rows.specs.declared.Rule.{Rule}
use Rattle.rows.specs.declared.Rule.TheVariants.{Any, Tariff}

-- A put is shown by what the draft holds where there is no fault.
pub gave : (xs ys : List ℕ) (room : ℕ) (c : Standing) (t : When) (ws : List ℕ) (rule : Rule) (vs : List ℕ) (W : ℕ) (wide : Bool) (n : ℕ) (d : Standing)
    → Drafted xs room c
    → length ys ≡ length xs
    → length vs ≡ length ws
    → W ≡ total (there t ws)
    → wide ≡ exceeds (there t ws) vs
    → n ≡ broken rule vs
    → d ≡ admitted c room W wide n 0
    → (d.why ≡ 0 → (out : List Bool) → length out ≡ c.at → xs ≡ cut 32 32 (length xs) out → ys ≡ cut 32 32 (length xs) (laid_on out (there t ws) vs))
    → Gave xs ys room c t ws rule vs d
gave xs ys room c t ws rule vs W wide n d ready long sized width exceeding ruled is laid =
    record {
      ready = record { within = rw is (admitted_within c room W wide n 0 ready.within); longer = rw long ready.longer };
      long = long;
      counted = rw is (admitted_counted c room W wide n 0);
      step = λ vals k rs seen told gives small.
          let us : slots_of vals c.at (length seen) (there t ws) ≡ vs = rw (length_there t ws) gives in
          rw (is, width)
          (admit_step room (slots_of vals) c t ws rule vs wide n 0 k rs seen told small
          (ap (exceeds (there t ws)) us ∙ sym exceeding)
          (λ inside. ap (broken rule) us ∙ sym ruled)
          (λ inside ok. us));
      before = λ ok. (clear ok).before;
      laid = λ ok out at drafted. (
        rw (laid_behind out (there t ws) vs, length-append)
            (rw (length_laid (there t ws) vs (sized ∙ sym (length_there t ws)), ← width, at) (sym (moved ok))),
        laid ok out at drafted,
      );
    }
  where
    clear : d.why ≡ 0 → Clear c room W wide n (admitted c room W wide n 0).at
    clear ok = admitted_clear c room W wide n 0 (rw is at ok)

    moved : d.why ≡ 0 → d.at ≡ c.at + W
    moved ok = ap (λ (x : Standing). x.at) is ∙ (clear ok).moved

-- Numbers that were found to fit their boxes do.
fits_cons : (w v : ℕ) (ws vs : List ℕ) → exceeds (w ∷ ws) (v ∷ vs) ≡ false → (v < 2 ^ w) × (exceeds ws vs ≡ false)
fits_cons w v ws vs e = go (ltb v (2 ^ w)) refl e
  where
    go : (b : Bool) → ltb v (2 ^ w) ≡ b → pick b (exceeds ws vs) true ≡ false → (v < 2 ^ w) × (exceeds ws vs ≡ false)
    go true e f = (ltb-true v (2 ^ w) e, f)
    go false e f = absurd (true≢false f)

-- After a refusal nothing is put.
pub gave_refused : (xs : List ℕ) (room : ℕ) (c : Standing) (t : When) (ws : List ℕ) (rule : Rule) (vs : List ℕ)
    → Drafted xs room c
    → (c.why ≡ 0 → ⊥)
    → Gave xs xs room c t ws rule vs c
unfolding resume
gave_refused xs room c t ws rule vs ready why =
    record {
      ready = ready;
      long = refl;
      counted = omega arith;
      step = λ vals k rs seen told gives small. rw (ne_eqb _ _ why);
      before = λ ok. ok;
      laid = λ ok. absurd (why ok);
    }

-- A field that is absent has boxes of no bits: only zeros fit them, and they lay nothing.
zeros_fit : (ws vs : List ℕ) → length vs ≡ length ws → exceeds (map (λ (w : ℕ). 0) ws) vs ≡ false → vs ≡ map (λ (w : ℕ). 0) ws
zeros_fit [] [] e fits = refl
zeros_fit [] (v ∷ vs) e fits = absurd (omega arith)
zeros_fit (w ∷ ws) [] e fits = absurd (omega arith)
zeros_fit (w ∷ ws) (v ∷ vs) e fits =
    let (one, rest) = fits_cons 0 v (map (λ (w : ℕ). 0) ws) vs fits in
    let zero : v ≡ 0 = omega arith in
    rw (zero, zeros_fit ws vs (omega arith) rest)

laid_none : (out : List Bool) (ws vs : List ℕ) → laid_on out (map (λ (w : ℕ). 0) ws) vs ≡ out
laid_none out [] vs = refl
laid_none out (w ∷ ws) [] = refl
laid_none out (w ∷ ws) (v ∷ vs) = laid_none (out ++ []) ws vs ∙ append-nil out

pub gave_absent : (xs : List ℕ) (room : ℕ) (c : Standing) (t : When) (ws : List ℕ) (rule : Rule) (vs : List ℕ) (wide : Bool) (d : Standing)
    → Drafted xs room c
    → length vs ≡ length ws
    → c.why ≡ 0
    → holds t ≡ false
    → wide ≡ exceeds (map (λ (w : ℕ). 0) ws) vs
    → d ≡ settled c 0 (pick wide 7 0) 0
    → Gave xs xs room c t ws rule vs d
gave_absent xs room c t ws rule vs wide d ready sized clear absent exceeding is =
    gave xs xs room c t ws rule vs 0 wide (broken rule vs) d ready refl sized
    (rw absent (sym (total_none ws))) (rw absent exceeding) refl
    (is ∙ go wide exceeding)
    (λ ok out at drafted. rw (absent, laid_none out ws vs) drafted)
  where
    go : (b : Bool) → b ≡ exceeds (map (λ (w : ℕ). 0) ws) vs
        → settled c 0 (pick b 7 0) 0 ≡ admitted c room 0 b (broken rule vs) 0
    go true e = rw (eq-eqb _ _ clear)
    go false e = rw (ap (broken rule) (zeros_fit ws vs sized (sym e)) ∙ broken_none rule ws) (admitted_none c room ready.within clear)

-- A field wider than its room, of no number.
pub gave_past : (xs : List ℕ) (room : ℕ) (c : Standing) (t : When) (w : ℕ) (d : Standing)
    → Drafted xs room c
    → room < w
    → c.why ≡ 0
    → holds t ≡ true
    → d ≡ stays c 2 0
    → Gave xs xs room c t (w ∷ []) Any (0 ∷ []) d
gave_past xs room c t w d ready wide clear present is =
    gave xs xs room c t (w ∷ []) Any (0 ∷ []) w false 0 d ready refl refl
    (rw present (omega arith)) (rw (present, lt-ltb 0 (2 ^ w) (pow_pos w))) refl
    (is ∙ admitted_past c room w clear (omega arith))
    (λ ok. let two : d.why ≡ 2 = ap (λ (x : Standing). x.why) is in absurd (omega arith))

pub gave_box : (xs ys : List ℕ) (room : ℕ) (c : Standing) (t : When) (w : ℕ) (rule : Rule) (v : ℕ) (wide : Bool) (n : ℕ) (d : Standing)
    → Drafted xs room c
    → length ys ≡ length xs
    → holds t ≡ true
    → wide ≡ exceeds (w ∷ []) (v ∷ [])
    → n ≡ broken rule (v ∷ [])
    → d ≡ admitted c room w wide n 0
    → (d.why ≡ 0 → (out : List Bool) → length out ≡ c.at → xs ≡ cut 32 32 (length xs) out → ys ≡ cut 32 32 (length xs) (out ++ bits_of w v))
    → Gave xs ys room c t (w ∷ []) rule (v ∷ []) d
gave_box xs ys room c t w rule v wide n d within long present exceeding ruled is laid =
    gave xs ys room c t (w ∷ []) rule (v ∷ []) w wide n d within long refl (rw present (omega arith)) (rw present exceeding) ruled is
    (λ ok out at drafted. rw present (laid ok out at drafted))

-- Where there is no fault, a box can be laid.
pub lays : (xs : List ℕ) (room : ℕ) (c : Standing) (h v : ℕ) (wide : Bool) (n : ℕ) (d : Standing)
    → Drafted xs room c
    → h ≤ 32
    → wide ≡ exceeds (h ∷ []) (v ∷ [])
    → d ≡ admitted c room h wide n 0
    → d.why ≡ 0
    → (c.at / 32 + 1 < length xs) × ((h ≤ 32) × (v < 2 ^ h))
lays xs room c h v wide n d ready narrow exceeding is ok =
    let clear = admitted_clear c room h wide n 0 (rw is at ok) in
    (omega (arith, ready.within, ready.longer), (narrow, (fits_cons h v [] [] (sym exceeding ∙ clear.narrow)).0))

-- A tariff's numbers that fit their boxes, and the one number that they make.
pub record Packs (key kind priority : ℕ) : Type 0 where
  pub small : (key < 16) × ((kind < 256) × (priority < 16))
  pub whole : key * 4096 + kind * 16 + priority < 2 ^ 16
  pub spelt : (out : List Bool)
      → laid_on out (4 ∷ 8 ∷ 4 ∷ []) (key ∷ kind ∷ priority ∷ []) ≡ out ++ bits_of 16 (key * 4096 + kind * 16 + priority)

packs : (key kind priority : ℕ) → exceeds (4 ∷ 8 ∷ 4 ∷ []) (key ∷ kind ∷ priority ∷ []) ≡ false → Packs key kind priority
packs key kind priority fits =
    let (a, rest) = fits_cons 4 key (8 ∷ 4 ∷ []) (kind ∷ priority ∷ []) fits in
    let (b, last) = fits_cons 8 kind (4 ∷ []) (priority ∷ []) rest in
    let (d, none) = fits_cons 4 priority [] [] last in
    let makes : number bits ≡ key * 4096 + kind * 16 + priority =
    number_append (bits_of 4 key) (bits_of 8 kind ++ bits_of 4 priority)
    ∙ rw (number_append (bits_of 8 kind) (bits_of 4 priority), number-bits_of 4 key a, number-bits_of 8 kind b, number-bits_of 4 priority d) (omega arith) in
    let spelt : bits_of 16 (key * 4096 + kind * 16 + priority) ≡ bits = ap (bits_of 16) (sym makes) ∙ bits_of_number bits in
    record { small = (a, (b, d)); whole = omega arith; spelt = λ out. rw spelt (simp append_assoc) }
  where
    bits : List Bool
    bits = bits_of 4 key ++ (bits_of 8 kind ++ bits_of 4 priority)

-- Where there is no fault, a tariff can be packed and laid.
pub packs_clear : (room : ℕ) (c : Standing) (key kind priority : ℕ) (wide : Bool) (n : ℕ) (d : Standing)
    → wide ≡ exceeds (4 ∷ 8 ∷ 4 ∷ []) (key ∷ kind ∷ priority ∷ [])
    → d ≡ admitted c room 16 wide n 0
    → d.why ≡ 0
    → Packs key kind priority
packs_clear room c key kind priority wide n d exceeding is ok =
    packs key kind priority (sym exceeding ∙ (admitted_clear c room 16 wide n 0 (rw is at ok)).narrow)

pub gave_tariff : (xs ys : List ℕ) (room : ℕ) (c : Standing) (t : When) (key kind priority : ℕ) (wide : Bool) (n : ℕ) (d : Standing)
    → Drafted xs room c
    → length ys ≡ length xs
    → holds t ≡ true
    → wide ≡ exceeds (4 ∷ 8 ∷ 4 ∷ []) (key ∷ kind ∷ priority ∷ [])
    → n ≡ pick (eqb priority 13) 4 0
    → d ≡ admitted c room 16 wide n 0
    → (d.why ≡ 0 → (out : List Bool) → length out ≡ c.at → xs ≡ cut 32 32 (length xs) out → ys ≡ cut 32 32 (length xs) (out ++ bits_of 16 (key * 4096 + kind * 16 + priority)))
    → Gave xs ys room c t (4 ∷ 8 ∷ 4 ∷ []) Tariff (key ∷ kind ∷ priority ∷ []) d
gave_tariff xs ys room c t key kind priority wide n d within long present exceeding ruled is laid =
    gave xs ys room c t (4 ∷ 8 ∷ 4 ∷ []) Tariff (key ∷ kind ∷ priority ∷ []) 16 wide n d within long refl
    (rw present) (rw present exceeding) ruled is
    (λ ok out at drafted. rw (present, (packs_clear room c key kind priority wide n d exceeding is ok).spelt out) (laid ok out at drafted))

-- One of some letters is too wide for its box where some letter alone is.
pub some_wide : (w : ℕ) (letters : List ℕ) → list_any (λ v. exceeds (w ∷ []) (v ∷ [])) letters ≡ exceeds (replicate (length letters) w) letters
some_wide w [] = refl
some_wide w (v ∷ letters) = rw (some_wide w letters) (go (ltb v (2 ^ w)) _)
  where
    go : (a b : Bool) → pick a false true || b ≡ pick a b true
    go true b = refl
    go false b = refl

-- A letter of those that were found to fit does.
pub fits_at : (w : ℕ) (letters : List ℕ) (i : ℕ) → exceeds (replicate (length letters) w) letters ≡ false → i < length letters → get_or letters i 0 < 2 ^ w
fits_at w [] i e h = absurd (omega arith)
fits_at w (v ∷ vs) zero e h = (fits_cons w v (replicate (length vs) w) vs e).0
fits_at w (v ∷ vs) (suc i) e h = fits_at w vs i (fits_cons w v (replicate (length vs) w) vs e).1 (omega arith)

-- Letters laid behind some bits: one more at their end, and how far they reach.
laid_snoc : (out : List Bool) (w : ℕ) (vs : List ℕ) (v : ℕ)
    → laid_on out (replicate (length (vs ++ (v ∷ []))) w) (vs ++ (v ∷ [])) ≡ laid_on out (replicate (length vs) w) vs ++ bits_of w v
laid_snoc out w [] v = refl
laid_snoc out w (u ∷ vs) v = laid_snoc (out ++ bits_of w u) w vs v

length-letters : (out : List Bool) (w : ℕ) (vs : List ℕ) → length (laid_on out (replicate (length vs) w) vs) ≡ length out + w * length vs
length-letters out w [] = omega arith
length-letters out w (v ∷ vs) =
    rw (length-letters (out ++ bits_of w v) w vs, length-append, length-bits_of) (omega arith)

-- One more letter.
pub laid_more : (xs ys zs : List ℕ) (at w : ℕ) (letters : List ℕ) (i place : ℕ)
    → i < length letters
    → length ys ≡ length xs
    → place ≡ at + w * i
    → LaidAll xs ys at w (take i letters)
    → ((out : List Bool) → length out ≡ place → ys ≡ cut 32 32 (length ys) out → zs ≡ cut 32 32 (length ys) (out ++ bits_of w (get_or letters i 0)))
    → LaidAll xs zs at w (take (i + 1) letters)
laid_more xs ys zs at w letters i place h long here so lay = λ out start drafted.
    let reached : length (laid_on out (replicate (length (take i letters)) w) (take i letters)) ≡ place =
    length-letters out w (take i letters) ∙ rw (length-take-le i letters (omega arith), start) (sym here) in
    rw (add-one, take-suc letters i 0 h, laid_snoc out w (take i letters) (get_or letters i 0), ← long)
    (lay (laid_on out (replicate (length (take i letters)) w) (take i letters)) reached (rw long (so out start drafted)))

pub gave_text : (xs ys : List ℕ) (room : ℕ) (c : Standing) (t : When) (letters : List ℕ) (wide : Bool) (d : Standing)
    → Drafted xs room c
    → length ys ≡ length xs
    → holds t ≡ true
    → wide ≡ exceeds (replicate (length letters) 5) letters
    → d ≡ admitted c room (length letters * 5) wide 0 0
    → (d.why ≡ 0 → LaidAll xs ys c.at 5 letters)
    → Gave xs ys room c t (replicate (length letters) 5) Any letters d
gave_text xs ys room c t letters wide d within long present exceeding is laid =
    let n : ℕ = length letters in
    gave xs ys room c t (replicate n 5) Any letters (n * 5) wide 0 d within long (sym (length-replicate n 5))
    (rw present (sym (total_same n 5))) (rw present exceeding) refl is
    (λ ok out at drafted. rw present (laid ok out at drafted))

-- Where there is no fault, letters can be laid.
pub lays_all : (xs : List ℕ) (room : ℕ) (c : Standing) (letters : List ℕ) (wide : Bool) (d : Standing)
    → Drafted xs room c
    → room < 2 ^ 32
    → wide ≡ exceeds (replicate (length letters) 5) letters
    → d ≡ admitted c room (length letters * 5) wide 0 0
    → d.why ≡ 0
    → Lays xs c.at 5 letters
lays_all xs room c letters wide d ready fits exceeding is ok =
    let clear = admitted_clear c room (length letters * 5) wide 0 0 (rw is at ok) in
    record {
      narrow = omega arith;
      longer = omega (arith, ready.longer, clear.inside);
      small = omega (arith, clear.inside);
      fit = sym exceeding ∙ clear.narrow;
    }
