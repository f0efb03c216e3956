-- What shows that a margin is taken and put as it is meant.
use Rattle.std.proofs.Common.{◌≡◌, ℕ, zero, suc, ◌+◌, ◌-◌, ◌*◌, ◌^◌, ◌<◌, ◌≤◌, Bool, true, false, ◌&&◌, ◌||◌, eqb, ltb, leb, List, [], ◌∷◌, ◌++◌, length, get_or, take, drop, replicate, sym, refl, ap, ◌∙◌, true≢false, append_assoc, arith, length-append, length-drop, take-append-drop, length-take-le, get_or-drop, get_or-take, drop-drop, get_or-append-add, ltb-false, ltb-true, eq-eqb, ne_eqb, eqb-true, leb-false, leb-true}
use lib.ListN.{length-replicate, get_or-replicate, replicate-append-replicate, get_or-append}
use lib.Seq.{take-length}
use Rattle.bits.specs.Bits.{number, spread, zeros, cut, cleared, leading}
use Rattle.bits.proofs.Fronts.{part_padded, part_pad, part_past}
use Rattle.bits.proofs.Cutting.{length-spread, cut_at, cut_pad, is_cut}
use Rattle.bits.proofs.Clearing.{leading_zeros, leading-append-zeros, leading_front_one, drop-zeros, all_lead, lead_all}
use Rattle.rows.specs.Row.{pick}
use Rattle.rows.specs.Walk.{refused, blank, stray}
use Rattle.rows.specs.Inner.Step.{Kept}
use Rattle.rows.specs.Inner.Standing.{Standing}
use Rattle.rows.proofs.RoundTrip.{blank_zeros}

-- The first one, looked for among the first bits; none there; and none at all.
leading-take : (k : ℕ) (bs : List Bool) → leading bs < k → leading (take k bs) ≡ leading bs
leading-take zero bs h = absurd (omega arith)
leading-take (suc k) [] h = refl
leading-take (suc k) (true ∷ bs) h = refl
leading-take (suc k) (false ∷ bs) h = ap suc (leading-take k bs (omega arith))

take-leading : (k : ℕ) (bs : List Bool) → k ≤ leading bs → take k bs ≡ zeros k
take-leading zero bs h = refl
take-leading (suc k) [] h = absurd (omega arith)
take-leading (suc k) (true ∷ bs) h = absurd (omega arith)
take-leading (suc k) (false ∷ bs) h = ap (λ (l : List Bool). false ∷ l) (take-leading k bs (omega arith))

none_leading : (bs : List Bool) → length bs ≤ leading bs → bs ≡ zeros (length bs)
none_leading bs h = sym (take-length bs) ∙ take-leading (length bs) bs h

-- Zeros are cut into zeros.
cut-zeros : (step w n k : ℕ) → replicate n 0 ≡ cut step w n (zeros k)
cut-zeros step w n k =
    is_cut step w n (replicate n 0) (zeros k) (length-replicate n 0)
    (λ i h. get_or-replicate n i 0 0 h ∙ sym (part_pad w (step * i) k [] ∙ part_past w (step * i) [] (omega arith)))

-- A margin with no one in it.
pub cut_none : (w n end at first : ℕ) (bs : List Bool) → length bs ≡ end → first ≡ at + leading (drop at bs) → end ≤ first
    → replicate n 0 ≡ cut w w n (cleared at bs)
cut_none w n end at first bs long is none =
    let rest : drop at bs ≡ zeros (length (drop at bs)) = none_leading (drop at bs) (rw length-drop (omega arith)) in
    rw (rest, replicate-append-replicate at (length (drop at bs))) (cut-zeros w w n (at + length (drop at bs)))

-- A word of a record, and four that stand side by side.
pub word_at : (words : List ℕ) (bs : List Bool) → words ≡ cut 32 64 8 bs → (i start : ℕ) → i < 8 → 32 * i ≡ start
    → get_or words i 0 ≡ number (take 64 (drop start bs ++ zeros 64))
word_at words bs e i start h here = rw (e, cut_at 32 64 8 i bs h, here) (part_padded 64 start bs)

pub four_words : (bs : List Bool) (a b c d : ℕ)
    → a ≡ number (take 64 (drop 0 bs ++ zeros 64))
    → b ≡ number (take 64 (drop 64 bs ++ zeros 64))
    → c ≡ number (take 64 (drop 128 bs ++ zeros 64))
    → d ≡ number (take 64 (drop 192 bs ++ zeros 64))
    → a ∷ b ∷ c ∷ d ∷ [] ≡ cut 64 64 4 bs
four_words bs a b c d p q r s = rw (p, q, r, s, drop-drop 64 64 bs, drop-drop 64 128 bs)

-- Four words are zeros if each of them is.
each : (P : ℕ → Type 0) (a b c d : ℕ) → P a → P b → P c → P d → P 0 → (i : ℕ) → P (get_or (a ∷ b ∷ c ∷ d ∷ []) i 0)
each P a b c d p q r s z zero = p
each P a b c d p q r s z (suc zero) = q
each P a b c d p q r s z (suc (suc zero)) = r
each P a b c d p q r s z (suc (suc (suc zero))) = s
each P a b c d p q r s z (suc (suc (suc (suc i)))) = z

-- What two tests together tell of each.
pub both : (x y : Bool) → (x && y) ≡ true → (x ≡ true) × (y ≡ true)
both true y e = (refl, e)
both false y e = absurd (true≢false (sym e))

none_says : (ws : List ℕ) (n : ℕ) (t : Bool) → 64 * length ws ≡ n → ((i : ℕ) → get_or ws i 0 < 2 ^ 64)
    → (t ≡ true → (i : ℕ) → get_or ws i 0 ≡ 0)
    → (((i : ℕ) → get_or ws i 0 ≡ 0) → t ≡ true)
    → t ≡ eqb (leading (spread 64 ws)) n
none_says ws n true e fits none all = sym (eq-eqb _ _ (all_lead 64 ws (λ i l. none refl i) ∙ e))
none_says ws n false e fits none all = sym (ne_eqb _ _ (λ h. true≢false (sym (all (lead_all 64 ws fits (h ∙ sym e))))))

pub none_of : (a b c d : ℕ) → a < 2 ^ 64 → b < 2 ^ 64 → c < 2 ^ 64 → d < 2 ^ 64
    → (((eqb a 0 && eqb b 0) && eqb c 0) && eqb d 0) ≡ eqb (leading (spread 64 (a ∷ b ∷ c ∷ d ∷ []))) 256
none_of a b c d p q r s =
    none_says (a ∷ b ∷ c ∷ d ∷ []) 256 _ refl (each (λ x. x < 2 ^ 64) a b c d p q r s (omega arith))
    (λ h.
    let (abc, last) = both (eqb a 0 && eqb b 0 && eqb c 0) (eqb d 0) h in
    let (ab, third) = both (eqb a 0 && eqb b 0) (eqb c 0) abc in
    let (first, second) = both (eqb a 0) (eqb b 0) ab in
    each (λ x. x ≡ 0) a b c d (eqb-true a 0 first) (eqb-true b 0 second) (eqb-true c 0 third) (eqb-true d 0 last) refl)
    (λ z. rw (eq-eqb a 0 (z 0), eq-eqb b 0 (z 1), eq-eqb c 0 (z 2), eq-eqb d 0 (z 3)))

-- A bit is stray exactly if it is one in the margin, and in a field's place or past the room.
pub stray_at : (room end : ℕ) (m : List Bool) (i : ℕ) → end ≤ room → room ≤ length m
    → get_or (stray room end m) i false ≡ pick (ltb i end || leb room i) (get_or m i false) false
stray_at room end m i h l = go (ltb i end) (leb room i) refl refl
  where
    front : length (take end m) ≡ end
    front = length-take-le end m (omega arith)

    middle : length (zeros (room - end)) ≡ room - end
    middle = length-replicate (room - end) false

    -- A bit behind the fields' places.
    later : end ≤ i → get_or (stray room end m) i false ≡ get_or (zeros (room - end) ++ drop room m) (i - end) false
    later e =
        let up : length (take end m) + (i - end) ≡ i = omega (arith, front) in
        rw up at (get_or-append-add (take end m) (zeros (room - end) ++ drop room m) (i - end) false)

    go : (a b : Bool) → ltb i end ≡ a → leb room i ≡ b → get_or (stray room end m) i false ≡ pick (a || b) (get_or m i false) false
    go true b e f =
        let inside : i < length (take end m) = omega (arith, front, ltb-true i end e) in
        get_or-append (take end m) (zeros (room - end) ++ drop room m) false i inside ∙ get_or-take end m i false (ltb-true _ _ e)
    go false true e f =
        let past : room ≤ i = leb-true _ _ f in
        let up : length (zeros (room - end)) + (i - room) ≡ i - end = omega (arith, middle) in
        let place : room + (i - room) ≡ i = omega arith in
        later (omega arith) ∙ rw up at (get_or-append-add (zeros (room - end)) (drop room m) (i - room) false) ∙ get_or-drop room m (i - room) false ∙ rw place
    go false false e f =
        let far : end ≤ i = ltb-false _ _ e in
        let short : i < room = leb-false _ _ f in
        let inside : i - end < length (zeros (room - end)) = omega (arith, middle) in
        later far ∙ get_or-append (zeros (room - end)) (drop room m) false (i - end) inside
        ∙ get_or-replicate (room - end) (i - end) false false (omega arith)

-- The stray bits of a margin: a one in a field's place comes first, else one past the room.
length_stray : (room end : ℕ) (m : List Bool) → end ≤ room → room ≤ length m → length (stray room end m) ≡ length m
length_stray room end m h l =
    rw (length-append, length-append, length-take-le end m (omega arith), length-replicate, length-drop) (omega arith)

stray_first : (room end : ℕ) (m : List Bool) → end ≤ length m → leading m < end → leading (stray room end m) ≡ leading m
stray_first room end m l h =
    let here : leading (take end m) ≡ leading m = leading-take end m h in
    let inside : leading (take end m) < length (take end m) = rw (here, length-take-le end m l) h in
    leading_front_one (take end m) (zeros (room - end) ++ drop room m) inside ∙ here

stray_past : (room end : ℕ) (m : List Bool) → end ≤ room → end ≤ leading m → leading (stray room end m) ≡ room + leading (drop room m)
stray_past room end m h l =
    rw (take-leading end m l, leading-append-zeros end (zeros (room - end) ++ drop room m), leading-append-zeros (room - end) (drop room m)) (omega arith)

stray_none : (room end : ℕ) (m : List Bool) → end ≤ leading m → length m ≤ room + leading (drop room m)
    → stray room end m ≡ zeros (end + (room - end + (length m - room)))
stray_none room end m h l =
    let n : ℕ = length m - room in
    let rest : drop room m ≡ zeros n = none_leading (drop room m) (rw length-drop (omega arith)) ∙ ap zeros (length-drop room m) in
    rw (take-leading end m h, rest, replicate-append-replicate (room - end) n, replicate-append-replicate end (room - end + n))

-- A one among bits that must be blank.
blank_first : {A : Type 0} (n : ℕ) (bs : List Bool) (a : A) (end first : ℕ) → leading bs ≡ first → first < length bs → blank n bs a end ≡ refused n first 0
unfolding blank
blank_first n bs a end first is h = rw (is, ne_eqb first (length bs) (λ e. omega arith))

-- The cursor of a one that is out of place.
abbrev pub away : ℕ → Standing
away place = record { at = place; why = 7; field = 0; number = 0 }

-- With no one past the room the bits up to it are all that counts.
no_tail : (n room at : ℕ) (out m : List Bool) → at ≤ room → length m ≤ room + leading (drop room m)
    → cut 32 32 n (out ++ drop at m) ≡ cut 32 32 n (out ++ take (room - at) (drop at m))
no_tail n room at out m inside none =
    let k : ℕ = length (drop room m) in
    let kept : List Bool = take (room - at) (drop at m) in
    let up : at + (room - at) ≡ room = omega arith in
    let rest : drop (room - at) (drop at m) ≡ zeros k = rw (drop-drop, up) (none_leading (drop room m) (rw length-drop (omega arith))) in
    let split : kept ++ zeros k ≡ drop at m = rw rest at (take-append-drop (room - at) (drop at m)) in
    ap (λ (l : List Bool). cut 32 32 n (out ++ l)) (sym split) ∙ rw (← append_assoc) (cut_pad 32 32 n k (out ++ kept))

-- A margin is put where no one is out of place,
pub kept : (xs ys : List ℕ) (room : ℕ) (c : Standing) (m : List Bool) (first past : ℕ)
    → length ys ≡ length xs
    → c.why ≡ 0
    → c.at ≤ room
    → first ≡ 0 + leading m
    → c.at ≤ first
    → past ≡ room + leading (drop room m)
    → length m ≤ past
    → ((out : List Bool) → length out ≤ leading m → xs ≡ cut 32 32 (length xs) out → ys ≡ cut 32 32 (length xs) (out ++ drop (length out) m))
    → Kept xs ys room c m c
kept xs ys room c m first past long clear inside is after is' none laid =
    record {
      long = long;
      says = λ bits. rw (eq-eqb c.why 0 clear, stray_none room c.at m (omega arith) (omega arith)) (blank_zeros 7 (c.at + (room - c.at + (length m - room))) bits c.at);
      laid = λ ok out at drafted. rw at at (laid out (omega arith) drafted) ∙ no_tail (length xs) room c.at out m inside (omega arith);
    }

-- as where it has none,
pub kept_none : (xs : List ℕ) (room : ℕ) (c : Standing) (ws : List ℕ) → c.why ≡ 0 → c.at ≤ room → room ≤ 64 * length ws
    → leading (spread 64 ws) ≡ 64 * length ws
    → Kept xs xs room c (spread 64 ws) c
kept_none xs room c ws clear inside fits none =
    let m : List Bool = spread 64 ws in
    let n : ℕ = length m in
    let long : length m ≡ 64 * length ws = length-spread 64 ws in
    let zero : m ≡ zeros n = none_leading m (omega arith) in
    let behind : (k : ℕ) → drop k m ≡ zeros (n - k) = λ k. ap (drop k) zero ∙ drop-zeros k n in
    kept xs xs room c m (leading m) (room + leading (drop room m)) refl clear inside (omega arith) (omega arith) refl
    (rw (behind room, leading_zeros) (omega arith))
    (λ out before drafted. rw (behind (length out), cut_pad 32 32 (length xs) (n - length out) out) drafted)

-- and not where one is in a field's place or past the room.
pub kept_first : (xs : List ℕ) (room : ℕ) (c : Standing) (m : List Bool) (first : ℕ) → c.at ≤ room → room ≤ length m
    → first ≡ 0 + leading m
    → first < c.at
    → Kept xs xs room c m (away first)
kept_first xs room c m first inside long is h =
    record {
      long = refl;
      says = λ bits. blank_first 7 (stray room c.at m) bits c.at first (stray_first room c.at m (omega arith) (omega arith) ∙ omega arith) (rw (length_stray room c.at m inside long) (omega arith));
      laid = λ ok. absurd (omega arith);
    }

pub kept_past : (xs : List ℕ) (room : ℕ) (c : Standing) (m : List Bool) (first past : ℕ) → c.at ≤ room → room ≤ length m
    → first ≡ 0 + leading m
    → c.at ≤ first
    → past ≡ room + leading (drop room m)
    → past < length m
    → Kept xs xs room c m (away past)
kept_past xs room c m first past inside long is h is' l =
    record {
      long = refl;
      says = λ bits. blank_first 7 (stray room c.at m) bits c.at past (stray_past room c.at m inside (omega arith) ∙ sym is') (rw (length_stray room c.at m inside long) l);
      laid = λ ok. absurd (omega arith);
    }
