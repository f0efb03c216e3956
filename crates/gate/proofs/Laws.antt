-- Demand 3: what gate writes do to the bits of a record, over any list of accepted calls; and what a found write is.
use Prim.Native.Nat.{ℕ, zero, suc, ◌*◌, ◌/◌, ◌%◌, ◌^◌, ◌≤◌, ◌<◌}
use mathlib.Core.List.{List, [], ◌∷◌, ◌++◌}
use mathlib.Core.Bool.{Bool, true, false, ◌&&◌, ◌||◌, not, or-false, or_assoc, true≢false}
use mathlib.Core.Path.{◌≡◌, refl, sym, ap, ◌∙◌}
use native.Mathlib.Omega.{arith}
use lib.Dec.{eqb, ltb}
use lib.ListN.{length, get_or, take, drop, length-drop, length-replicate}
use lib.Seq.{ext_get_or, length-take-le, take_all}
use borrow.Author.Tests.{eqb-true, eq-eqb, ltb-false, le-ltb}
use Rattle.bits.specs.Bits.{spread, cut, join, leading, zeros}
use Rattle.bits.proofs.Cutting.{length_cut, length-spread, spread_cut, cut-spread}
use Rattle.bits.proofs.Clearing.{leading_zeros, all_leading}
use Rattle.rows.proofs.Boxes.{length-join}
use Rattle.rows.specs.Row.{pick}
use Rattle.records.specs.Answer.{Written, refusal, accepted, denied}
use Rattle.records.proofs.Coming.{ComesTo, fine, unwritten, either, stops}
use Rattle.gate.specs.Writes.{applied, only, writes_of, whole, applying, finding, joining, in_some, called, AllAccepted, writes_in, NoneFalls}
use Rattle.gate.proofs.Bytewise.{length_only}

-- A bit of two strings joined is one where it is in either.
pub join_at : (xs ys : List Bool) (i : ℕ) → length ys ≡ length xs → get_or (join xs ys) i false ≡ get_or xs i false || get_or ys i false
join_at [] [] i e = refl
join_at [] (y ∷ ys) i e = absurd (omega arith)
join_at (x ∷ xs) [] i e = absurd (omega arith)
join_at (true ∷ xs) (y ∷ ys) zero e = refl
join_at (false ∷ xs) (y ∷ ys) zero e = refl
join_at (true ∷ xs) (y ∷ ys) (suc i) e = join_at xs ys i (omega arith)
join_at (false ∷ xs) (y ∷ ys) (suc i) e = join_at xs ys i (omega arith)

-- A bit that is only in the first is one there and zero in the second.
only_at : (xs ys : List Bool) (i : ℕ) → length ys ≡ length xs → get_or (only xs ys) i false ≡ get_or xs i false && not (get_or ys i false)
only_at [] [] i e = refl
only_at [] (y ∷ ys) i e = absurd (omega arith)
only_at (x ∷ xs) [] i e = absurd (omega arith)
only_at (true ∷ xs) (true ∷ ys) zero e = refl
only_at (false ∷ xs) (true ∷ ys) zero e = refl
only_at (true ∷ xs) (false ∷ ys) zero e = refl
only_at (false ∷ xs) (false ∷ ys) zero e = refl
only_at (x ∷ xs) (true ∷ ys) (suc i) e = only_at xs ys i (omega arith)
only_at (x ∷ xs) (false ∷ ys) (suc i) e = only_at xs ys i (omega arith)

-- Writes of one length.
abbrev pub Sized : ℕ → List (List Bool) → Type 0
Sized n [] = Unit {0}
Sized n (w ∷ ws) = (length w ≡ n) × Sized n ws

-- After any writes, a bit is one exactly if it was before or is in some write.
pub bit_after_writes : (bs : List Bool) (ws : List (List Bool)) (i : ℕ) → Sized (length bs) ws
    → get_or (applied bs ws) i false ≡ get_or bs i false || in_some i ws
bit_after_writes bs [] i sized = sym (or-false (get_or bs i false))
bit_after_writes bs (w ∷ ws) i (here, rest) =
    bit_after_writes (join bs w) ws i (rw (length-join bs w) rest)
    ∙ ap (λ (b : Bool). b || in_some i ws) (join_at bs w i here)
    ∙ or_assoc (get_or bs i false) (get_or w i false) (in_some i ws)

pub length_applied : (bs : List Bool) (ws : List (List Bool)) → length (applied bs ws) ≡ length bs
length_applied bs [] = refl
length_applied bs (w ∷ ws) = length_applied (join bs w) ws ∙ length-join bs w

-- So order, repetition and the split into calls do not matter: writes with the same ones do the same.
pub same_ones : (bs : List Bool) (ws vs : List (List Bool)) → Sized (length bs) ws → Sized (length bs) vs
    → ((i : ℕ) → in_some i ws ≡ in_some i vs)
    → applied bs ws ≡ applied bs vs
same_ones bs ws vs sized sized' same =
    ext_get_or false (applied bs ws) (applied bs vs) (length_applied bs ws ∙ sym (length_applied bs vs))
    (λ i h. bit_after_writes bs ws i sized ∙ ap (λ (b : Bool). get_or bs i false || b) (same i) ∙ sym (bit_after_writes bs vs i sized'))

applied_append : (bs : List Bool) (ws vs : List (List Bool)) → applied bs (ws ++ vs) ≡ applied (applied bs ws) vs
applied_append bs [] vs = refl
applied_append bs (w ∷ ws) vs = applied_append (join bs w) ws vs

-- A record has 232 bits.
record_bits : (bytes : List ℕ) → length bytes ≡ 29 → length (spread 8 bytes) ≡ 232
record_bits bytes long = length-spread 8 bytes ∙ ap (λ (n : ℕ). 8 * n) long

equal_bits : (a b : List ℕ) → length a ≡ 29 → length b ≡ 29 → length (spread 8 b) ≡ length (spread 8 a)
equal_bits a b long long' = record_bits b long' ∙ sym (record_bits a long)

-- What an accepted call leaves, as bits.
pub accepted_call : (bytes c : List ℕ) → (applying bytes c).answer.number ≡ 0
    → (length bytes ≡ 29) × (length c % 29 ≡ 0) × (length (applying bytes c).bytes ≡ 29)
    × (spread 8 (applying bytes c).bytes ≡ applied (spread 8 bytes) (writes_of (length c / 29) c))
unfolding applying
accepted_call bytes c = go (eqb (length bytes) 29) (eqb (length c % 29) 0) (ltb 15 (length c / 29)) refl refl
  where
    bits : List Bool
    bits = applied (spread 8 bytes) (writes_of (length c / 29) c)

    out : (a b d : Bool) → Written
    out a b d = pick (a && b) (pick d (denied (refusal 11 0) bytes) (accepted (cut 8 8 29 bits))) (denied (refusal 1 0) bytes)

    go : (a b d : Bool) → eqb (length bytes) 29 ≡ a → eqb (length c % 29) 0 ≡ b → (out a b d).answer.number ≡ 0
        → (length bytes ≡ 29) × (length c % 29 ≡ 0) × (length (out a b d).bytes ≡ 29) × (spread 8 (out a b d).bytes ≡ bits)
    go false b d e f h = absurd (omega arith)
    go true false d e f h = absurd (omega arith)
    go true true true e f h = absurd (omega arith)
    go true true false e f h =
        let long : length bits ≡ 8 * 29 = length_applied (spread 8 bytes) (writes_of (length c / 29) c) ∙ record_bits bytes (eqb-true _ _ e) in
        (eqb-true _ _ e, eqb-true _ _ f, length_cut 8 8 29 bits, spread_cut 8 29 bits long)

-- Any list of accepted calls does to the bits what all their writes do.
pub calls_apply : (bytes : List ℕ) (calls : List (List ℕ)) → AllAccepted bytes calls
    → spread 8 (called bytes calls) ≡ applied (spread 8 bytes) (writes_in calls)
calls_apply bytes [] all = refl
calls_apply bytes (c ∷ cs) (first, rest) =
    let one = accepted_call bytes c first in
    calls_apply (applying bytes c).bytes cs rest
    ∙ ap (λ (l : List Bool). applied l (writes_in cs)) one.3
    ∙ sym (applied_append (spread 8 bytes) (writes_of (length c / 29) c) (writes_in cs))

sized_writes : (n : ℕ) (c : List ℕ) → length c ≡ 29 * n → Sized 232 (writes_of n c)
sized_writes zero c e = tt
sized_writes (suc n) c e = (
  record_bits (take 29 c) (length-take-le 29 c (omega arith)),
  sized_writes n (drop 29 c) (length-drop 29 c ∙ omega arith),
)

sized_append : (n : ℕ) (ws vs : List (List Bool)) → Sized n ws → Sized n vs → Sized n (ws ++ vs)
sized_append n [] vs s t = t
sized_append n (w ∷ ws) vs (e, s) t = (e, sized_append n ws vs s t)

-- The writes of accepted calls are records.
pub sized_calls : (bytes : List ℕ) (calls : List (List ℕ)) → AllAccepted bytes calls → Sized 232 (writes_in calls)
sized_calls bytes [] all = tt
sized_calls bytes (c ∷ cs) (first, rest) =
    let one = accepted_call bytes c first in
    let count : length c ≡ 29 * (length c / 29) = omega (arith, one.1) in
    sized_append 232 (writes_of (length c / 29) c) (writes_in cs) (sized_writes (length c / 29) c count) (sized_calls (applying bytes c).bytes cs rest)

-- After any accepted calls on a record, a bit is one exactly if it was one before or is one in some write of some call.
pub bit_after_calls : (bytes : List ℕ) (calls : List (List ℕ)) (i : ℕ) → length bytes ≡ 29 → AllAccepted bytes calls
    → get_or (spread 8 (called bytes calls)) i false ≡ get_or (spread 8 bytes) i false || in_some i (writes_in calls)
bit_after_calls bytes calls i long all =
    ap (λ (l : List Bool). get_or l i false) (calls_apply bytes calls all)
    ∙ bit_after_writes (spread 8 bytes) (writes_in calls) i (rw (record_bits bytes long) (sized_calls bytes calls all))

pub get_or-zeros : (i n : ℕ) → get_or (zeros n) i false ≡ false
get_or-zeros i zero = refl
get_or-zeros zero (suc n) = refl
get_or-zeros (suc i) (suc n) = get_or-zeros i n

-- So calls whose writes have the same ones leave the same bits, in whatever order, repeated or not, and however split.
pub calls_same : (bytes : List ℕ) (calls others : List (List ℕ)) → length bytes ≡ 29 → AllAccepted bytes calls → AllAccepted bytes others
    → ((i : ℕ) → in_some i (writes_in calls) ≡ in_some i (writes_in others))
    → spread 8 (called bytes calls) ≡ spread 8 (called bytes others)
calls_same bytes calls others long all all' same =
    calls_apply bytes calls all
    ∙ same_ones (spread 8 bytes) (writes_in calls) (writes_in others)
    (rw (record_bits bytes long) (sized_calls bytes calls all)) (rw (record_bits bytes long) (sized_calls bytes others all')) same
    ∙ sym (calls_apply bytes others all')

-- No bit need fall exactly if none is only in present.
none_only : (xs ys : List Bool) → length ys ≡ length xs → NoneFalls xs ys → only xs ys ≡ zeros (length xs)
none_only xs ys e none =
    ext_get_or false (only xs ys) (zeros (length xs)) (length_only xs ys ∙ sym (length-replicate (length xs) false))
    (λ i h. only_at xs ys i e ∙ go (get_or xs i false) (get_or ys i false) (none i) ∙ sym (get_or-zeros i (length xs)))
  where
    go : (x y : Bool) → (x ≡ true → y ≡ true) → x && not y ≡ false
    go true true f = refl
    go true false f = sym (f refl)
    go false y f = refl

only_none : (xs ys : List Bool) → length ys ≡ length xs → only xs ys ≡ zeros (length xs) → NoneFalls xs ys
only_none xs ys e h i = go (get_or xs i false) (get_or ys i false) (sym (only_at xs ys i e) ∙ ap (λ (l : List Bool). get_or l i false) h ∙ get_or-zeros i (length xs))
  where
    go : (x y : Bool) → x && not y ≡ false → x ≡ true → y ≡ true
    go x true f g = refl
    go true false f g = sym f
    go false false f g = g

leading_le : (bs : List Bool) → leading bs ≤ length bs
leading_le [] = omega arith
leading_le (true ∷ bs) = omega arith
leading_le (false ∷ bs) = let rest = leading_le bs in omega arith

-- A write is found only for three records and where no bit need fall.
pub found_none_falls : (present wanted before : List ℕ) → (finding present wanted before).answer.number ≡ 0
    → (length present ≡ 29) × (length wanted ≡ 29) × (length before ≡ 29) × NoneFalls (spread 8 present) (spread 8 wanted)
unfolding finding
found_none_falls present wanted before =
    go (eqb (length present) 29) (eqb (length wanted) 29) (eqb (length before) 29) (ltb (leading falls) 232) refl refl refl refl
  where
    falls : List Bool
    falls = only (spread 8 present) (spread 8 wanted)

    found : Written
    found = accepted (cut 8 8 29 (only (spread 8 wanted) (spread 8 present)))

    go : (a b c t : Bool) → eqb (length present) 29 ≡ a → eqb (length wanted) 29 ≡ b → eqb (length before) 29 ≡ c → ltb (leading falls) 232 ≡ t
        → (pick (a && b && c) (pick t (denied (refusal 10 (leading falls)) before) found) (denied (refusal 1 0) before)).answer.number ≡ 0
        → (length present ≡ 29) × (length wanted ≡ 29) × (length before ≡ 29) × NoneFalls (spread 8 present) (spread 8 wanted)
    go false b c t e f g k h = absurd (omega arith)
    go true false c t e f g k h = absurd (omega arith)
    go true true false t e f g k h = absurd (omega arith)
    go true true true true e f g k h = absurd (omega arith)
    go true true true false e f g k h =
        let long : length present ≡ 29 = eqb-true _ _ e in
        let long' : length wanted ≡ 29 = eqb-true _ _ f in
        let size = length_only (spread 8 present) (spread 8 wanted) in
        let bits = record_bits present long in
        let all : leading falls ≡ length falls = omega (arith, ltb-false (leading falls) 232 k, leading_le falls) in
        (long, long', eqb-true _ _ g, only_none (spread 8 present) (spread 8 wanted) (equal_bits present wanted long long') (all_leading falls all ∙ ap zeros size))

-- And there it is found, and is the missing bits.
pub none_falls_found : (present wanted before : List ℕ) → length present ≡ 29 → length wanted ≡ 29 → length before ≡ 29
    → NoneFalls (spread 8 present) (spread 8 wanted)
    → finding present wanted before ≡ accepted (cut 8 8 29 (only (spread 8 wanted) (spread 8 present)))
unfolding finding
none_falls_found present wanted before long long' long'' none =
    let falls : List Bool = only (spread 8 present) (spread 8 wanted) in
    let zero = none_only (spread 8 present) (spread 8 wanted) (equal_bits present wanted long long') none in
    let clear : leading falls ≡ 232 = ap leading zero ∙ leading_zeros (length (spread 8 present)) ∙ record_bits present long in
    let last : 232 ≤ leading falls = omega arith in
    rw (eq-eqb _ _ long, eq-eqb _ _ long', eq-eqb _ _ long'', le-ltb _ _ last)

-- The missing bits raised in present give wanted.
missing_applied : (xs ys : List Bool) → length ys ≡ length xs → NoneFalls xs ys → join xs (only ys xs) ≡ ys
missing_applied xs ys e none =
    ext_get_or false (join xs (only ys xs)) ys (length-join xs (only ys xs) ∙ sym e)
    (λ i h.
    join_at xs (only ys xs) i (length_only ys xs ∙ e)
    ∙ ap (λ (b : Bool). get_or xs i false || b) (only_at ys xs i (sym e))
    ∙ go (get_or xs i false) (get_or ys i false) (none i))
  where
    go : (x y : Bool) → (x ≡ true → y ≡ true) → x || (y && not x) ≡ y
    go true y f = sym (f refl)
    go false true f = refl
    go false false f = refl

-- Those from a to b joined with those from b to c are those from a to c.
missing_joined : (a b c : List Bool) → length b ≡ length a → length c ≡ length a → NoneFalls a b → NoneFalls b c
    → join (only b a) (only c b) ≡ only c a
missing_joined a b c e f none none' =
    ext_get_or false (join (only b a) (only c b)) (only c a)
    (length-join (only b a) (only c b) ∙ length_only b a ∙ e ∙ sym (length_only c a ∙ f))
    (λ i h.
    join_at (only b a) (only c b) i (length_only c b ∙ f ∙ sym (length_only b a ∙ e))
    ∙ ap (λ (x : Bool). x || get_or (only c b) i false) (only_at b a i (sym e))
    ∙ ap (λ (x : Bool). (get_or b i false && not (get_or a i false)) || x) (only_at c b i (e ∙ sym f))
    ∙ go (get_or a i false) (get_or b i false) (get_or c i false) (none i) (none' i)
    ∙ sym (only_at c a i (sym f)))
  where
    go : (x y z : Bool) → (x ≡ true → y ≡ true) → (y ≡ true → z ≡ true) → (y && not x) || (z && not y) ≡ z && not x
    go true true z f g = refl
    go true false z f g = absurd (true≢false (sym (f refl)))
    go false true z f g = rw (g refl)
    go false false z f g = refl

-- A found write is a record, and its bits the missing ones.
found_bits : (present wanted before : List ℕ) → (finding present wanted before).answer.number ≡ 0
    → (length (finding present wanted before).bytes ≡ 29) × (spread 8 (finding present wanted before).bytes ≡ only (spread 8 wanted) (spread 8 present))
found_bits present wanted before h =
    let (long, long', long'', none) = found_none_falls present wanted before h in
    let missing : List Bool = only (spread 8 wanted) (spread 8 present) in
    let found = ap (λ (w : Written). w.bytes) (none_falls_found present wanted before long long' long'' none) in (
      ap length found ∙ length_cut 8 8 29 missing,
      ap (spread 8) found ∙ spread_cut 8 29 missing (length_only (spread 8 wanted) (spread 8 present) ∙ record_bits wanted long'),
    )

-- A found write has a one exactly where wanted has and present has not.
pub found_only_missing : (present wanted before : List ℕ) (i : ℕ) → (finding present wanted before).answer.number ≡ 0
    → get_or (spread 8 (finding present wanted before).bytes) i false ≡ get_or (spread 8 wanted) i false && not (get_or (spread 8 present) i false)
found_only_missing present wanted before i h =
    let (long, long', long'', none) = found_none_falls present wanted before h in
    ap (λ (bs : List Bool). get_or bs i false) (found_bits present wanted before h).1
    ∙ only_at (spread 8 wanted) (spread 8 present) i (equal_bits wanted present long' long)

-- Applied to present, it gives wanted.
pub finds_applied : (present wanted before : List ℕ) → ((i : ℕ) → get_or wanted i 0 < 2 ^ 8) → (finding present wanted before).answer.number ≡ 0
    → applying present (finding present wanted before).bytes ≡ accepted wanted
unfolding applying
finds_applied present wanted before small h =
    let (long, long', long'', none) = found_none_falls present wanted before h in
    let (size, bits) = found_bits present wanted before h in
    let all : take 29 (finding present wanted before).bytes ≡ (finding present wanted before).bytes = take_all 29 _ (omega arith) in
    let back : cut 8 8 29 (spread 8 wanted) ≡ wanted = rw long' at (cut-spread 8 wanted small) in
    rw (eq-eqb _ _ long, size, all, bits, missing_applied (spread 8 present) (spread 8 wanted) (equal_bits present wanted long long') none, back)

-- The write found from a to b, joined with that from b to c, is the one found from a to c.
pub finds_joined : (a b c x y z : List ℕ) → (finding a b x).answer.number ≡ 0 → (finding b c y).answer.number ≡ 0 → length z ≡ 29
    → ((finding a c z).answer.number ≡ 0) × (joining (finding a b x).bytes (finding b c y).bytes z ≡ finding a c z)
unfolding joining
finds_joined a b c x y z h k room =
    let (first, second, rest, none) = found_none_falls a b x h in
    let (second', third, rest', none') = found_none_falls b c y k in
    let (size, bits) = found_bits a b x h in
    let (size', bits') = found_bits b c y k in
    let found = none_falls_found a c z first third room (λ i e. none' i (none i e)) in (
      ap (λ (w : Written). w.answer.number) found,
      rw (
        eq-eqb _ _ size,
        eq-eqb _ _ size',
        eq-eqb _ _ room,
        bits,
        bits',
        missing_joined (spread 8 a) (spread 8 b) (spread 8 c) (equal_bits a b first second) (equal_bits a c first third) none none',
        found,
      ),
    )

-- The refusals of each call.
pub apply_comes : (before writes : List ℕ) → ComesTo accepted (unwritten before) (1 ∷ 11 ∷ []) (applying before writes)
unfolding applying
apply_comes before writes =
    either (whole before && eqb (length writes % 29) 0) (either (ltb 15 (length writes / 29)) (stops (refusal 11 0) refl refl refl) (fine _))
    (stops (refusal 1 0) refl refl refl)

pub find_comes : (present wanted before : List ℕ) → ComesTo accepted (unwritten before) (1 ∷ 10 ∷ []) (finding present wanted before)
unfolding finding
find_comes present wanted before =
    let at : ℕ = leading (only (spread 8 present) (spread 8 wanted)) in
    either (whole present && whole wanted && whole before) (either (ltb at 232) (stops (refusal 10 at) refl refl refl) (fine _)) (stops (refusal 1 0) refl refl refl)

pub join_comes : (a b before : List ℕ) → ComesTo accepted (unwritten before) (1 ∷ []) (joining a b before)
unfolding joining
join_comes a b before = either (whole a && whole b && whole before) (fine _) (stops (refusal 1 0) refl refl refl)
