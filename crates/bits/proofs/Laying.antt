-- Bits laid behind others, in two words of the draft.
use Prim.Native.Nat.{ℕ, zero, suc, ◌+◌, ◌*◌, ◌/◌, ◌%◌, ◌^◌, ◌-◌, ◌≤◌, ◌<◌}
use mathlib.Core.List.{List, [], ◌∷◌, ◌++◌, append_assoc}
use mathlib.Core.Bool.{Bool, true, false}
use mathlib.Core.Path.{◌≡◌, refl, sym, ap, ◌∙◌}
use native.Mathlib.Omega.{arith}
use native.Mathlib.Nat.{zero-add, add-zero, zero-mul, add-mul, mul_assoc, mul-suc, mul_left_comm, pow-succ', mul-add-div_right, mul-add-mod_self_right}
use native.Mathlib.Numerals.{add-one}
use borrow.Author.Count.{below_more}
use borrow.Author.Tests.{leb-true, leb-false, ltb-true, ltb-false}
use lib.Bits.{bit_or, or_shifted, or_zero_r}
use lib.Dec.{leb, ltb}
use lib.Pow.{pow_pos, pow-add, pow_mono, shl_lt, shr_lt}
use lib.ListN.{length, get_or, set, drop, length-append, length-drop, length-set, length-replicate, drop_of_length-le}
use lib.Seq.{take-append-le, drop-append-le, drop_at, drop-drop, get_or-set_same, get_or-set_other}
use Rattle.bits.specs.Bits.{number, zeros, spread, cut, bits_of, leading}
use Rattle.bits.proofs.Spelling.{number_append, length-bits_of, number-bits_of}
use Rattle.bits.proofs.Fronts.{front, front_padded, front_take, front_all, number-zeros, part, part_add, part_high, part_low, part_lt, part_past}
use Rattle.bits.proofs.Cutting.{cut_at, is_cut, part_spread}

-- A number shifted to its place leaves one bit free.
pub shift_lt : (o w v : ℕ) → o + w ≤ 63 → v < 2 ^ w → v * 2 ^ (63 - o - w) < 2 ^ 63
shift_lt o w v l h =
    let e : w + (63 - o - w) ≤ 63 = omega arith in
    omega (arith, shl_lt w (63 - o - w) h, pow_mono e)

shifted : (o w v : ℕ) → o + w ≤ 63 → v < 2 ^ w → 2 * (v * 2 ^ (63 - o - w) % 2 ^ 64) ≡ v * 2 ^ suc (63 - o - w)
shifted o w v l h = rw (pow-succ' 2 (63 - o - w), mul_left_comm v 2 (2 ^ (63 - o - w))) (omega (arith, shift_lt o w v l h))

-- Words of u bits: o bits stand in the last one, and s are left in it.
module _ (u o s w r v : ℕ) (e : o + s ≡ u) (f : w + r ≡ s + u) (h : v < 2 ^ w) where
  -- The draft's word before.
  old : (out : List Bool) → length out ≡ o → number (front u out) ≡ number out * 2 ^ s
  old out l = rw (front_all u s out (omega arith), number_append, number-zeros, length-replicate) (omega arith)

  -- The two words after.
  both : (out : List Bool) → length out ≡ o → number (front (u + u) (out ++ bits_of w v)) ≡ number out * 2 ^ s * 2 ^ u + v * 2 ^ r
  both out l =
      let k : length (out ++ bits_of w v) + r ≡ u + u = rw (length-append, length-bits_of) (omega arith) in
      let p : 2 ^ w * 2 ^ r ≡ 2 ^ s * 2 ^ u = sym (pow-add 2 w r) ∙ ap (λ (x : ℕ). 2 ^ x) f ∙ pow-add 2 s u in
      rw (front_all (u + u) r (out ++ bits_of w v) k, number_append (out ++ bits_of w v) (zeros r), number_append out (bits_of w v))
      (simp (number-zeros, length-replicate, length-bits_of, number-bits_of w v h, add-zero, add-mul, mul_assoc, p))

  first : (out : List Bool) → length out ≡ o → bit_or (number (front u out)) (v * 2 ^ r / 2 ^ u) ≡ number (front u (out ++ bits_of w v))
  first out l =
      let x : v * 2 ^ r < 2 ^ (s + u) = rw f at (shl_lt w r h) in
      rw (old out l, or_shifted (number out) s (v * 2 ^ r / 2 ^ u) (shr_lt s u x), ← mul-add-div_right (pow_pos u) (number out * 2 ^ s) (v * 2 ^ r), ← both out l)
      (part_high u u 0 (out ++ bits_of w v))

  second : (out : List Bool) → length out ≡ o → v * 2 ^ r % 2 ^ u ≡ number (front u (drop u (out ++ bits_of w v)))
  second out l =
      rw (← mul-add-mod_self_right (number out * 2 ^ s) (2 ^ u) (v * 2 ^ r), ← both out l) (rw zero-add at (part_low u u 0 (out ++ bits_of w v)))

  drop_two : (bs : List Bool) → length bs ≤ u + u → drop u (drop u bs) ≡ []
  drop_two bs m = rw drop-drop (drop_of_length-le bs m)

  lay_on : (j n : ℕ) (out : List Bool) → length out ≡ u * j + o → suc j < n
      → set (set (cut u u n out) j (bit_or (get_or (cut u u n out) j 0) (v * 2 ^ r / 2 ^ u))) (suc j) (v * 2 ^ r % 2 ^ u) ≡ cut u u n (out ++ bits_of w v)
  lay_on zero zero out l g = absurd (omega arith)
  lay_on zero (suc zero) out l g = absurd (omega arith)
  lay_on zero (suc (suc n)) out l g =
      let k : length out ≡ o = omega arith in
      let m : length (out ++ bits_of w v) ≤ u + u = rw (length-append, length-bits_of) (omega arith) in
      rw (
        front_padded u u out (omega arith),
        front_padded u u (out ++ bits_of w v) (omega arith),
        front_padded u u (drop u (out ++ bits_of w v)) (omega arith),
        first out k,
        second out k,
        drop_two out (omega arith),
        drop_two (out ++ bits_of w v) m,
      )
  lay_on (suc j) zero out l g = absurd (omega arith)
  lay_on (suc j) (suc n) out l g =
      let m : u * suc j ≡ u * j + u = mul-suc u j in
      let k : u ≤ length out = omega arith in
      rw (
        append_assoc out (bits_of w v) (zeros u),
        take-append-le u out (zeros u) k,
        take-append-le u out (bits_of w v ++ zeros u) k,
        drop-append-le u out (bits_of w v) k,
        lay_on j n (drop u out) (rw length-drop (omega arith)) (omega arith),
      )

-- What the code lays.
pub laid : (n : ℕ) (draft : List ℕ) (out : List Bool) (at w v : ℕ) → draft ≡ cut 32 32 n out → length out ≡ at → at / 32 + 1 < n → w ≤ 32 → v < 2 ^ w
    → set (set draft (at / 32) (bit_or (get_or draft (at / 32) 0) (2 * (v * 2 ^ (63 - at % 32 - w) % 2 ^ 64) / 2 ^ 32)))
    (at / 32 + 1) (2 * (v * 2 ^ (63 - at % 32 - w) % 2 ^ 64) % 2 ^ 32)
    ≡ cut 32 32 n (out ++ bits_of w v)
laid n draft out at w v c l g m h =
    rw (c, shifted (at % 32) w v (omega arith) h, add-one)
    (lay_on 32 (at % 32) (32 - at % 32) w (suc (63 - at % 32 - w)) v (omega arith) (omega arith) h (at / 32) n out (omega arith) (omega arith))

-- No more zeros lead than there are bits.
leading_le : (bs : List Bool) → leading bs ≤ length bs
leading_le [] = omega arith
leading_le (true ∷ bs) = omega arith
leading_le (false ∷ bs) = omega (arith, leading_le bs)

-- Bits that begin with zeros have them in every part before the first one.
leading_part : (w at : ℕ) (bs : List Bool) → at + w ≤ leading bs → part w at bs ≡ 0
leading_part zero at bs h = refl
leading_part (suc w) zero [] h = absurd (omega arith)
leading_part (suc w) zero (true ∷ bs) h = absurd (omega arith)
leading_part (suc w) zero (false ∷ bs) h = leading_part w zero bs (omega arith)
leading_part (suc w) (suc at) [] h = absurd (omega arith)
leading_part (suc w) (suc at) (true ∷ bs) h = absurd (omega arith)
leading_part (suc w) (suc at) (false ∷ bs) h = leading_part (suc w) at bs (omega arith)

-- Bits, and behind them what others have from their end on.
abbrev pub over : List Bool → List Bool → List Bool
over out m = out ++ drop (length out) m

module _ (out m : List Bool) (clear : length out ≤ leading m) where
  -- A part that ends in the draft's bits, one that begins behind them, and one across their end.
  early : (w at : ℕ) → at + w ≤ length out → part w at (over out m) ≡ part w at out
  early w at h =
      let l : w ≤ length (drop at out) = rw length-drop (omega arith) in
      let k : w ≤ length (drop at out ++ drop (length out) m) = rw length-append (omega arith) in
      rw (
        drop-append-le at out (drop (length out) m) (omega arith),
        front_take w (drop at out ++ drop (length out) m) k,
        take-append-le w (drop at out) (drop (length out) m) l,
        front_take w (drop at out) l,
      )

  late : (w at : ℕ) → length out ≤ at → part w at (over out m) ≡ part w at m
  late w at h =
      let e : length out + (at - length out) ≡ at = omega arith in
      rw (← e, ← drop-drop (at - length out) (length out) (over out m), drop_at out (drop (length out) m) (length out) refl, drop-drop)

  across : (o s at : ℕ) → at + o ≡ length out → bit_or (part (o + s) at out) (part (o + s) at m) ≡ part (o + s) at (over out m)
  across o s at e =
      rw (
        part_add o s at out,
        part_add o s at m,
        part_add o s at (over out m),
        part_past s (at + o) out (omega arith),
        leading_part o at m (omega arith),
        early o at (omega arith),
        late s (at + o) (omega arith),
        add-zero,
        zero-mul,
        zero-add,
      )
      (or_shifted (part o at out) s (part s (at + o) m) (part_lt s (at + o) m))

  or_part : (w at : ℕ) → bit_or (part w at out) (part w at m) ≡ part w at (over out m)
  or_part w at = go (leb (length out) at) (leb (at + w) (length out)) refl refl
    where
      go : (a b : Bool) → leb (length out) at ≡ a → leb (at + w) (length out) ≡ b → bit_or (part w at out) (part w at m) ≡ part w at (over out m)
      go true b p q =
          let h : length out ≤ at = leb-true _ _ p in
          rw (part_past w at out h, late w at h)
      go false true p q =
          let h : at + w ≤ length out = leb-true _ _ q in
          rw (leading_part w at m (omega arith), early w at h) (or_zero_r (part w at out))
      go false false p q =
          let h : at < length out = leb-false _ _ p in
          let l : length out < at + w = leb-false _ _ q in
          let e : (length out - at) + (w - (length out - at)) ≡ w = omega arith in
          rw e at (across (length out - at) (w - (length out - at)) at (omega arith))

-- A draft of some bits, with the others laid behind them in its first j words: none yet, one more, and all.
pub record Over (n : ℕ) (out m : List Bool) (j : ℕ) (xs : List ℕ) : Type 0 where
  pub long : length xs ≡ n
  pub laid : (i : ℕ) → i < j → get_or xs i 0 ≡ part 32 (32 * i) (over out m)
  pub left : (i : ℕ) → j ≤ i → i < n → get_or xs i 0 ≡ part 32 (32 * i) out

pub over_none : (n : ℕ) (out m : List Bool) (xs : List ℕ) → length xs ≡ n → xs ≡ cut 32 32 n out → Over n out m 0 xs
over_none n out m xs long e =
    record {
      long = long;
      laid = λ i h. absurd (omega arith);
      left = λ i h l. ap (λ (ys : List ℕ). get_or ys i 0) e ∙ cut_at 32 32 n i out l;
    }

pub over_more : {n : ℕ} {out m : List Bool} {j : ℕ} {xs : List ℕ} {y : ℕ} (k : ℕ) → j + 1 ≡ k → Over n out m j xs → length out ≤ leading m → j < n → y ≡ part 32 (32 * j) m
    → Over n out m k (set xs j (bit_or (get_or xs j 0) y))
over_more {n} {out} {m} {j} {xs} {y} k next so clear h e =
    let l : j < length xs = omega (arith, so.long) in
    let x : ℕ = bit_or (get_or xs j 0) y in
    let here : x ≡ part 32 (32 * j) (over out m) = rw (so.left j (omega arith) h, e) (or_part out m clear 32 (32 * j)) in
    record {
      long = simp length-set so.long;
      laid = λ i g. below_more (λ i. get_or (set xs j x) i 0 ≡ part 32 (32 * i) (over out m)) j
          (λ i f. get_or-set_other xs j i x 0 (λ same. omega arith) ∙ so.laid i f) (get_or-set_same xs j x 0 l ∙ here) i (omega arith);
      left = λ i f g. get_or-set_other xs j i x 0 (λ same. omega arith) ∙ so.left i (omega arith) g;
    }

pub over_all : {n : ℕ} {out m : List Bool} {j : ℕ} {xs : List ℕ} → Over n out m j xs → length out ≤ leading m → length m ≤ 32 * j
    → xs ≡ cut 32 32 n (over out m)
over_all {n} {out} {m} {j} {xs} so clear h = is_cut 32 32 n xs (over out m) so.long (λ i k. go i k (ltb i j) refl)
  where
    go : (i : ℕ) → i < n → (t : Bool) → ltb i j ≡ t → get_or xs i 0 ≡ part 32 (32 * i) (over out m)
    go i k true e = so.laid i (ltb-true _ _ e)
    go i k false e =
        let past : j ≤ i = ltb-false _ _ e in
        let all = leading_le m in
        so.left i past k ∙ part_past 32 (32 * i) out (omega arith) ∙ sym (late out m clear 32 (32 * i) (omega arith) ∙ part_past 32 (32 * i) m (omega arith))

-- The two halves of a whole word.
module _ (xs : List ℕ) (fits : (i : ℕ) → get_or xs i 0 < 2 ^ 64) (k : ℕ) where
  pub high_half : get_or xs k 0 / 2 ^ 32 ≡ part 32 (32 * (2 * k)) (spread 64 xs)
  high_half =
      let e : 64 * k ≡ 32 * (2 * k) = omega arith in
      rw (part_spread 64 xs k fits, e) at (part_high 32 32 (64 * k) (spread 64 xs))

  pub low_half : get_or xs k 0 % 2 ^ 32 ≡ part 32 (32 * (2 * k + 1)) (spread 64 xs)
  low_half =
      let e : 64 * k + 32 ≡ 32 * (2 * k + 1) = omega arith in
      rw (part_spread 64 xs k fits, e) at (part_low 32 32 (64 * k) (spread 64 xs))
