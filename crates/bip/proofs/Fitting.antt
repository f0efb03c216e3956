-- What a writing comes to, said plainly: 7 at the first number too wide for its field, by the field's first bit and its rank; else the numbers
-- one after the other. Document 02, Q-4.
use Prim.Native.Nat.{ℕ, suc, ◌+◌, ◌-◌, ◌^◌, ◌≤◌, ◌<◌}
use mathlib.Core.Bool.{Bool, true, false, not, ◌&&◌}
use mathlib.Core.List.{List, [], ◌∷◌, ◌++◌, map, append-nil, append_assoc}
use mathlib.Core.Path.{◌≡◌, refl, ap, ◌∙◌}
use native.Mathlib.Omega.{arith}
use lib.Dec.{eqb, ltb}
use lib.ListN.{length, take, drop, replicate}
use lib.Seq.{drop-append_seam}
use borrow.Author.Tests.{eq-eqb, lt-ltb, le-ltb}
use Rattle.bits.specs.Bits.{cut, spread}
use Rattle.bits.proofs.Spelling.{number_lt}
use Rattle.rows.specs.Row.{Row, pick, always, box}
use Rattle.rows.specs.Walk.{Outcome, done, refused, and_then, total, exceeds, walk, slots_of, laid_on, blank, stray, write}
use Rattle.rows.proofs.Walked.{walk_row}
use Rattle.records.specs.Answer.{accepted, denied, refusal_at, written, content, write_record}
use Rattle.bip.specs.Table.{bip}
use Rattle.bip.specs.Value.{complement, byte_of, tag_of, numbers_of, bip_written}
use Rattle.bip.specs.declared.Weekdays.{Weekdays}
use Rattle.bip.specs.declared.Extension.TheVariants.{Tag}
use Rattle.bip.specs.declared.BipContract.{BipContract}
use Rattle.bip.proofs.Whole.{widths, frame_bip}
use Rattle.bip.proofs.Values.{bits_in, byte_number}

-- How many numbers fit before the first that does not.
abbrev pub first_wide : List ℕ → List ℕ → ℕ
first_wide [] vs = 0
first_wide (w ∷ ws) [] = 0
first_wide (w ∷ ws) (v ∷ vs) = pick (ltb v (2 ^ w)) (suc (first_wide ws vs)) 0

-- Fields that are always there and take every number.
abbrev plain : List ℕ → List Row
plain ws = map (λ (w : ℕ). box w always) ws

-- The walk over them, in room for all.
module _ (room : ℕ) where
  abbrev judged : List ℕ → List ℕ → List ℕ → ℕ → ℕ → Outcome (List ℕ)
  judged ws vs seen i at =
      pick (exceeds ws vs) (refused 7 (at + total (take (first_wide ws vs) ws)) (i + first_wide ws vs)) (done (seen ++ vs) (at + total ws))

  walk_plain : (ws vs seen : List ℕ) (i at : ℕ) → length vs ≡ length ws → at + total ws ≤ room
      → walk room (slots_of (seen ++ vs)) (plain ws) i seen at ≡ judged ws vs seen i at
  walk_plain [] [] seen i at long fits = let here : at ≡ at + 0 = omega arith in rw (append-nil, ← here)
  walk_plain [] (v ∷ vs) seen i at long fits = absurd (omega arith)
  walk_plain (w ∷ ws) [] seen i at long fits = absurd (omega arith)
  walk_plain (w ∷ ws) (v ∷ vs) seen i at long fits =
      let own : take 1 (drop (length seen) (seen ++ (v ∷ vs))) ≡ v ∷ [] = rw (drop-append_seam seen (v ∷ vs)) in
      let within : at + (w + 0) ≤ room = omega arith in
      let past : ltb room (at + (w + 0)) ≡ false = le-ltb room (at + (w + 0)) within in
      let rest = rw (append_assoc seen (v ∷ []) vs) at (walk_plain ws vs (seen ++ (v ∷ [])) (suc i) (at + (w + 0)) (omega arith) (omega arith)) in
      rw (walk_row room (slots_of (seen ++ (v ∷ vs))) (box w always) (plain ws) i seen at (v ∷ []) own, past) (go (ltb v (2 ^ w)) rest)
    where
      k : ℕ
      k = first_wide ws vs

      next : Outcome (List ℕ)
      next = walk room (slots_of (seen ++ (v ∷ vs))) (plain ws) (suc i) (seen ++ (v ∷ [])) (at + (w + 0))

      go : (t : Bool)
          → next ≡ pick (exceeds ws vs) (refused 7 (at + (w + 0) + total (take k ws)) (suc i + k)) (done (seen ++ (v ∷ vs)) (at + (w + 0) + total ws))
          → pick (eqb (pick (pick t false true) 7 0) 0) next (refused (pick (pick t false true) 7 0) at i)
          ≡ pick (pick t (exceeds ws vs) true) (refused 7 (at + total (take (pick t (suc k) 0) (w ∷ ws))) (i + pick t (suc k) 0)) (done (seen ++ (v ∷ vs)) (at + total (w ∷ ws)))
      go true rest =
          let place : at + (w + 0) + total (take k ws) ≡ at + (w + total (take k ws)) = omega arith in
          let rank : suc i + k ≡ i + suc k = omega arith in
          let end : at + (w + 0) + total ws ≡ at + (w + total ws) = omega arith in
          rw (place, rank, end) at rest
      go false rest =
          let place : at ≡ at + 0 = omega arith in
          let rank : i ≡ i + 0 = omega arith in
          λ k. refused 7 (place k) (rank k)

-- Thirteen numbers come to their bits, or to the place and the rank of the first that is too wide.
abbrev place_wide : List ℕ → ℕ
place_wide vals = total (take (first_wide widths vals) widths)

bits_written : (vals : List ℕ) → length vals ≡ 13
    → write bip 232 (content vals (replicate 4 0))
    ≡ pick (exceeds widths vals) (refused 7 (place_wide vals) (first_wide widths vals)) (done (laid_on [] widths vals) 232)
unfolding write blank bip
bits_written vals sized =
    let place : 0 + place_wide vals ≡ place_wide vals = omega arith in
    let rank : 0 + first_wide widths vals ≡ first_wide widths vals = omega arith in
    rw (frame_bip vals, walk_plain 232 widths vals [] 0 0 sized (omega arith), place, rank) (go (exceeds widths vals) (place_wide vals) (first_wide widths vals))
  where
    go : (t : Bool) (at i : ℕ)
        → and_then (pick t (refused 7 at i) (done vals 232))
        (λ all end. blank 7 (stray 232 end (spread 64 (replicate 4 0))) (laid_on [] widths vals ++ take (232 - end) (drop end (spread 64 (replicate 4 0)))) end)
        ≡ pick t (refused 7 at i) (done (laid_on [] widths vals) 232)
    go true at i = refl
    go false at i = rw (append-nil (laid_on [] widths vals))

-- A contract is written exactly if each of its numbers fits its field.
pub bip_writes : (before : List ℕ) (b : BipContract) → length before ≡ 29
    → bip_written before b
    ≡ pick (exceeds widths (numbers_of b))
    (denied (refusal_at 7 (total (take (first_wide widths (numbers_of b)) widths)) (first_wide widths (numbers_of b))) before)
    (accepted (cut 8 8 29 (laid_on [] widths (numbers_of b))))
unfolding write_record
bip_writes before b long =
    rw (eq-eqb _ _ long)
    (ap (written before) (bits_written (numbers_of b) refl)
    ∙ go (exceeds widths (numbers_of b)) (place_wide (numbers_of b)) (first_wide widths (numbers_of b)) (laid_on [] widths (numbers_of b)))
  where
    go : (t : Bool) (at i : ℕ) (bs : List Bool)
        → written before (pick t (refused 7 at i) (done bs 232)) ≡ pick t (denied (refusal_at 7 at i) before) (accepted (cut 8 8 29 bs))
    go true at i bs = refl
    go false at i bs = rw long

-- In the value's terms: a date fits if it does, the days always do, a tag if it does and is not A000h.
pub date_fits : (n : ℕ) → ltb (complement n) (2 ^ 24) ≡ ltb n (2 ^ 24)
date_fits n = go (ltb n (2 ^ 24)) refl
  where
    go : (t : Bool) → ltb n (2 ^ 24) ≡ t → ltb (pick t (2 ^ 24 - 1 - n) n) (2 ^ 24) ≡ t
    go true e = let small : 2 ^ 24 - 1 - n < 2 ^ 24 = omega arith in lt-ltb (2 ^ 24 - 1 - n) (2 ^ 24) small
    go false e = e

pub days_fit : (d : Weekdays) → ltb (byte_of d) (2 ^ 8) ≡ true
days_fit d = rw (byte_number d) (lt-ltb _ (2 ^ 8) (number_lt (bits_in d)))

pub tag_fits : (n : ℕ) → ltb (tag_of (Tag n)) (2 ^ 16) ≡ (not (eqb n 0xA000) && ltb n (2 ^ 16))
tag_fits n = go (eqb n 0xA000)
  where
    go : (t : Bool) → ltb (pick t (2 ^ 16) n) (2 ^ 16) ≡ (not t && ltb n (2 ^ 16))
    go true = refl
    go false = refl
