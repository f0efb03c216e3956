use Prim.Native.Nat.{ℕ, ◌+◌, ◌*◌, ◌≤◌, ◌<◌, min}
use mathlib.Core.List.{List}
use mathlib.Core.Bool.{Bool}
use mathlib.Core.Path.{◌≡◌}
use native.Mathlib.Omega.{arith}
use lib.Count.{count_leading_zeros}
use lib.ListN.{length, get_or, drop, length-drop, drop_of_length-le}
use lib.Seq.{drop-drop}
use Rattle.bits.specs.Bits.{cut, leading}
use Rattle.bits.proofs.Fronts.{front}
use Rattle.bits.proofs.Cutting.{cut_at}
use Rattle.bits.proofs.Ones.{leading_front, leading_here, leading_past}
use Rattle.bits.proofs.next_in_words.Goals as goal

module _ (words : List ℕ) (bs : List Bool) (cuts : words ≡ cut 32 64 (length words) bs) (j : ℕ) (inside : j < length words) where
  -- What the code skips are the zeros in front of the first one of a word.
  skip : count_leading_zeros 64 (get_or words j 0) ≡ leading (front 64 (drop (32 * j) bs))
  skip = rw (cuts, cut_at 32 64 (length words) j bs inside) (leading_front 64 (drop (32 * j) bs))

  -- A word of zeros is passed over.
  pass : 64 ≤ count_leading_zeros 64 (get_or words j 0)
      → min (32 * j) (length bs) + leading (drop (32 * j) bs) ≡ min (32 * (j + 2)) (length bs) + leading (drop (32 * (j + 2)) bs)
  pass h =
      let next : 32 * j + 64 ≡ 32 * (j + 2) = omega arith in
      let past = rw (length-drop, drop-drop, next) at (leading_past 64 (drop (32 * j) bs) (omega (arith, skip))) in
      omega arith

pub returns-then-skip-lt64 : goal.returns-then-skip-lt64
returns-then-skip-lt64 c bs l e =
    let s = c.loop-j in
    let z = skip _ bs e s.j (omega arith) in
    let here = leading_here 64 (drop (32 * s.j) bs) (omega arith) in
    omega (arith, s.invariant bs l e)

pub loop-j-preserved : goal.loop-j-preserved
loop-j-preserved c bs l e = omega (arith, pass _ bs e c.loop-j.j (omega arith) c.if-skip-lt64.false, c.loop-j.invariant bs l e)

pub returns-else-skip-lt64 : goal.returns-else-skip-lt64
returns-else-skip-lt64 c bs l e =
    let s = c.loop-j in
    let past : length bs ≤ 32 * (s.j + 2) = omega arith in
    omega (arith, rw (drop_of_length-le bs past) at (pass _ bs e s.j (omega arith) c.if-skip-lt64.false), s.invariant bs l e)
