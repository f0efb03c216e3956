use Prim.Native.Nat.{ℕ, ◌*◌, ◌<◌}
use mathlib.Core.List.{List, ◌++◌}
use mathlib.Core.Bool.{Bool}
use mathlib.Core.Path.{◌≡◌, sym, ◌∙◌}
use native.Mathlib.Omega.{arith}
use lib.ListN.{length, get_or, take, drop}
use Rattle.std.proofs.lemmas.List.Edits.{fill_by_more}
use Rattle.bits.specs.Bits.{number, zeros, cut, cleared}
use Rattle.bits.proofs.Fronts.{part, part_padded}
use Rattle.bits.proofs.Cutting.{cut_at, is_cut}
use Rattle.bits.proofs.rest.Goals as goal

-- Every second word is one of those that stand side by side.
word : (words : List ℕ) (bs : List Bool) (k : ℕ) → words ≡ cut 32 64 (length words) bs → 2 * k < length words
    → get_or words (2 * k) 0 ≡ number (take 64 (drop (64 * k) bs ++ zeros 64))
word words bs k e h =
    let d : 32 * (2 * k) ≡ 64 * k = omega arith in
    rw (e, cut_at 32 64 (length words) (2 * k) bs h, d) (part_padded 64 (64 * k) bs)

pub loop-k-preserved : goal.loop-k-preserved
loop-k-preserved c bs e =
    let s = c.loop-k in
    let bits = cleared c.args.at bs in
    rw (c.cleared.ensures bs (word _ bs s.k e (omega arith)) ∙ sym (part_padded 64 (64 * s.k) bits))
    (fill_by_more (λ (i : ℕ). part 64 (64 * i) bits) s.out s.k 0 (omega arith) (s.invariant bs e))

pub returns : goal.returns
returns c bs e = is_cut 64 64 _ _ _ c.loop-k.auto.out (λ i h. c.loop-k.invariant bs e i (omega arith))
