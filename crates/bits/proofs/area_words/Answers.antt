use Prim.Native.Nat.{ℕ, ◌*◌}
use mathlib.Core.Path.{sym, ◌∙◌}
use native.Mathlib.Omega.{arith}
use Rattle.std.proofs.lemmas.List.Edits.{fill_by_more}
use Rattle.bits.specs.Bits.{spread}
use Rattle.bits.proofs.Fronts.{part, part_padded}
use Rattle.bits.proofs.Cutting.{is_cut}
use Rattle.bits.proofs.area_words.Goals as goal

pub loop-j-preserved : goal.loop-j-preserved
loop-j-preserved c =
    let s = c.loop-j in
    let bits = spread 8 c.args.bytes.now in
    rw (c.word.ensures ∙ sym (part_padded 64 (32 * s.j) bits)) (fill_by_more (λ (k : ℕ). part 64 (32 * k) bits) s.words s.j 0 (omega arith) s.invariant)

pub returns : goal.returns
returns c = is_cut 32 64 _ _ _ c.loop-j.auto.words (λ i h. c.loop-j.invariant i (omega arith))
