use Prim.Native.Nat.{◌*◌, ◌%◌, ◌^◌, ◌≤◌}
use mathlib.Core.Path.{◌≡◌, refl, sym, ◌∙◌}
use native.Mathlib.Omega.{arith}
use lib.Dec.{lit<, lit≤}
use lib.ListN.{length}
use Rattle.bits.specs.Bits.{spread}
use Rattle.bits.proofs.Fronts.{part, part_padded, shifted_up}
use Rattle.bits.proofs.Cutting.{length-spread, filled_none, filled_more, filled_all}
use Rattle.bits.proofs.words.Goals as goal

-- The words of a record are those of the cut, one by one.
pub returns : goal.returns
returns c =
    let bits = spread 8 c.args.bytes.now in
    let short : length bits ≤ 232 = rw (length-spread, c.requires.0) (lit≤ tt) in
    let word0 = filled_more 1 refl (filled_none 32 64 8 bits c.args.words.now c.requires.1) (lit< tt) (c.eight.ensures ∙ sym (part_padded 64 0 bits)) in
    let word1 = filled_more 2 refl word0 (lit< tt) (c.eight-2.ensures ∙ sym (part_padded 64 32 bits)) in
    let word2 = filled_more 3 refl word1 (lit< tt) (c.eight-3.ensures ∙ sym (part_padded 64 64 bits)) in
    let word3 = filled_more 4 refl word2 (lit< tt) (c.eight-4.ensures ∙ sym (part_padded 64 96 bits)) in
    let word4 = filled_more 5 refl word3 (lit< tt) (c.eight-5.ensures ∙ sym (part_padded 64 128 bits)) in
    let word5 = filled_more 6 refl word4 (lit< tt) (c.eight-6.ensures ∙ sym (part_padded 64 160 bits)) in
    let last : c.eight-last.result * 2 ^ 24 % 2 ^ 64 ≡ part 64 192 bits =
    rw (c.eight-last.ensures ∙ sym (part_padded 64 168 bits)) (shifted_up 24 40 168 bits short) in
    let word6 = filled_more 7 refl word5 (lit< tt) last in
    let word7 = filled_more 8 refl word6 (lit< tt) (rw last (shifted_up 32 32 192 bits (omega arith))) in
    filled_all word7 (lit≤ tt)
