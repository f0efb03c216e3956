use Prim.Native.Nat.{ℕ, ◌*◌}
use mathlib.Core.Path.{◌∙◌}
use native.Mathlib.Omega.{arith}
use Rattle.std.proofs.lemmas.List.Edits.{fill_by_more}
use Rattle.bits.proofs.Fronts.{part}
use Rattle.bits.proofs.Cutting.{draft_byte, is_cut, cut_at}
use Rattle.bits.proofs.pack.Goals as goal

pub loop-i-init : goal.loop-i-init
loop-i-init c out e k h = c.pack_words-packed.ensures.bytes_after out e k h ∙ cut_at 8 8 _ k out (omega arith)

pub loop-i-preserved : goal.loop-i-preserved
loop-i-preserved c out e =
    let s = c.loop-i in
    rw (draft_byte _ out e s.i (omega arith)) (fill_by_more (λ (k : ℕ). part 8 (8 * k) out) s.bytes s.i 0 (omega arith) (s.invariant out e))

pub returns : goal.returns
returns c out e = is_cut 8 8 _ _ _ (omega arith) (λ i h. c.loop-i.invariant out e i (omega arith))
