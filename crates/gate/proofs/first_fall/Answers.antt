use Prim.Native.Nat.{ℕ, ◌*◌}
use mathlib.Core.Path.{◌≡◌, ap, ◌∙◌}
use native.Mathlib.Nat.{zero-add}
use native.Mathlib.Omega.{arith}
use lib.ListN.{length}
use Rattle.std.proofs.lemmas.Grind.{common_steps}
use Rattle.bits.specs.Bits.{spread, leading}
use Rattle.bits.proofs.Cutting.{length-spread}
use Rattle.records.proofs.Answering.{all_words}
use Rattle.gate.proofs.first_fall.Goals as goal

pub returns : goal.returns
returns c =
    let falls = c.keep_only.new.out in
    let long : length (spread 8 falls) ≡ 232 = length-spread 8 falls ∙ ap (λ (n : ℕ). 8 * n) c.keep_only.auto.out in
    let cuts = all_words falls _ c.words.ensures in
    let found = c.next_one-place.ensures (spread 8 falls) long cuts ∙ zero-add _ ∙ ap leading c.keep_only.ensures in
    grind (arith, common_steps)
