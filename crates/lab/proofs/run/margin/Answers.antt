use Rattle.std.proofs.Common.{◌+◌, ◌*◌, sym, refl, ◌∙◌, rules}
use Rattle.bits.specs.Bits.{spread, cleared}
use Rattle.bits.proofs.Fronts.{part_padded}
use Rattle.bits.proofs.Cutting.{filled_more, filled_all}
use Rattle.lab.proofs.run.margin.Goals as goal

pub loop-k-preserved : goal.loop-k-preserved
loop-k-preserved g c =
    let bits = cleared c.args.end (spread 8 c.args.bytes.now) in
    filled_more (c.loop-k.k + 1) refl c.loop-k.invariant (search rules) (c.margin_word.ensures ∙ sym (part_padded 64 (64 * c.loop-k.k) bits))

pub returns : goal.returns
returns g c = filled_all c.loop-k.invariant (search rules)
