use Rattle.std.proofs.Common.{◌≡◌, false, get_or, ℕ, ◌+◌, ◌*◌, ◌^◌, ◌<◌, ◌≤◌, Bool, List, ◌∙◌, arith, pow_mono}
use Rattle.bits.specs.Bits.{bit, spread, cleared}
use Rattle.bits.proofs.Fronts.{part, part_add, part_lt, part_padded}
use Rattle.bits.proofs.Cutting.{part_one}
use Rattle.lab.proofs.run.margin_word.Goals as goal

-- Up to 64 bits fit a word.
fits : (k at : ℕ) (bs : List Bool) → k ≤ 64 → part k at bs < 2 ^ 64
fits k at bs h = omega (arith, part_lt k at bs, pow_mono h)

-- One bit more.
made : (bs : List Bool) (word k from : ℕ) {b : ℕ} → word ≡ part k from bs → b ≡ bit (get_or bs (from + k) false) → word * 2 + b ≡ part (k + 1) from bs
made bs word k from h own = rw (part_add k 1 from bs, part_one (from + k) bs, h, own)

pub overflow_mul-word : goal.overflow_mul-word
overflow_mul-word c =
    let from = c.args.from in
    let bits = cleared c.args.end (spread 8 c.args.bytes.now) in
    omega (arith, part_add c.loop-k.k 1 from bits, fits (c.loop-k.k + 1) from bits (omega arith))

pub overflow_add-word : goal.overflow_add-word
overflow_add-word c =
    let bits = cleared c.args.end (spread 8 c.args.bytes.now) in
    omega (arith, made bits _ c.loop-k.k _ c.loop-k.invariant c.margin_bit.ensures, fits (c.loop-k.k + 1) c.args.from bits (omega arith))

pub loop-k-preserved : goal.loop-k-preserved
loop-k-preserved c = made _ _ c.loop-k.k _ c.loop-k.invariant c.margin_bit.ensures

pub returns : goal.returns
returns c =
    let all : c.loop-k.k ≡ 64 = omega arith in
    rw all at c.loop-k.invariant ∙ part_padded 64 c.args.from (cleared c.args.end (spread 8 c.args.bytes.now))
