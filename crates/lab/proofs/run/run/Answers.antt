use Rattle.std.proofs.Common.{◌+◌, ◌<◌, ◌≤◌, map, drop, length, ap, ◌∙◌, arith, drop_of_length-le}
use Rattle.bits.specs.Bits.{spread}
use Rattle.bits.proofs.Cutting.{length-spread}
use Rattle.lab.specs.Layout.{row_of}
use Rattle.lab.specs.Machine.{Reader, reader, run}
use Rattle.lab.proofs.Running.{begun_most, run_from}
use Rattle.lab.proofs.run.run.Goals as goal

pub loop-place-init : goal.loop-place-init
loop-place-init c = rw (ap (λ (r : Reader). r.most) c.begin-state.ensures ∙ begun_most _ _ _)

pub loop-place-preserved : goal.loop-place-preserved
loop-place-preserved c =
    let a = c.args in
    let bits = spread 8 a.bytes.now in
    let inside : c.loop-place.place < length bits = rw length-spread (omega arith) in
    let rows = a.rows.now in
    let step = rw c.bit_at.ensures at c.step-state.ensures in
    ap (λ (r : Reader). run (map (row_of r.most) rows) r (drop (c.loop-place.place + 1) bits)) step
    ∙ run_from rows (reader c.loop-place.state) bits c.loop-place.place inside
    ∙ c.loop-place.invariant

pub returns : goal.returns
returns c =
    let bits = spread 8 c.args.bytes.now in
    let past : length bits ≤ c.loop-place.place = rw length-spread (omega arith) in
    rw (drop_of_length-le bits past, c.begin-state.ensures) at c.loop-place.invariant
