use Rattle.std.proofs.Common.{◌≡◌, ◌*◌, length, arith}
use Rattle.bits.specs.Bits.{spread}
use Rattle.bits.proofs.Cutting.{length-spread}
use Rattle.rows.specs.Inner.Standing.{stand}
use Rattle.rows.proofs.Margins.{kept, kept_first, kept_past}
use Rattle.rows.proofs.margin.put_words.Goals as goal

-- A one in a field's place, one past the room, or none.
pub returns-then-first-c : goal.returns-then-first-c
returns-then-first-c c =
    let m = spread 64 c.args.whole.now in
    let long : length m ≡ 64 * length c.args.whole.now = length-spread 64 c.args.whole.now in
    rw c.astray.ensures
    (kept_first c.args.draft.now c.args.room (stand c.args.c) m _ c.requires.0.within (omega (arith, c.requires.1.1.0)) c.first_one-first.ensures c.if-first-c.true)

pub returns-then-past-end : goal.returns-then-past-end
returns-then-past-end c =
    let m = spread 64 c.args.whole.now in
    let long : length m ≡ 64 * length c.args.whole.now = length-spread 64 c.args.whole.now in
    rw c.astray-then-past-end.ensures
    (kept_past c.args.draft.now c.args.room (stand c.args.c) m _ _ c.requires.0.within (omega (arith, c.requires.1.1.0)) c.first_one-first.ensures c.if-first-c.false c.first_one-past.ensures (rw long c.if-past-end.true))

pub returns : goal.returns
returns c =
    let m = spread 64 c.args.whole.now in
    let long : length m ≡ 64 * length c.args.whole.now = length-spread 64 c.args.whole.now in
    kept c.args.draft.now _ c.args.room (stand c.args.c) m _ _ c.lay_words.auto.draft c.requires.1.0 c.requires.0.within
    c.first_one-first.ensures c.if-first-c.false c.first_one-past.ensures (rw long c.if-past-end.false) c.lay_words.ensures
