use Rattle.std.proofs.Common.{◌≡◌, Err, sym, ap, ◌∙◌, rules, eq-eqb, ne_eqb}
use Rattle.bits.specs.Bits.{spread}
use Rattle.rows.specs.Inner.Standing.{stand}
use Rattle.records.proofs.Answering.{met_none, met_one}
use Rattle.contract.proofs.Reading.{rest_none, rest42, rest50, told_refused, told_whole}
use Rattle.contract.proofs.read.Goals as goal

pub returns-in_err-met : goal.returns-in_err-met
returns-in_err-met c =
    let h = c.take_head-front.result.value in
    let none = sym c.follow.ensures ∙ c.if-not-follow.true in
    let last = stand c.take_head-front.result.last in
    let one = c.in_err-met.ensures in
    let is : c.from_residual.result ≡ Err c.in_err-met.field-0.0 = search rules in
    rw is (told_refused c.args.bytes.now c.if-bytes-ne-BYTES.false (sym c.known.ensures ∙ c.if-not-known.false) c.words.ensures (rest_none _ c.args.kind h last c.take_head-front.ensures none) _ one (met_one _ last one))

pub returns-then-not-follow : goal.returns-then-not-follow
returns-then-not-follow c =
    let h = c.take_head-front.result.value in
    let none = sym c.follow.ensures ∙ c.if-not-follow.true in
    let last = stand c.take_head-front.result.last in
    told_whole c.args.bytes.now c.if-bytes-ne-BYTES.false (sym c.known.ensures ∙ c.if-not-known.false) c.words.ensures (rest_none _ c.args.kind h last c.take_head-front.ensures none)
    c.whole.ensures.own (c.whole.ensures.margin (spread 8 c.args.bytes.now) c.words.ensures) (met_none last c.in_ok-met.ensures)

pub returns-in_err-met-2 : goal.returns-in_err-met-2
returns-in_err-met-2 c =
    let h = c.take_head-front.result.value in
    let kind = eq-eqb _ _ c.if-kind-eq-CARNET.true in
    let last = stand c.take_carnet-carnet.result.last in
    let one = c.in_err-met-2.ensures in
    let is : c.from_residual-in_err-met-2.result ≡ Err c.in_err-met-2.field-0.0 = search rules in
    rw is (told_refused c.args.bytes.now c.if-bytes-ne-BYTES.false (sym c.known.ensures ∙ c.if-not-known.false) c.words.ensures (rest42 {h = h} c.take_head-front.ensures (sym c.follow.ensures ∙ c.if-not-follow.false) c.take_carnet-carnet.result.value kind (c.take_carnet-carnet.ensures h)) _ one (met_one _ last one))

pub returns-then-kind-eq-CARNET : goal.returns-then-kind-eq-CARNET
returns-then-kind-eq-CARNET c =
    let h = c.take_head-front.result.value in
    let kind = eq-eqb _ _ c.if-kind-eq-CARNET.true in
    let last = stand c.take_carnet-carnet.result.last in
    told_whole c.args.bytes.now c.if-bytes-ne-BYTES.false (sym c.known.ensures ∙ c.if-not-known.false) c.words.ensures (rest42 {h = h} c.take_head-front.ensures (sym c.follow.ensures ∙ c.if-not-follow.false) c.take_carnet-carnet.result.value kind (c.take_carnet-carnet.ensures h))
    c.whole-then-kind-eq-CARNET.ensures.own (c.whole-then-kind-eq-CARNET.ensures.margin (spread 8 c.args.bytes.now) c.words.ensures) (met_none last c.in_ok-met-2.ensures)

pub returns-in_err-met-3 : goal.returns-in_err-met-3
returns-in_err-met-3 c =
    let h = c.take_head-front.result.value in
    let kind = ne_eqb _ _ c.if-kind-eq-CARNET.false in
    let last = stand c.take_urban-urban.result.last in
    let one = c.in_err-met-3.ensures in
    let is : c.from_residual-in_err-met-3.result ≡ Err c.in_err-met-3.field-0.0 = search rules in
    rw is (told_refused c.args.bytes.now c.if-bytes-ne-BYTES.false (sym c.known.ensures ∙ c.if-not-known.false) c.words.ensures (rest50 {h = h} c.take_head-front.ensures (sym c.follow.ensures ∙ c.if-not-follow.false) c.take_urban-urban.result.value kind (c.take_urban-urban.ensures h)) _ one (met_one _ last one))

pub returns : goal.returns
returns c =
    let h = c.take_head-front.result.value in
    let kind = ne_eqb _ _ c.if-kind-eq-CARNET.false in
    let last = stand c.take_urban-urban.result.last in
    told_whole c.args.bytes.now c.if-bytes-ne-BYTES.false (sym c.known.ensures ∙ c.if-not-known.false) c.words.ensures (rest50 {h = h} c.take_head-front.ensures (sym c.follow.ensures ∙ c.if-not-follow.false) c.take_urban-urban.result.value kind (c.take_urban-urban.ensures h))
    c.whole-2.ensures.own (c.whole-2.ensures.margin (spread 8 c.args.bytes.now) c.words.ensures) (met_none last c.in_ok-met-3.ensures)
