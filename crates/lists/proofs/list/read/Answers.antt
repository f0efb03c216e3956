use Rattle.std.proofs.Common.{◌≡◌, Err, rules}
use mathlib.Core.Path.{ap, ◌∙◌}
use Rattle.rows.specs.Inner.Standing.{stand}
use native.Mathlib.Omega.{arith}
use Rattle.rows.specs.Inner.Line.{taken, ◌▸◌}
use Rattle.records.proofs.Answering.{eight_words, met_none, met_one}
use Rattle.lists.specs.List.{list_fault, no_list}
use Rattle.lists.proofs.Listing.{list_short, list_outside}
use Rattle.lists.proofs.Lines.{sofar_start, sofar_few, sofar_limit, sofar_ready, sofar_more, sofar_refused, sofar_read, sofar_denied, line_refused}
use Rattle.lists.proofs.Judging.{obeyed_rule}
use Rattle.lists.proofs.list.read.Goals as goal

pub returns-then-bytes-ne-BYTES : goal.returns-then-bytes-ne-BYTES
returns-then-bytes-ne-BYTES c = list_short _ _ (list_fault c.args.n) _ _ _ c.if-bytes-ne-BYTES.true

pub returns-then-outside : goal.returns-then-outside
returns-then-outside c = list_outside _ _ (list_fault c.args.n) _ _ _ c.if-bytes-ne-BYTES.false (rw c.outside.ensures at c.if-outside.true)

pub slice_bounds-at_most-end : goal.slice_bounds-at_most-end
slice_bounds-at_most-end c = eight_words c.args.bytes.now _ c.words.ensures

pub at_most-head-requires : goal.at_most-head-requires
at_most-head-requires c = let eight = eight_words c.args.bytes.now _ c.words.ensures in (record { within = omega arith; covered = omega (arith, eight) }, omega arith)

pub returns-in_err-met : goal.returns-in_err-met
returns-in_err-met c =
    let a = c.args in
    let inside = rw c.outside.ensures at c.if-outside.false in
    let head = c.at_most-head.ensures in
    let one = c.in_err-met.ensures in
    let is : c.from_residual.result ≡ Err c.in_err-met.field-0.0 = search rules in
    rw is (ap no_list one ∙ line_refused a.bytes.now a.n a.c _ c.if-bytes-ne-BYTES.false inside c.words.ensures 0 _ _ (omega arith) (head ▸ taken) head.ready (met_one _ (stand c.at_most-head.result) one))

pub loop-k-init : goal.loop-k-init
loop-k-init c =
    let a = c.args in
    let inside = rw c.outside.ensures at c.if-outside.false in
    sofar_start a.bytes.now a.n a.c _ _ c.if-bytes-ne-BYTES.false inside c.words.ensures c.at_most-head.ensures (met_none (stand c.at_most-head.result) c.in_ok-met.ensures)

pub slice_bounds-take_entry-end : goal.slice_bounds-take_entry-end
slice_bounds-take_entry-end c = eight_words c.args.bytes.now _ c.loop-k.invariant.cuts

pub take_entry-taken-requires : goal.take_entry-taken-requires
take_entry-taken-requires c = c.loop-k.invariant.ready

pub returns-in_err-met-2 : goal.returns-in_err-met-2
returns-in_err-met-2 c =
    let one = c.in_err-met-2.ensures in
    let is : c.from_residual-in_err-met-2.result ≡ Err c.in_err-met-2.field-0.0 = search rules in
    rw is (ap no_list one ∙ sofar_refused c.loop-k.invariant _ _ c.take_entry-taken.ensures (omega arith) (met_one _ (stand c.take_entry-taken.result.last) one))

pub with-spent-requires : goal.with-spent-requires
with-spent-requires c = sofar_few c.loop-k.invariant (omega arith)

pub with-judged-requires : goal.with-judged-requires
with-judged-requires c = sofar_limit c.loop-k.invariant

pub loop-k-preserved : goal.loop-k-preserved
loop-k-preserved c =
    sofar_more c.loop-k.invariant _ _ _ _ c.take_entry-taken.ensures (omega arith) (met_none (stand c.take_entry-taken.result.last) c.in_ok-met-2.ensures) c.with-spent.ensures c.with-judged.ensures

pub slice_bounds-end-end : goal.slice_bounds-end-end
slice_bounds-end-end c = eight_words c.args.bytes.now _ c.loop-k.invariant.cuts

pub end-requires : goal.end-requires
end-requires c = (c.loop-k.invariant.ready, omega arith)

pub returns-in_err-met-3 : goal.returns-in_err-met-3
returns-in_err-met-3 c =
    let one = c.in_err-met-3.ensures in
    let is : c.from_residual-in_err-met-3.result ≡ Err c.in_err-met-3.field-0.0 = search rules in
    rw is (ap no_list one ∙ sofar_denied c.loop-k.invariant (omega arith) _ _ c.end.ensures (obeyed_rule _ _ c.obeyed-end.ensures c.fault.ensures) (met_one _ (stand c.obeyed-end.result) one))

pub tally-list-requires : goal.tally-list-requires
tally-list-requires c = sofar_ready c.loop-k.invariant

pub returns : goal.returns
returns c = sofar_read c.loop-k.invariant (omega arith) _ _ c.end.ensures (obeyed_rule _ _ c.obeyed-end.ensures c.fault.ensures) (met_none (stand c.obeyed-end.result) c.in_ok-met-3.ensures) _ c.tally-list.ensures
