use Prim.Native.Nat.{◌+◌, ◌-◌, ◌*◌}
use mathlib.Core.Path.{◌≡◌, refl, sym, ◌∙◌}
use mathlib.Core.List.{append-nil}
use native.Mathlib.Omega.{arith}
use lib.ListN.{length, take, replicate}
use lib.Seq.{take_all}
use borrow.Author.Rules.{rules}
use Rattle.lists.specs.List.{entry_numbers}
use Rattle.lists.proofs.Listing.{length_of_map}
use Rattle.lists.proofs.Rowing.{flat, laid_more}
use Rattle.lists.proofs.Lines.{numbers_flat}
use Rattle.lists.proofs.list.ContractList.numbers.Goals as goal

pub loop-k-preserved : goal.loop-k-preserved
loop-k-preserved c =
    let list = c.args.self in
    let k = c.loop-k.k in
    let eight : length list.entries ≡ 8 = search (rules, length_of_map) in
    let six : 1 + 6 * k + 6 - (1 + 6 * k) ≡ 6 = omega arith in
    rw six (laid_more entry_numbers 6 (λ e. refl) list.count list.entries k _ (replicate 49 0) (omega arith) (omega arith) c.loop-k.invariant (c.copy_from_slice.ensures.after ∙ c.numbers.ensures))

pub returns : goal.returns
returns c =
    let list = c.args.self in
    let eight : length list.entries ≡ 8 = search (rules, length_of_map) in
    let last : c.loop-k.k ≡ 8 = omega arith in
    let all : take 8 list.entries ≡ list.entries = take_all 8 list.entries (omega arith) in
    rw (last, all, append-nil (flat entry_numbers list.entries)) at c.loop-k.invariant ∙ sym (numbers_flat list eight)
