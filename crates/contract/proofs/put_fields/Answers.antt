use Prim.Native.Nat.{ℕ}
use mathlib.Core.List.{[]}
use mathlib.Core.Bool.{true, false}
use mathlib.Core.Path.{◌≡◌, sym, ◌∙◌}
use native.Mathlib.Omega.{arith}
use borrow.Author.Tests.{eq-eqb, ne_eqb}
use Rattle.rows.specs.Table.Contract.{contract42, contract50}
use Rattle.rows.proofs.Running.{puts_append}
use Rattle.contract.specs.Contract.{agrees}
use Rattle.contract.proofs.Writing.{disagreed_ready}
use Rattle.contract.proofs.put_fields.Goals as goal

pub returns-then-not-agrees : goal.returns-then-not-agrees
returns-then-not-agrees c =
    let no : agrees c.args.kind c.args.c ≡ false = sym c.agrees.ensures ∙ c.if-not-agrees.true in
    record {
      ready = rw c.disagreed.ensures (disagreed_ready (c.put_head-head.ensures []).ready);
      agreed = λ yes. let z : ◌≡◌ {A = ℕ} 0 1 = cc in absurd (omega arith);
      opposed = λ same. record { draft = _; last = _; puts = (c.put_head-head.ensures []).puts; stops = c.disagreed.ensures };
    }

pub put_carnet-requires : goal.put_carnet-requires
put_carnet-requires c = (c.put_head-head.ensures []).ready

pub returns-then-kind-eq-CARNET : goal.returns-then-kind-eq-CARNET
unfolding contract42
returns-then-kind-eq-CARNET c =
    let kind = eq-eqb _ _ c.if-kind-eq-CARNET.true in
    let yes : agrees c.args.kind c.args.c ≡ true = sym c.agrees.ensures ∙ c.if-not-agrees.false in
    record {
      ready = (c.put_carnet.ensures c.args.c).ready;
      agreed = λ same. rw (kind, ← c.carnet.ensures) (puts_append (c.put_head-head.ensures _).puts (c.put_carnet.ensures c.args.c).puts);
      opposed = λ no. let z : ◌≡◌ {A = ℕ} 0 1 = cc in absurd (omega arith);
    }

pub put_urban-requires : goal.put_urban-requires
put_urban-requires c = (c.put_head-head.ensures []).ready

pub returns : goal.returns
unfolding contract50
returns c =
    let kind = ne_eqb _ _ c.if-kind-eq-CARNET.false in
    let yes : agrees c.args.kind c.args.c ≡ true = sym c.agrees.ensures ∙ c.if-not-agrees.false in
    record {
      ready = (c.put_urban.ensures c.args.c).ready;
      agreed = λ same. rw (kind, ← c.urban.ensures) (puts_append (c.put_head-head.ensures _).puts (c.put_urban.ensures c.args.c).puts);
      opposed = λ no. let z : ◌≡◌ {A = ℕ} 0 1 = cc in absurd (omega arith);
    }
