use Rattle.std.proofs.Common.{◌≡◌, Ok, Err, rules}
use mathlib.Core.Path.{refl, ◌∙◌}
use Rattle.rows.proofs.Stepping.{numbered}
use Rattle.loading.proofs.Storing.{read_fair, store_none, end_list, end_rest, end_store}
use Rattle.loading.proofs.settle.Goals as goal

pub returns-in_err-old : goal.returns-in_err-old
returns-in_err-old c file new =
    let is : c.from_residual.result ≡ Err c.in_err-old.field-0.0 = search rules in
    rw is (end_list _ _ _ _ _ _ c.in_err-old.ensures (numbered _))

pub returns-in_err-rest : goal.returns-in_err-rest
returns-in_err-rest c file new =
    let is : c.from_residual-in_err-rest.result ≡ Err c.in_err-rest.field-0.0 = search rules in
    let of : c.args.rest ≡ Err c.in_err-rest.field-0.0 = c.in_err-rest.was in
    rw (is, of) (end_rest _ _ _ _ _ _ c.in_ok-old.ensures refl (numbered _))

pub place-requires : goal.place-requires
place-requires c = let s = c.requires in (s.0, s.1, s.2, read_fair _ _ _ c.in_ok-old.ensures refl)

pub returns-in_default : goal.returns-in_default
returns-in_default c file new =
    let of : c.args.rest ≡ Ok _ = c.in_ok-rest.was in
    rw of (store_none _ _ _ _ _ _ refl ∙ end_store _ _ _ _ _ _ c.in_ok-old.ensures refl refl 0 c.in_default.ensures.pointer)

pub returns : goal.returns
returns c file new =
    let of : c.args.rest ≡ Ok _ = c.in_ok-rest.was in
    rw of (c.store.ensures file new ∙ end_store _ _ _ _ _ _ c.in_ok-old.ensures refl refl _ c.in-Some.ensures.pointer)
