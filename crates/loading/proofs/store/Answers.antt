use Rattle.std.proofs.Common.{◌≡◌, Err, rules}
use mathlib.Core.Path.{refl}
use native.Mathlib.Omega.{arith}
use Rattle.rows.proofs.Stepping.{numbered}
use Rattle.loading.proofs.Storing.{store_refused, store_done}
use Rattle.loading.proofs.store.Goals as goal

pub returns-in_err-write : goal.returns-in_err-write
returns-in_err-write c file new =
    let is : c.from_residual.result ≡ Err c.in_err-write.field-0.0 = search rules in
    rw is (store_refused _ _ _ _ _ _ (λ z. omega arith) c.without.ensures c.entry.ensures c.with-renewed.ensures c.in_err-write.ensures (numbered _))

pub returns : goal.returns
returns c file new =
    store_done _ _ _ _ _ _ (λ z. omega arith) c.without.ensures c.entry.ensures c.with-renewed.ensures c.in_ok-write.ensures refl
