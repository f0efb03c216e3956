use Prim.Native.Nat.{ℕ, ◌+◌, ◌-◌, ◌*◌}
use mathlib.Core.Path.{◌≡◌, sym}
use native.Mathlib.Omega.{arith}
use Rattle.contract.specs.Contract.{contract_read}
use Rattle.std.specs.Prelude.{Ok}
use Rattle.contract.proofs.Telling.{contract_one}
use Rattle.loading.proofs.Storing.{new_put}
use Rattle.loading.proofs.put_new.Goals as goal

pub returns : goal.returns
returns c =
    let at : ℕ = 29 * (c.args.pointer - 1) in
    let size : at + 29 - at ≡ 29 = omega arith in
    let reads : contract_read c.args.kind c.args.new.now ≡ Ok _ = sym (contract_one (Ok _) _ c.in-Ok.ensures) in
    new_put c.args.kind c.args.pointer c.args.new.now c.args.file.now _ _ _ _ size c.requires.1 c.requires.0 (λ i. (c.type_inv.new i).fits) reads c.write.ensures
