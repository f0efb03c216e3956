-- A contract taken from all of the table's fields, wherever the line of takes comes to its end: no field can be refused.
use Rattle.std.specs.Prelude.{ℕ, List, [], ◌≡◌}
use Rattle.rows.specs.Inner.Line.{start, Taken}
use Rattle.rows.specs.Inner.Standing.{Standing}
use Rattle.bip.specs.Table.{bip}
use Rattle.bip.specs.Value.{bip_of}
use Rattle.bip.specs.declared.BipContract.{BipContract}

pub record TakenWhole (words : List ℕ) (b : BipContract) : Type 0 where
  pub all : List ℕ
  pub last : Standing
  pub taken : Taken words 232 bip [] start all last
  pub value : b ≡ bip_of all
