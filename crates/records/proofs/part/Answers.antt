use lib.ListN.{take, drop}
use native.Mathlib.Omega.{arith}
use mathlib.Core.Path.{◌≡◌, ap}
use Prim.Native.Nat.{ℕ, ◌+◌, ◌-◌, ◌*◌}
use borrow.Author.Tests.{le-leb, lt-leb}
use Rattle.records.proofs.part.Goals as goal

pub returns-then-k-lt1 : goal.returns-then-k-lt1
returns-then-k-lt1 c = rw (lt-leb _ _ c.if-k-lt1.true)

pub returns-then-file-k : goal.returns-then-file-k
returns-then-file-k c = rw (le-leb _ _ c.if-k-lt1.false, lt-leb _ _ c.if-file-k.true)

pub returns : goal.returns
returns c =
    let start : ℕ = 29 * (c.args.pointer - 1) in
    let sized : start + 29 - start ≡ 29 = omega arith in
    rw (le-leb _ _ c.if-k-lt1.false, le-leb _ _ c.if-file-k.false) (ap (λ (k : ℕ). take k (drop start c.args.file.now)) sized)
