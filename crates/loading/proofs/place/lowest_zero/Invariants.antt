use Rattle.std.proofs.Common.{◌≡◌, ◌+◌, ◌-◌}
use Rattle.loading.specs.Inner.Tallied.{lowest_zero}
use Rattle.loading.proofs.place.lowest_zero.Given as goal

abbrev pub invariant-loop-p : goal.invariant-loop-p
invariant-loop-p l = lowest_zero l.used l.n l.first ≡ lowest_zero l.used (l.first + l.n - l.p) l.p
