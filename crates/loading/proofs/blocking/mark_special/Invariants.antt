use Prim.Native.Nat.{suc}
use mathlib.Core.Bool.{◌&&◌}
use Rattle.std.proofs.Common.{◌≡◌, refl, take}
use Rattle.std.specs.Iterator.Adapters.{enumerate_count, enumerate_source}
use Rattle.std.specs.Slice.Iter.{chunks_exact_rest, chunks_exact_size}
use Rattle.loading.specs.Blocking.{names, listed, named_by_special}
use Rattle.loading.proofs.Marks.{Passed}
use Rattle.loading.proofs.blocking.mark_special.Given as goal

abbrev pub invariant-loop-i : goal.invariant-loop-i
invariant-loop-i l =
    (chunks_exact_size (enumerate_source l.i-iterator) ≡ 29)
    × Passed (λ k es p. named_by_special (take l.list.count l.list.entries) p (suc k) es)
    (λ k e p. names p e && listed (take l.list.count l.list.entries) (suc k))
    (λ k p. refl)
    (λ k e es p. refl)
    l.records
    l.initial.marks
    (enumerate_count l.i-iterator)
    (chunks_exact_rest (enumerate_source l.i-iterator))
    l.marks
