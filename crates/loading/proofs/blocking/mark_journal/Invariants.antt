use Rattle.std.proofs.Common.{◌≡◌, refl, length}
use Rattle.std.specs.Slice.Iter.{chunks_exact_rest, chunks_exact_size}
use Rattle.loading.specs.Blocking.{some, blocks}
use Rattle.loading.proofs.Marks.{Passed}
use Rattle.loading.proofs.blocking.mark_journal.Given as goal

abbrev pub invariant-loop-record : goal.invariant-loop-record
invariant-loop-record l =
    (chunks_exact_size l.record-iterator ≡ 29)
    × Passed (λ k es p. some (blocks l.codes l.time l.hours p) es) (λ k e p. blocks l.codes l.time l.hours p e) (λ k p. refl) (λ k e es p. refl) l.journal l.initial.marks (length l.yielded) (chunks_exact_rest l.record-iterator) l.marks
