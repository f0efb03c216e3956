use Rattle.std.proofs.Common.{◌≡◌, ◌/◌, length}
use Rattle.std.specs.Slice.Iter.{chunks_exact_rest, chunks_exact_size}
use Rattle.bits.specs.Bits.{spread}
use Rattle.gate.specs.Writes.{applied, writes_of}
use Rattle.gate.proofs.raise_all.Given as goal

abbrev pub invariant-loop-write : goal.invariant-loop-write
invariant-loop-write l =
    (chunks_exact_size l.write-iterator ≡ 29)
    × (length l.«record» ≡ 29)
    × (applied (spread 8 l.initial.«record») (writes_of (length l.writes / 29) l.writes) ≡ applied (spread 8 l.«record») (writes_of (length (chunks_exact_rest l.write-iterator) / 29) (chunks_exact_rest l.write-iterator)))
