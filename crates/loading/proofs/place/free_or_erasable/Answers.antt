use mathlib.Core.Path.{refl}
use native.Mathlib.Omega.{arith}
use Rattle.loading.proofs.Used.{at_free, at_none, at_erasable}
use Rattle.loading.proofs.place.free_or_erasable.Goals as goal

pub returns-in-Some-clause-pointer : goal.returns-in-Some-clause-pointer
returns-in-Some-clause-pointer c =
    let s = c.requires in
    at_free _ _ _ _ s.0 s.2 s.4 _ c.in-Some.ensures.pointer s.3 (λ z. omega (arith, c.in-Some.ensures.some))

pub returns-then-positions-eq0-clause-pointer : goal.returns-then-positions-eq0-clause-pointer
returns-then-positions-eq0-clause-pointer c =
    let s = c.requires in
    at_none _ _ _ _ s.0 s.2 s.4 _ c.in_default.ensures.pointer s.3 refl c.if-positions-eq0.true

pub returns-clause-pointer : goal.returns-clause-pointer
returns-clause-pointer c =
    let s = c.requires in
    at_erasable _ _ _ _ s.0 s.2 s.4 _ c.in_default.ensures.pointer s.3 refl c.first_erasable.ensures.pointer
