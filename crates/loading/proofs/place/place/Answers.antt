use native.Mathlib.Omega.{arith}
use Rattle.loading.proofs.Used.{shows_counter, shows_plain}
use Rattle.loading.proofs.place.place.Goals as goal

pub free_or_erasable-requires : goal.free_or_erasable-requires
free_or_erasable-requires c =
    (shows_counter _ c.args.order.n _ _ c.requires.3, c.requires.0, omega arith, omega arith, omega (arith, c.requires.1, c.requires.2))

pub free_or_erasable-requires-2 : goal.free_or_erasable-requires-2
free_or_erasable-requires-2 c =
    (shows_plain _ _ _ _ c.requires.3, c.requires.0, omega arith, omega (arith, c.requires.2), c.requires.1)

pub free_or_erasable-requires-3 : goal.free_or_erasable-requires-3
free_or_erasable-requires-3 c =
    (shows_counter _ c.args.order.n _ _ c.requires.3, c.requires.0, omega arith, omega arith, omega (arith, c.requires.1, c.requires.2))
