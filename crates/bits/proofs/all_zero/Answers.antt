use Prim.Native.Nat.{ℕ, ◌*◌, ◌^◌, ◌<◌}
use mathlib.Core.Bool.{Bool, true, false}
use mathlib.Core.List.{List}
use mathlib.Core.Logic.{◌↔◌}
use mathlib.Core.Path.{◌≡◌, refl, sym}
use borrow.Author.Rules.{rules}
use borrow.Author.Tests.{eq-eqb, ne_eqb}
use lib.Dec.{eqb}
use lib.ListN.{length, get_or}
use Rattle.std.specs.Prelude.{IsTrue, EachIndex}
use Rattle.std.proofs.lemmas.Bool.{true≢false}
use Rattle.bits.specs.Bits.{spread, leading}
use Rattle.bits.proofs.Clearing.{all_lead, lead_all}
use Rattle.bits.proofs.all_zero.Goals as goal

told : (xs : List ℕ) → ((i : ℕ) → get_or xs i 0 < 2 ^ 64) → (t : Bool) → (IsTrue t ↔ EachIndex xs (λ k. get_or xs k 0 ≡ 0))
    → t ≡ eqb (leading (spread 64 xs)) (64 * length xs)
told xs fits true h = sym (eq-eqb _ _ (all_lead 64 xs (h.0 refl)))
told xs fits false h = sym (ne_eqb _ _ (λ e. true≢false (sym (h.1 (λ i l. lead_all 64 xs fits e i)))))

pub returns : goal.returns
returns c = told c.args.words.now (λ i. (c.type_inv.words i).fits) c.all.result (search rules)
