use Prim.Native.Nat.{ℕ}
use mathlib.Core.Bool.{true, false}
use mathlib.Core.Logic.{◌⊎◌, inl, inr}
use mathlib.Core.Path.{◌≡◌}
use borrow.Author.Tests.{ne_eqb}
use Rattle.records.specs.Answer.{area_length}
use Rattle.holder.proofs.is_area.Goals as goal

one_of : (n : ℕ) → (n ≡ 29) ⊎ ((n ≡ 58) ⊎ ((n ≡ 87) ⊎ (n ≡ 116))) → true ≡ area_length n
unfolding area_length
one_of n (inl e) = rw e
one_of n (inr (inl e)) = rw e
one_of n (inr (inr (inl e))) = rw e
one_of n (inr (inr (inr e))) = rw e

none_of : (n : ℕ) → ((n ≡ 29) ⊎ ((n ≡ 58) ⊎ ((n ≡ 87) ⊎ (n ≡ 116))) → ⊥) → false ≡ area_length n
unfolding area_length
none_of n none =
    rw (ne_eqb n 29 (λ e. none (inl e)), ne_eqb n 58 (λ e. none (inr (inl e))), ne_eqb n 87 (λ e. none (inr (inr (inl e)))), ne_eqb n 116 (λ e. none (inr (inr (inr e)))))

pub returns-in-29 : goal.returns-in-29
returns-in-29 c = one_of c.args.n c.in-29.is

pub returns-in_default : goal.returns-in_default
returns-in_default c = search none_of
