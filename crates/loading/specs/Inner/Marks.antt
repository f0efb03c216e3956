-- Marks of pointers, one for each pointer that a contract can have, and for 0: what the events that were read add to them.
use Rattle.std.specs.Prelude.{ℕ, ◌≤◌, ◌≡◌, Bool, false, ◌||◌, List, length, get_or}
use Rattle.records.specs.Answer.{refusal, Answer}
use Rattle.records.specs.Order.{Attempt, got, stopped}

abbrev pub marked : List Bool → ℕ → Bool
marked marks pointer = get_or marks pointer false

-- There are as many marks as before, and those of the pointers that a test names are added.
pub record Added (test : ℕ → Bool) (before after : List Bool) : Type 0 where
  pub long : length after ≡ length before
  pub each : (p : ℕ) → p ≤ 8 → marked after p ≡ marked before p || test p

-- The refusal, 0 at place 0 where there is none.
abbrev pub refusal_of : {A : Type 0} → Attempt A → Answer
refusal_of (got a) = refusal 0 0
refusal_of (stopped r) = r

-- What reading and marking gives: the refusal; and where there is none, the marks by a test over what was read.
pub record Marking {A : Type 0} (attempt : Attempt A) (test : A → ℕ → Bool) (before after : List Bool) (r : Answer) : Type 0 where
  pub answer : r ≡ refusal_of attempt
  pub long : length after ≡ length before
  pub marks : (a : A) → attempt ≡ got a → Added (test a) before after
