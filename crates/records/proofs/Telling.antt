-- What an answer tells is the whole of it: answers that tell the same are equal.
use Rattle.std.specs.Prelude.{ℕ, Option, None, Some, Result, Ok, Err}
use mathlib.Core.Path.{◌≡◌, refl, sym, ap, ◌∙◌}
use lib.Dec.{eqb}
use lib.ListN.{drop}
use Rattle.rows.specs.Row.{pick}
use Rattle.rows.specs.Why.{number_of}
use Rattle.rows.specs.declared.Why.{Why}
use Rattle.rows.specs.declared.Why.TheVariants.{WrongLength, PastEnd, Unknown, OutOfRange, LeftOver, ListRule, NoFit, NoneEligible, NoPosition, MustFall, OutsideLimits}
use borrow.Author.Tests.{ne_eqb}
use Rattle.rows.specs.Inner.Standing.{why_of}
use Rattle.rows.proofs.Stepping.{numbered}
use Rattle.records.specs.declared.Refusal.{Refusal}
use Rattle.records.specs.Answer.{Answer, Told, refusal, refusal_at, as_answer, answer_of, heard}
use Rattle.records.specs.Environment.{environment_of, environment_told}
use Rattle.records.specs.Event.{event_of, event_told}
use Rattle.records.specs.Environment.{EnvironmentRead}
use Rattle.records.specs.Event.{EventRead}

-- Where answers can be told back, two that tell the same are equal.
pub told_one : {A : Type 0} (tell : A → Told) (back : Told → A) → ((a : A) → back (tell a) ≡ a) → (a b : A) → tell a ≡ tell b → a ≡ b
told_one tell back returned a b same = sym (returned a) ∙ ap back same ∙ returned b

abbrev environment_back : Told → EnvironmentRead
environment_back t = pick t.holds (Ok (environment_of t.values (drop 10 t.values))) (Err (refusal_at t.number t.place t.field))

environment_returned : (r : EnvironmentRead) → environment_back (environment_told r) ≡ r
environment_returned (Ok e) = refl
environment_returned (Err r) = refl

pub environment_one : (r s : EnvironmentRead) → environment_told r ≡ environment_told s → r ≡ s
environment_one = told_one environment_told environment_back environment_returned

abbrev event_back : Told → EventRead
event_back t = pick t.holds (Ok (event_of t.values (drop 36 t.values))) (Err (refusal_at t.number t.place t.field))

event_returned : (r : EventRead) → event_back (event_told r) ≡ r
event_returned (Ok e) = refl
event_returned (Err r) = refl

pub event_one : (r s : EventRead) → event_told r ≡ event_told s → r ≡ s
event_one = told_one event_told event_back event_returned

-- A refusal in code is told whole by its number, its place and its field.
abbrev why_back : ℕ → Why
why_back n =
    pick (eqb n 1) WrongLength
    (pick (eqb n 2) PastEnd
    (pick (eqb n 3) Unknown
    (pick (eqb n 4) OutOfRange
    (pick (eqb n 5) LeftOver
    (pick (eqb n 6) ListRule
    (pick (eqb n 7) NoFit
    (pick (eqb n 8) NoneEligible
    (pick (eqb n 9) NoPosition
    (pick (eqb n 10) MustFall
    OutsideLimits)))))))))

why_returned : (w : Why) → why_back (number_of w) ≡ w
why_returned WrongLength = refl
why_returned PastEnd = refl
why_returned Unknown = refl
why_returned OutOfRange = refl
why_returned LeftOver = refl
why_returned ListRule = refl
why_returned NoFit = refl
why_returned NoneEligible = refl
why_returned NoPosition = refl
why_returned MustFall = refl
why_returned OutsideLimits = refl

abbrev refusal_back : Answer → Refusal
refusal_back a = record { why = why_back a.number; place = a.place; field = a.field }

refusal_returned : (r : Refusal) → refusal_back (as_answer r) ≡ r
refusal_returned r = ap (λ (w : Why). record { why = w; place = r.place; field = r.field }) (why_returned r.why)

pub refusal_one : (r s : Refusal) → as_answer r ≡ as_answer s → r ≡ s
refusal_one r s same = sym (refusal_returned r) ∙ ap refusal_back same ∙ refusal_returned s

-- An answer in code is told whole by what has its refusal and its value.
pub result_one : {A B : Type 0} (tell : Result A Refusal → B) (refused : B → Answer) (value : B → A)
    → ((a : A) → refused (tell (Ok a)) ≡ refusal 0 0)
    → ((a : A) → value (tell (Ok a)) ≡ a)
    → ((r : Refusal) → refused (tell (Err r)) ≡ as_answer r)
    → (x y : Result A Refusal) → tell x ≡ tell y → x ≡ y
result_one tell refused value zeros kept own (Ok a) (Ok b) e = ap Ok (sym (kept a) ∙ ap value e ∙ kept b)
result_one tell refused value zeros kept own (Err r) (Err s) e = ap Err (refusal_one r s (sym (own r) ∙ ap refused e ∙ own s))
result_one tell refused value zeros kept own (Ok a) (Err s) e =
    absurd (numbered s.why (ap (λ (b : Answer). b.number) (sym (own s) ∙ sym (ap refused e) ∙ zeros a)))
result_one tell refused value zeros kept own (Err r) (Ok b) e =
    absurd (numbered r.why (ap (λ (a : Answer). a.number) (sym (own r) ∙ ap refused e ∙ zeros b)))

pub heard_one : {A : Type 0} (x y : Result A Refusal) → heard x ≡ heard y → x ≡ y
heard_one (Ok a) (Ok b) e = ap Ok cc
heard_one (Err r) (Err s) e = ap Err (refusal_one r s cc)
heard_one (Ok a) (Err s) e = cc
heard_one (Err r) (Ok b) e = cc

pub written_one : (x y : Result Unit Refusal) → answer_of x ≡ answer_of y → x ≡ y
written_one = result_one answer_of (λ a. a) (λ a. tt) (λ a. refl) (λ a. refl) (λ r. refl)

-- What a walk met is told whole by its number.
abbrev option_back : ℕ → Option Why
option_back n = pick (eqb n 0) None (Some (why_back n))

option_returned : (o : Option Why) → option_back (why_of o) ≡ o
option_returned None = refl
option_returned (Some w) = rw (ne_eqb _ _ (numbered w)) (ap (λ (v : Why). Some v) (why_returned w))

pub why_one : (o p : Option Why) → why_of o ≡ why_of p → o ≡ p
why_one o p same = sym (option_returned o) ∙ ap option_back same ∙ option_returned p
