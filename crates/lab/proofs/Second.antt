-- The second reader answers what the working reader answers: for every string of bytes, every type, n, c and s, by the contracts of
-- the code itself. `Learnt` of a function is its `ensures`, as a caller has it.
use Rattle.std.proofs.Common.{◌≡◌, sym, refl, ◌∙◌}
use Rattle.records.proofs.Telling.{environment_one, event_one, heard_one, result_one}
use Rattle.contract.proofs.Telling.{contract_one}
use Rattle.holder.specs.Holder.{HolderRead, holder_answer}
use Rattle.lists.specs.List.{ListRead, list_answer}
use Rattle.lists.specs.Special.{SpecialRead, special_answer}
use Rattle.records.proofs.environment.read.Reads as environment
use Rattle.records.proofs.event.read.Reads as event
use Rattle.holder.proofs.read.Reads as holder
use Rattle.contract.proofs.read.Reads as contract
use Rattle.lists.proofs.list.read.Reads as list
use Rattle.lists.proofs.special.read.Reads as special
use Rattle.lab.proofs.environment.Reads as lab-environment
use Rattle.lab.proofs.event.Reads as lab-event
use Rattle.lab.proofs.holder.Reads as lab-holder
use Rattle.lab.proofs.contract.Reads as lab-contract
use Rattle.lab.proofs.list.Reads as lab-list
use Rattle.lab.proofs.special.Reads as lab-special

-- Two functions that are given the same answer the same, by their contracts.
abbrev Same : {L : Type 0} {D E F : L → Type 0} {A : Type 0} → ((κs : L) → D κs → A → E κs → Type 0) → ((κs : L) → D κs → A → F κs → Type 0) → Type 0
Same {L} {D} {E} {F} {A} one other = (κs : L) (d : D κs) (x y : A) (e : E κs) (f : F κs) → one κs d x e → other κs d y f → x ≡ y

pub second_reader :
    Same lab-environment.Learnt environment.Learnt
    × Same lab-event.Learnt event.Learnt
    × Same lab-holder.Learnt holder.Learnt
    × Same lab-contract.Learnt contract.Learnt
    × Same lab-list.Learnt list.Learnt
    × Same lab-special.Learnt special.Learnt
second_reader = (
  λ κs d x y e f p q. heard_one x y (environment_one _ _ (p ∙ sym q)),
  λ κs d x y e f p q. heard_one x y (event_one _ _ (p ∙ sym q)),
  λ κs d x y e f p q. result_one holder_answer (λ (h : HolderRead). h.refusal) (λ h. h.holder) (λ a. refl) (λ a. refl) (λ r. refl) x y (p ∙ sym q),
  λ κs d x y e f p q. heard_one x y (contract_one _ _ (p ∙ sym q)),
  λ κs d x y e f p q. result_one list_answer (λ (l : ListRead). l.refusal) (λ l. l.list) (λ a. refl) (λ a. refl) (λ r. refl) x y (p ∙ sym q),
  λ κs d x y e f p q. result_one special_answer (λ (l : SpecialRead). l.refusal) (λ l. l.list) (λ a. refl) (λ a. refl) (λ r. refl) x y (p ∙ sym q),
)
