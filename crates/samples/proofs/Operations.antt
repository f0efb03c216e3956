-- All public operations, by their contracts: each contract determines the answer and the later contents of all that was lent; a
-- refusal has one of a few numbers, names a field only with 2, 3, 4 or 7, and changes nothing that was lent. Document 01, "What
-- the contracts must say"; 02, Q-2. The contracts are the code's own: `Learnt` of a function is its `ensures`, as a caller has it.
use Prim.Native.Nat.{ℕ}
use Rattle.std.specs.Prelude.{Result}
use mathlib.Core.Bool.{Bool, true, false}
use mathlib.Core.List.{List, [], ◌∷◌}
use mathlib.Core.Path.{◌≡◌, refl, sym, ap, subst, ◌∙◌}
use lib.ListN.{length}
use Rattle.rows.specs.Row.{among}
use Rattle.rows.specs.Refusing.{may_name}
use Rattle.rows.proofs.Refusing.{among_behind}
use Rattle.records.specs.declared.Refusal.{Refusal}
use Rattle.records.specs.Answer.{Written, Told, answer_of, heard, refusal, refusal_at, accepted}
use Rattle.records.specs.Environment.{environment_told}
use Rattle.records.specs.Event.{event_told}
use Rattle.records.specs.Answer.{Answer}
use Rattle.holder.specs.Holder.{HolderRead, holder_answer}
use Rattle.lists.specs.List.{ListRead, list_answer}
use Rattle.lists.specs.Special.{SpecialRead, special_answer}
use Rattle.contract.specs.Contract.{contract_told}
use Rattle.bip.specs.Value.{bip_told}
use Rattle.selection.specs.Eligible.{Selection}
use Rattle.selection.specs.Selection.{selected_answer}
use Rattle.selection.specs.declared.Selected.{Selected}
use Rattle.holder.specs.declared.Holder.{Holder}
use Rattle.lists.specs.declared.list.ContractList.{ContractList}
use Rattle.lists.specs.declared.special.SpecialList.{SpecialList}
use Rattle.lab.proofs.Answers.{state_one}
use Rattle.loading.specs.Loading.{Outcome, loaded_answer}
use Rattle.passage.specs.Passage as passage
use Rattle.text.specs.Hex.{choose, spelt}
use Rattle.records.proofs.Telling.{environment_one, event_one, heard_one, result_one, written_one}
use Rattle.records.proofs.Coming.{ComesTo, fine, faulty, unwritten}
use Rattle.records.proofs.environment.Laws.{environment_comes, environment_write_comes}
use Rattle.records.proofs.event.Laws.{event_comes, event_write_comes}
use Rattle.holder.proofs.Laws.{holder_comes, holder_write_comes}
use Rattle.lists.proofs.list.Laws.{list_comes, list_write_comes}
use Rattle.lists.proofs.special.Laws.{special_comes, special_write_comes}
use Rattle.contract.proofs.Telling.{contract_one}
use Rattle.contract.proofs.Laws.{contract_comes, contract_write_comes}
use Rattle.bip.proofs.Telling.{bip_one}
use Rattle.bip.proofs.Laws.{bip_comes, bip_write_comes}
use Rattle.selection.proofs.Laws.{select_comes}
use Rattle.selection.proofs.FourBits.{change_comes}
use Rattle.loading.proofs.Laws.{load_comes}
use Rattle.passage.proofs.Laws.{pass_comes}
use Rattle.gate.proofs.Laws.{apply_comes, find_comes, join_comes}
use Rattle.samples.specs.All.{All, ◌&◌}

-- What an operation is given, how a call of it can end, which ends its contract allows, and what an end tells: the answer and the
-- later contents of the bytes lent to be written. (Those lent to be read cannot change. Of a part that is returned its bytes are
-- told.) What is told has a refusal, of number 0 where there is none, and the operation a list of those that it refuses with.
pub record Operation : Type 1 where
  pub given : Type 0
  pub end : given → Type 0
  pub allows : (g : given) → end g → Type 0
  pub told : Type 0
  pub tells : (g : given) → end g → told
  pub refusal : told → Answer
  pub numbers : List ℕ
  -- the contents of all that is lent to be written, at the call and as they are told
  pub before : given → List (List ℕ)
  pub after : told → List (List ℕ)

-- Two ends that are allowed tell the same.
abbrev pub OneAnswer : Operation → Type 0
OneAnswer o = (g : o.given) (x y : o.end g) → o.allows g x → o.allows g y → o.tells g x ≡ o.tells g y

-- The number is 0 or one of the operation's.
abbrev pub Numbered : Operation → Type 0
Numbered o = (g : o.given) (x : o.end g) → o.allows g x → among (o.refusal (o.tells g x)).number (0 ∷ o.numbers) ≡ true

-- Only a field's own refusals name a field: any other, and none, has 0 there.
abbrev pub Fielded : Operation → Type 0
Fielded o = (g : o.given) (x : o.end g) → o.allows g x → may_name (o.refusal (o.tells g x)).number (o.refusal (o.tells g x)).field ≡ true

-- Where it is not 0, all that was lent to be written is as it was.
abbrev pub Kept : Operation → Type 0
Kept o = (g : o.given) (x : o.end g) → o.allows g x → ((o.refusal (o.tells g x)).number ≡ 0 → ⊥) → o.after (o.tells g x) ≡ o.before g

-- An operation by its contract: over lifetimes, arguments, a result and the arguments at exit.
abbrev by :
    {L : Type 0} {D R E : L → Type 0} {A : Type 0}
    → ((κs : L) → D κs → R κs → E κs → Type 0)
    → ((κs : L) → R κs → E κs → A)
    → (A → Answer)
    → ((κs : L) → D κs → List (List ℕ))
    → (A → List (List ℕ))
    → List ℕ
    → Operation
by {L} {D} {R} {E} {A} contract tells refused before after numbers =
    record {
      given = (κs : L) × D κs;
      end = λ g. R g.0 × E g.0;
      allows = λ g e. contract g.0 g.1 e.0 e.1;
      told = A;
      tells = λ g e. tells g.0 e.0 e.1;
      refusal = refused;
      numbers = numbers;
      before = λ g. before g.0 g.1;
      after = after;
    }

-- One that only reads.
abbrev reading : {L : Type 0} {D E : L → Type 0} {A : Type 0} → ((κs : L) → D κs → A → E κs → Type 0) → (A → Answer) → List ℕ → Operation
reading contract refused numbers = by contract (λ κs r s. r) refused (λ κs d. []) (λ a. []) numbers

-- One that refuses nothing.
abbrev giving : {L : Type 0} {D R E : L → Type 0} {A : Type 0} → ((κs : L) → D κs → R κs → E κs → Type 0) → ((κs : L) → R κs → A) → Operation
giving contract tells = by contract (λ κs r s. tells κs r) (λ a. refusal 0 0) (λ κs d. []) (λ a. []) []

-- One that writes to lent bytes.
abbrev writing :
    {L : Type 0} {D E : L → Type 0}
    → ((κs : L) → D κs → Result Unit Refusal → E κs → Type 0)
    → ((κs : L) → D κs → List ℕ)
    → ((κs : L) → E κs → List ℕ)
    → List ℕ
    → Operation
writing contract before after numbers =
    by {A = Result Unit Refusal × List ℕ} contract (λ κs r s. (r, after κs s)) (λ t. answer_of t.0) (λ κs d. before κs d ∷ []) (λ t. t.1 ∷ []) numbers

-- The refusal that an enum's answer tells.
abbrev refused_by : Told → Answer
refused_by t = refusal_at t.number t.place t.field

abbrev loading : Result ℕ Refusal → List ℕ → List ℕ → Result ℕ Refusal × List ℕ × List ℕ
loading r list file = (r, list, file)

abbrev passing : Result Selected Refusal → List ℕ → List ℕ → Result Selected Refusal × List ℕ × List ℕ
passing r list journal = (r, list, journal)

abbrev filling : Bool → List ℕ → Bool × List ℕ
filling r bytes = (r, bytes)

unfoldable pub operations : List Operation
operations =
    giving Rattle.rows.proofs.margin.Margin.words.Reads.Learnt (λ κs r. r)
    ∷ giving Rattle.rows.proofs.margin.Margin.of.Reads.Learnt (λ κs r. r)
    ∷ reading Rattle.records.proofs.environment.read.Reads.Learnt (λ r. refused_by (environment_told (heard r))) (1 ∷ 3 ∷ [])
    ∷ writing Rattle.records.proofs.environment.write.Reads.Learnt (λ κs d. d.0.now) (λ κs s. s.0.now) (1 ∷ 3 ∷ 7 ∷ [])
    ∷ giving Rattle.records.proofs.environment.Environment.numbers.Reads.Learnt (λ κs r. r)
    ∷ giving Rattle.records.proofs.environment.Environment.of.Reads.Learnt (λ κs r. r)
    ∷ reading Rattle.records.proofs.event.read.Reads.Learnt (λ r. refused_by (event_told (heard r))) (1 ∷ 2 ∷ 4 ∷ [])
    ∷ writing Rattle.records.proofs.event.write.Reads.Learnt (λ κs d. d.0.now) (λ κs s. s.0.now) (1 ∷ 2 ∷ 4 ∷ 7 ∷ [])
    ∷ giving Rattle.records.proofs.event.Event.numbers.Reads.Learnt (λ κs r. r)
    ∷ giving Rattle.records.proofs.event.Event.of.Reads.Learnt (λ κs r. r)
    ∷ giving Rattle.records.proofs.part.Reads.Learnt (λ κs r. r.now)
    ∷ reading Rattle.holder.proofs.read.Reads.Learnt (λ r. (holder_answer r).refusal) (1 ∷ 2 ∷ 4 ∷ [])
    ∷ writing Rattle.holder.proofs.write.Reads.Learnt (λ κs d. d.0.now) (λ κs s. s.0.now) (1 ∷ 2 ∷ 4 ∷ 7 ∷ [])
    ∷ giving Rattle.holder.proofs.Holder.numbers.Reads.Learnt (λ κs r. r)
    ∷ giving Rattle.holder.proofs.Holder.of.Reads.Learnt (λ κs r. r)
    ∷ reading Rattle.lists.proofs.list.read.Reads.Learnt (λ r. (list_answer r).refusal) (1 ∷ 11 ∷ 2 ∷ 4 ∷ 5 ∷ 6 ∷ [])
    ∷ writing Rattle.lists.proofs.list.write.Reads.Learnt (λ κs d. d.0.now) (λ κs s. s.0.now) (1 ∷ 11 ∷ 7 ∷ 2 ∷ 4 ∷ 6 ∷ [])
    ∷ giving Rattle.lists.proofs.list.Entry.new.Reads.Learnt (λ κs r. r)
    ∷ giving Rattle.lists.proofs.list.Entry.with_network.Reads.Learnt (λ κs r. r)
    ∷ giving Rattle.lists.proofs.list.ContractList.with_priority.Reads.Learnt (λ κs r. r)
    ∷ giving Rattle.lists.proofs.list.ContractList.with.Reads.Learnt (λ κs r. r)
    ∷ giving Rattle.lists.proofs.list.ContractList.without.Reads.Learnt (λ κs r. r)
    ∷ giving Rattle.lists.proofs.list.ContractList.free_counters.Reads.Learnt (λ κs r. r)
    ∷ giving Rattle.lists.proofs.list.ContractList.free_plain.Reads.Learnt (λ κs r. r)
    ∷ giving Rattle.lists.proofs.list.ContractList.used_up_counters.Reads.Learnt (λ κs r. r)
    ∷ giving Rattle.lists.proofs.list.ContractList.used_up_plain.Reads.Learnt (λ κs r. r)
    ∷ giving Rattle.lists.proofs.list.ContractList.len.Reads.Learnt (λ κs r. r)
    ∷ giving Rattle.lists.proofs.list.ContractList.numbers.Reads.Learnt (λ κs r. r)
    ∷ giving Rattle.lists.proofs.list.ContractList.of.Reads.Learnt (λ κs r. r)
    ∷ reading Rattle.lists.proofs.special.read.Reads.Learnt (λ r. (special_answer r).refusal) (1 ∷ 11 ∷ 4 ∷ 5 ∷ 6 ∷ [])
    ∷ writing Rattle.lists.proofs.special.write.Reads.Learnt (λ κs d. d.0.now) (λ κs s. s.0.now) (1 ∷ 11 ∷ 7 ∷ 4 ∷ 6 ∷ [])
    ∷ giving Rattle.lists.proofs.special.SpecialList.numbers.Reads.Learnt (λ κs r. r)
    ∷ giving Rattle.lists.proofs.special.SpecialList.of.Reads.Learnt (λ κs r. r)
    ∷ reading Rattle.contract.proofs.read.Reads.Learnt (λ r. refused_by (contract_told (heard r))) (1 ∷ 3 ∷ 2 ∷ 4 ∷ [])
    ∷ writing Rattle.contract.proofs.write.Reads.Learnt (λ κs d. d.0.now) (λ κs s. s.0.now) (1 ∷ 3 ∷ 7 ∷ 2 ∷ 4 ∷ [])
    ∷ giving Rattle.contract.proofs.Contract.head_numbers.Reads.Learnt (λ κs r. r)
    ∷ giving Rattle.contract.proofs.Contract.of_head.Reads.Learnt (λ κs r. r)
    ∷ giving Rattle.contract.proofs.Contract.of.Reads.Learnt (λ κs r. r)
    ∷ giving Rattle.contract.proofs.Data42.numbers.Reads.Learnt (λ κs r. r)
    ∷ giving Rattle.contract.proofs.Data42.of.Reads.Learnt (λ κs r. r)
    ∷ giving Rattle.contract.proofs.Data50.numbers.Reads.Learnt (λ κs r. r)
    ∷ giving Rattle.contract.proofs.Data50.of.Reads.Learnt (λ κs r. r)
    ∷ reading Rattle.bip.proofs.read.Reads.Learnt (λ r. refused_by (bip_told (heard r))) (1 ∷ [])
    ∷ writing Rattle.bip.proofs.write.Reads.Learnt (λ κs d. d.0.now) (λ κs s. s.0.now) (1 ∷ 7 ∷ [])
    ∷ reading Rattle.selection.proofs.select.Reads.Learnt (λ r. (selected_answer r).refusal) (1 ∷ 11 ∷ 2 ∷ 4 ∷ 5 ∷ 6 ∷ 8 ∷ [])
    ∷ giving Rattle.selection.proofs.part.Reads.Learnt (λ κs r. r.now)
    ∷ writing Rattle.selection.proofs.change_priority.Reads.Learnt (λ κs d. d.0.now) (λ κs s. s.0.now) (1 ∷ 11 ∷ 2 ∷ 4 ∷ 5 ∷ 6 ∷ [])
    ∷ by Rattle.loading.proofs.load.Reads.Learnt (λ κs r s. loading r s.0.now s.1.0.now) (λ x. (loaded_answer x.0).refusal)
    (λ κs d. d.0.now ∷ d.1.0.now ∷ []) (λ x. x.1 ∷ x.2 ∷ []) (1 ∷ 11 ∷ 2 ∷ 3 ∷ 4 ∷ 5 ∷ 6 ∷ 9 ∷ [])
    ∷ by Rattle.passage.proofs.pass.Reads.Learnt (λ κs r s. passing r s.0.now s.1.1.0.now) (λ x. (selected_answer x.0).refusal)
    (λ κs d. d.0.now ∷ d.1.1.0.now ∷ []) (λ x. x.1 ∷ x.2 ∷ []) (1 ∷ 11 ∷ 2 ∷ 4 ∷ 5 ∷ 6 ∷ 8 ∷ [])
    ∷ writing Rattle.gate.proofs.apply.Reads.Learnt (λ κs d. d.0.now) (λ κs s. s.0.now) (1 ∷ 11 ∷ [])
    ∷ writing Rattle.gate.proofs.find.Reads.Learnt (λ κs d. d.1.1.0.now) (λ κs s. s.1.1.0.now) (1 ∷ 10 ∷ [])
    ∷ writing Rattle.gate.proofs.join.Reads.Learnt (λ κs d. d.1.1.0.now) (λ κs s. s.1.1.0.now) (1 ∷ [])
    ∷ giving Rattle.holder.proofs.is_area.Reads.Learnt (λ κs r. r)
    ∷ giving Rattle.contract.proofs.known.Reads.Learnt (λ κs r. r)
    ∷ giving Rattle.lists.proofs.list.outside.Reads.Learnt (λ κs r. r)
    ∷ reading Rattle.lab.proofs.environment.Reads.Learnt (λ r. refused_by (environment_told (heard r))) (1 ∷ 3 ∷ [])
    ∷ reading Rattle.lab.proofs.event.Reads.Learnt (λ r. refused_by (event_told (heard r))) (1 ∷ 2 ∷ 4 ∷ [])
    ∷ reading Rattle.lab.proofs.holder.Reads.Learnt (λ r. (holder_answer r).refusal) (1 ∷ 2 ∷ 4 ∷ [])
    ∷ reading Rattle.lab.proofs.contract.Reads.Learnt (λ r. refused_by (contract_told (heard r))) (1 ∷ 3 ∷ 2 ∷ 4 ∷ [])
    ∷ reading Rattle.lab.proofs.list.Reads.Learnt (λ r. (list_answer r).refusal) (1 ∷ 11 ∷ 2 ∷ 4 ∷ 5 ∷ 6 ∷ [])
    ∷ reading Rattle.lab.proofs.special.Reads.Learnt (λ r. (special_answer r).refusal) (1 ∷ 11 ∷ 4 ∷ 5 ∷ 6 ∷ [])
    ∷ giving Rattle.lab.proofs.state.State.begin.Reads.Learnt (λ κs r. r)
    ∷ giving Rattle.lab.proofs.state.State.step.Reads.Learnt (λ κs r. r)
    ∷ giving Rattle.lab.proofs.run.bit_at.Reads.Learnt (λ κs r. r)
    ∷ giving Rattle.lab.proofs.row.width.Reads.Learnt (λ κs r. r)
    ∷ giving Rattle.lab.proofs.row.letters.Reads.Learnt (λ κs r. r)
    ∷ giving Rattle.lab.proofs.row.when.Reads.Learnt (λ κs r. r)
    ∷ giving Rattle.lab.proofs.row.slot.Reads.Learnt (λ κs r. r)
    ∷ giving Rattle.lab.proofs.row.element.Reads.Learnt (λ κs r. r)
    ∷ giving Rattle.lab.proofs.row.rule.Reads.Learnt (λ κs r. r)
    ∷ giving Rattle.lab.proofs.row.limit.Reads.Learnt (λ κs r. r)
    ∷ giving Rattle.lab.proofs.row.boxes.Reads.Learnt (λ κs r. r)
    ∷ giving Rattle.lab.proofs.row.bits.Reads.Learnt (λ κs r. r)
    -- no text of so many bytes: false, here 1
    ∷ by Rattle.text.proofs.bytes.Reads.Learnt (λ κs r s. filling r s.1.0.now) (λ x. refusal (choose x.0 0 1) 0) (λ κs d. d.1.0.now ∷ []) (λ x. x.1 ∷ []) (1 ∷ [])
    ∷ []

-- A contract that is an equality allows one answer.
same : {A : Type 0} {a b c : A} → a ≡ c → b ≡ c → a ≡ b
same p q = p ∙ sym q

-- So does one that gives the result, and the contents by it.
same_by :
    {A B : Type 0} {r s t : B} {x y : A}
    → (contents : B → A)
    → (r ≡ t) × (x ≡ contents r)
    → (s ≡ t) × (y ≡ contents s)
    → ◌≡◌ {A = B × A} (r, x) (s, y)
same_by contents p q =
    let result = same p.0 q.0 in
    let bytes = p.1 ∙ ap contents result ∙ sym q.1 in
    λ i. (result i, bytes i)

-- Answers in code that tell the same are equal,
holder_one : (x y : Result Holder Refusal) → holder_answer x ≡ holder_answer y → x ≡ y
holder_one = result_one holder_answer (λ r. r.refusal) (λ r. r.holder) (λ a. refl) (λ a. refl) (λ r. refl)

list_one : (x y : Result ContractList Refusal) → list_answer x ≡ list_answer y → x ≡ y
list_one = result_one list_answer (λ r. r.refusal) (λ r. r.list) (λ a. refl) (λ a. refl) (λ r. refl)

special_one : (x y : Result SpecialList Refusal) → special_answer x ≡ special_answer y → x ≡ y
special_one = result_one special_answer (λ r. r.refusal) (λ r. r.list) (λ a. refl) (λ a. refl) (λ r. refl)

selected_one : (x y : Result Selected Refusal) → selected_answer x ≡ selected_answer y → x ≡ y
selected_one =
    result_one selected_answer (λ r. r.refusal) (λ r. record { position = r.position; pointer = r.pointer; priority = r.priority })
    (λ a. refl) (λ a. refl) (λ r. refl)

loaded_one : (x y : Result ℕ Refusal) → loaded_answer x ≡ loaded_answer y → x ≡ y
loaded_one = result_one loaded_answer (λ r. r.refusal) (λ r. r.pointer) (λ a. refl) (λ a. refl) (λ r. refl)

-- and so are those that leave the same contents.
wrote_same :
    {r s : Result Unit Refusal} {x y : List ℕ} {w : Written}
    → record { answer = answer_of r; bytes = x } ≡ w
    → record { answer = answer_of s; bytes = y } ≡ w
    → ◌≡◌ {A = Result Unit Refusal × List ℕ} (r, x) (s, y)
wrote_same {r} {s} p q =
    let both = same p q in
    let answer = written_one r s (ap (λ (w : Written). w.answer) both) in
    λ i. (answer i, (both i).bytes)

loaded_same :
    {r s : Result ℕ Refusal} {x y file rest : List ℕ} {w : Outcome}
    → record { answer = loaded_answer r; list = x; file = file } ≡ w
    → record { answer = loaded_answer s; list = y; file = rest } ≡ w
    → loading r x file ≡ loading s y rest
loaded_same {r} {s} p q =
    let both = same p q in
    let answer = loaded_one r s (ap (λ (w : Outcome). w.answer) both) in
    λ i. (answer i, (both i).list, (both i).file)

passed_same :
    {r s : Result Selected Refusal} {x y journal rest : List ℕ} {w : passage.Outcome}
    → record { answer = selected_answer r; list = x; journal = journal } ≡ w
    → record { answer = selected_answer s; list = y; journal = rest } ≡ w
    → passing r x journal ≡ passing s y rest
passed_same {r} {s} p q =
    let both = same p q in
    let answer = selected_one r s (ap (λ (w : passage.Outcome). w.answer) both) in
    λ i. (answer i, (both i).list, (both i).journal)

-- Every contract allows one answer.
pub all_one : All OneAnswer operations
unfolding operations
all_one =
    (λ g x y. same) & (λ g x y. same) & (λ g x y p q. heard_one _ _ (environment_one _ _ (same p q)))
    & (λ g x y. wrote_same) & (λ g x y. same) & (λ g x y. same)
    & (λ g x y p q. heard_one _ _ (event_one _ _ (same p q))) & (λ g x y. wrote_same) & (λ g x y. same)
    & (λ g x y. same) & (λ g x y. same) & (λ g x y p q. holder_one _ _ (same p q)) & (λ g x y. wrote_same)
    & (λ g x y. same) & (λ g x y. same) & (λ g x y p q. list_one _ _ (same p q)) & (λ g x y. wrote_same)
    & (λ g x y. same) & (λ g x y. same) & (λ g x y. same) & (λ g x y. same) & (λ g x y. same) & (λ g x y. same)
    & (λ g x y. same) & (λ g x y. same) & (λ g x y. same) & (λ g x y. same) & (λ g x y. same) & (λ g x y. same)
    & (λ g x y p q. special_one _ _ (same p q)) & (λ g x y. wrote_same) & (λ g x y. same) & (λ g x y. same)
    & (λ g x y p q. heard_one _ _ (contract_one _ _ (same p q))) & (λ g x y. wrote_same) & (λ g x y. same)
    & (λ g x y. same) & (λ g x y. same) & (λ g x y. same) & (λ g x y. same) & (λ g x y. same) & (λ g x y. same)
    & (λ g x y p q. heard_one _ _ (bip_one _ _ (same p q))) & (λ g x y. wrote_same)
    & (λ g x y p q. selected_one _ _ (same p q)) & (λ g x y. same) & (λ g x y. wrote_same) & (λ g x y. loaded_same)
    & (λ g x y. passed_same) & (λ g x y. wrote_same) & (λ g x y. wrote_same) & (λ g x y. wrote_same)
    & (λ g x y. same) & (λ g x y. same) & (λ g x y. same)
    & (λ g x y p q. heard_one _ _ (environment_one _ _ (same p q)))
    & (λ g x y p q. heard_one _ _ (event_one _ _ (same p q))) & (λ g x y p q. holder_one _ _ (same p q))
    & (λ g x y p q. heard_one _ _ (contract_one _ _ (same p q))) & (λ g x y p q. list_one _ _ (same p q))
    & (λ g x y p q. special_one _ _ (same p q)) & (λ g x y p q. state_one _ _ (same p q))
    & (λ g x y p q. state_one _ _ (same p q)) & (λ g x y. same) & (λ g x y. same) & (λ g x y. same)
    & (λ g x y. same) & (λ g x y. same) & (λ g x y. same) & (λ g x y. same) & (λ g x y. same) & (λ g x y. same)
    & (λ g x y. same) & (λ g x y. same_by (λ r. choose r (spelt (length g.1.1.0.now) g.1.0.now) g.1.1.0.now))
    & tt

-- What is told has one of some numbers or 0, a field's name only if the refusal is a field's own, and leaves what was there where
-- the number is not 0.
abbrev Sound : {A : Type 0} → (A → Answer) → (A → List (List ℕ)) → List ℕ → List (List ℕ) → A → Type 0
Sound refused after ns before x =
    (among (refused x).number (0 ∷ ns) ≡ true)
    × (may_name (refused x).number (refused x).field ≡ true)
    × (((refused x).number ≡ 0 → ⊥) → after x ≡ before)

-- So it does, if it comes to a value without a refusal, or to a refusal that is its own and leaves what was there.
sound :
    {A B : Type 0} {good : A → B} {bad : Answer → B} (refused : B → Answer) (after : B → List (List ℕ)) (before : List (List ℕ))
    → ((a : A) → refused (good a) ≡ refusal 0 0)
    → ((r : Answer) → (refused (bad r) ≡ r) × (after (bad r) ≡ before))
    → {ns : List ℕ} {x y : B} → x ≡ y → ComesTo good bad ns y
    → Sound refused after ns before x
sound refused after before of_good of_bad {ns} {x} is (fine a) =
    let none : refused x ≡ refusal 0 0 = ap refused is ∙ of_good a in
    (rw none, rw none, λ some. absurd (some (ap (λ (r : Answer). r.number) none)))
sound refused after before of_good of_bad {ns} {x} is (faulty r why) =
    let (own, kept) = of_bad r in
    let told : refused x ≡ r = ap refused is ∙ own in (
      subst (λ (s : Answer). among s.number (0 ∷ ns) ≡ true) (sym told) (among_behind r.number (0 ∷ []) ns why.listed),
      rw told why.named,
      λ some. ap after is ∙ kept,
    )

-- A reading, and a writing.
read :
    {A B : Type 0} {good : A → B} {bad : Answer → B} (refused : B → Answer)
    → ((a : A) → refused (good a) ≡ refusal 0 0)
    → ((r : Answer) → refused (bad r) ≡ r)
    → {ns : List ℕ} {x y : B} → x ≡ y → ComesTo good bad ns y
    → Sound refused (λ b. []) ns [] x
read refused of_good of_bad = sound refused (λ b. []) [] of_good (λ r. (of_bad r, refl))

wrote : (before : List ℕ) {ns : List ℕ} {x y : Written} → x ≡ y → ComesTo accepted (unwritten before) ns y
    → Sound (λ w. w.answer) (λ w. w.bytes ∷ []) ns (before ∷ []) x
wrote before = sound (λ w. w.answer) (λ w. w.bytes ∷ []) (before ∷ []) (λ a. refl) (λ r. (refl, refl))

-- A text that spells no bytes leaves those lent.
filled : (r : Bool) (x bytes before : List ℕ) → x ≡ choose r bytes before
    → Sound (λ (t : Bool × List ℕ). refusal (choose t.0 0 1) 0) (λ (t : Bool × List ℕ). t.1 ∷ []) (1 ∷ []) (before ∷ []) (r, x)
filled true x bytes before h = (refl, refl, λ some. absurd (some refl))
filled false x bytes before h = (refl, refl, λ some. ap (λ (l : List ℕ). l ∷ []) h)

-- All of it, of every answer that an operation's contract allows.
abbrev Proper : Operation → Type 0
Proper o = (g : o.given) (x : o.end g) → o.allows g x → Sound o.refusal o.after o.numbers (o.before g) (o.tells g x)

all_sound : All Proper operations
unfolding operations
all_sound =
    (λ g x p. (refl, refl, λ some. refl)) & (λ g x p. (refl, refl, λ some. refl))
    & (λ g x p. read (λ r. refused_by (environment_told r)) (λ a. refl) (λ r. refl) (environment_one (heard x.0) _ p) (environment_comes g.1.0.now))
    & (λ g x p. wrote g.1.0.now p (environment_write_comes g.1.0.now g.1.1.0))
    & (λ g x p. (refl, refl, λ some. refl)) & (λ g x p. (refl, refl, λ some. refl))
    & (λ g x p. read (λ r. refused_by (event_told r)) (λ a. refl) (λ r. refl) (event_one (heard x.0) _ p) (event_comes g.1.0.now))
    & (λ g x p. wrote g.1.0.now p (event_write_comes g.1.0.now g.1.1.0))
    & (λ g x p. (refl, refl, λ some. refl)) & (λ g x p. (refl, refl, λ some. refl)) & (λ g x p. (refl, refl, λ some. refl))
    & (λ g x p. read (λ (r : HolderRead). r.refusal) (λ a. refl) (λ r. refl) p (holder_comes g.1.0.now))
    & (λ g x p. wrote g.1.0.now p (holder_write_comes g.1.0.now g.1.1.0))
    & (λ g x p. (refl, refl, λ some. refl)) & (λ g x p. (refl, refl, λ some. refl))
    & (λ g x p. read (λ (r : ListRead). r.refusal) (λ a. refl) (λ r. refl) p (list_comes g.1.1.0 g.1.1.1.0 g.1.0.now))
    & (λ g x p. wrote g.1.0.now p (list_write_comes g.1.1.0 g.1.1.1.0 g.1.1.1.1.0 g.1.0.now))
    & (λ g x p. (refl, refl, λ some. refl)) & (λ g x p. (refl, refl, λ some. refl)) & (λ g x p. (refl, refl, λ some. refl))
    & (λ g x p. (refl, refl, λ some. refl)) & (λ g x p. (refl, refl, λ some. refl)) & (λ g x p. (refl, refl, λ some. refl))
    & (λ g x p. (refl, refl, λ some. refl)) & (λ g x p. (refl, refl, λ some. refl)) & (λ g x p. (refl, refl, λ some. refl))
    & (λ g x p. (refl, refl, λ some. refl)) & (λ g x p. (refl, refl, λ some. refl)) & (λ g x p. (refl, refl, λ some. refl))
    & (λ g x p. read (λ (r : SpecialRead). r.refusal) (λ a. refl) (λ r. refl) p (special_comes g.1.1.0 g.1.0.now))
    & (λ g x p. wrote g.1.0.now p (special_write_comes g.1.1.0 g.1.1.1.0 g.1.0.now))
    & (λ g x p. (refl, refl, λ some. refl)) & (λ g x p. (refl, refl, λ some. refl))
    & (λ g x p. read (λ r. refused_by (contract_told r)) (λ a. refl) (λ r. refl) (contract_one (heard x.0) _ p) (contract_comes g.1.1.0 g.1.0.now))
    & (λ g x p. wrote g.1.0.now p (contract_write_comes g.1.1.0 g.1.1.1.0 g.1.0.now))
    & (λ g x p. (refl, refl, λ some. refl)) & (λ g x p. (refl, refl, λ some. refl)) & (λ g x p. (refl, refl, λ some. refl))
    & (λ g x p. (refl, refl, λ some. refl)) & (λ g x p. (refl, refl, λ some. refl)) & (λ g x p. (refl, refl, λ some. refl))
    & (λ g x p. (refl, refl, λ some. refl))
    & (λ g x p. read (λ r. refused_by (bip_told r)) (λ a. refl) (λ r. refl) (bip_one (heard x.0) _ p) (bip_comes g.1.0.now))
    & (λ g x p. wrote g.1.0.now p (bip_write_comes g.1.0.now g.1.1.0))
    & (λ g x p. read (λ (r : Selection). r.refusal) (λ a. refl) (λ r. refl) p (select_comes _ _ _ _ _ _))
    & (λ g x p. (refl, refl, λ some. refl))
    & (λ g x p. wrote g.1.0.now p (change_comes _ _ _ _ _))
    & (λ g x p. sound (λ (t : Outcome). t.answer.refusal) (λ t. t.list ∷ t.file ∷ []) _ (λ a. refl) (λ r. (refl, refl)) p (load_comes _ _ _ _))
    & (λ g x p. sound (λ (t : passage.Outcome). t.answer.refusal) (λ t. t.list ∷ t.journal ∷ []) _ (λ a. refl) (λ r. (refl, refl)) p (pass_comes _ _ _ _))
    & (λ g x p. wrote g.1.0.now p (apply_comes _ _))
    & (λ g x p. wrote g.1.1.1.0.now p (find_comes _ _ _))
    & (λ g x p. wrote g.1.1.1.0.now p (join_comes _ _ _))
    & (λ g x p. (refl, refl, λ some. refl)) & (λ g x p. (refl, refl, λ some. refl)) & (λ g x p. (refl, refl, λ some. refl))
    & (λ g x p. read (λ r. refused_by (environment_told r)) (λ a. refl) (λ r. refl) (environment_one (heard x.0) _ p) (environment_comes g.1.0.now))
    & (λ g x p. read (λ r. refused_by (event_told r)) (λ a. refl) (λ r. refl) (event_one (heard x.0) _ p) (event_comes g.1.0.now))
    & (λ g x p. read (λ (r : HolderRead). r.refusal) (λ a. refl) (λ r. refl) p (holder_comes g.1.0.now))
    & (λ g x p. read (λ r. refused_by (contract_told r)) (λ a. refl) (λ r. refl) (contract_one (heard x.0) _ p) (contract_comes g.1.1.0 g.1.0.now))
    & (λ g x p. read (λ (r : ListRead). r.refusal) (λ a. refl) (λ r. refl) p (list_comes g.1.1.0 g.1.1.1.0 g.1.0.now))
    & (λ g x p. read (λ (r : SpecialRead). r.refusal) (λ a. refl) (λ r. refl) p (special_comes g.1.1.0 g.1.0.now))
    & (λ g x p. (refl, refl, λ some. refl)) & (λ g x p. (refl, refl, λ some. refl)) & (λ g x p. (refl, refl, λ some. refl))
    & (λ g x p. (refl, refl, λ some. refl)) & (λ g x p. (refl, refl, λ some. refl)) & (λ g x p. (refl, refl, λ some. refl))
    & (λ g x p. (refl, refl, λ some. refl)) & (λ g x p. (refl, refl, λ some. refl)) & (λ g x p. (refl, refl, λ some. refl))
    & (λ g x p. (refl, refl, λ some. refl)) & (λ g x p. (refl, refl, λ some. refl)) & (λ g x p. (refl, refl, λ some. refl))
    & (λ g x p. filled x.0 _ _ _ p.1)
    & tt

-- What follows of each follows of all.
all_of : {P Q : Operation → Type 0} → ((o : Operation) → P o → Q o) → (os : List Operation) → All P os → All Q os
all_of part [] all = tt
all_of part (o ∷ os) (this, rest) = (part o this, all_of part os rest)

-- Every answer has the number 0 or one of its operation's,
pub all_numbered : All Numbered operations
all_numbered = all_of (λ o h g x p. (h g x p).0) operations all_sound

-- a field only with a field's own number,
pub all_fielded : All Fielded operations
all_fielded = all_of (λ o h g x p. (h g x p).1) operations all_sound

-- and where the number is not 0 nothing that was lent has changed.
pub all_kept : All Kept operations
all_kept = all_of (λ o h g x p. (h g x p).2) operations all_sound
