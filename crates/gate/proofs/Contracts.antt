-- Demand 3's last sentence, for contracts, as 02, Q-7 moves it: where a contract reads and no write touches its bitmaps, it still reads,
-- each number with just the written bits of its own box raised and its margin with just those past the end; only if its minute so
-- passes 1439 is it refused, with 4 at that minute. Over any list of accepted calls.
use Prim.Native.Nat.{ℕ, suc, ◌+◌}
use mathlib.Core.List.{List, [], ◌∷◌, ◌++◌}
use mathlib.Core.Bool.{Bool, true, false, ◌&&◌, true≢false}
use mathlib.Core.Path.{◌≡◌, refl, sym, ap, ◌∙◌}
use native.Mathlib.Omega.{arith}
use native.Mathlib.Nat.{add-zero, zero-add, add_assoc}
use lib.Dec.{eqb, ltb}
use borrow.Author.Tests.{eqb-true, eq-eqb}
use lib.ListN.{length, get_or, take, drop}
use lib.Seq.{drop-drop, take-add, get_or-take, get_or-drop}
use Rattle.bits.specs.Bits.{cut, spread, join, cleared}
use Rattle.rows.specs.Row.{Row, bit, minute, pick}
use Rattle.rows.specs.Walk.{Outcome, done, refused, and_then, Content, total, slots, read, frame}
use Rattle.rows.specs.Raise.{judge, judge_on, after, raised_to}
use Rattle.rows.specs.declared.Rule.{Rule}
use Rattle.rows.specs.declared.Rule.TheVariants.{Any, Most, Tariff, NoSecond}
use Rattle.rows.specs.Table.Contract.{head, data42, data50, contract42, contract50}
use Rattle.rows.proofs.Boxes.{total-append}
use Rattle.records.specs.Answer.{Answer, refusal, refusal_at, answered, valued, read_record}
use Rattle.contract.specs.Contract.{ContractRead, table_of, contract_of, known, contract_read}
use Rattle.contract.specs.declared.Contract.{Contract}
use Rattle.std.specs.Prelude.{Ok, Err}
use Rattle.gate.specs.Writes.{applying, called, AllAccepted, writes_in}
use Rattle.gate.proofs.Laws.{accepted_call}
use Rattle.gate.proofs.Raised.{AllSpare, together, calls_raise}

-- Rows without a rule.
abbrev AllAny : List Row → Type 0
AllAny [] = Unit {0}
AllAny (r ∷ rs) = (r.rule ≡ Any) × AllAny rs

-- Such rows are passed.
judge_any : (rs more : List Row) (i : ℕ) (ws all vals : List ℕ) (at : ℕ) → AllAny rs
    → judge_on (rs ++ more) i ws all vals at
    ≡ judge_on more (i + length rs) (drop (slots rs) ws) all (drop (slots rs) vals) (at + total (take (slots rs) ws))
judge_any [] more i ws all vals at free = rw (add-zero i, add-zero at)
judge_any (r ∷ rs) more i ws all vals at (any, free) =
    let k : ℕ = length r.boxes in
    let step : suc i + length rs ≡ i + suc (length rs) = omega arith in
    let place : at + total (take k ws) + total (take (slots rs) (drop k ws)) ≡ at + total (take (k + slots rs) ws) =
    add_assoc at (total (take k ws)) (total (take (slots rs) (drop k ws)))
    ∙ ap (λ (n : ℕ). at + n) (sym (total-append (take k ws) (take (slots rs) (drop k ws))) ∙ ap total (sym (take-add k (slots rs) ws))) in
    rw any
    (judge_any rs more (suc i) (drop k ws) all (drop k vals) (at + total (take k ws)) free
    ∙ rw (step, drop-drop (slots rs) k ws, drop-drop (slots rs) k vals, place))

judge_rest : (rs : List Row) (i : ℕ) (ws all vals : List ℕ) (at : ℕ) → AllAny rs → (end : ℕ) × (judge_on rs i ws all vals at ≡ done all end)
judge_rest [] i ws all vals at free = (at, refl)
judge_rest (r ∷ rs) i ws all vals at (any, free) =
    let k : ℕ = length r.boxes in
    let rest = judge_rest rs (suc i) (drop k ws) all (drop k vals) (at + total (take k ws)) free in
    (rest.0, rw any rest.1)

first_of : (vals : List ℕ) (s : ℕ) → get_or (take 1 (drop s vals)) 0 0 ≡ get_or vals s 0
first_of vals s = get_or-take 1 (drop s vals) 0 0 (omega arith) ∙ get_or-drop s vals 0 0 ∙ rw add-zero

-- A table with one rule, that one number is at most so much.
judge_one : (before behind : List Row) (r : Row) (w m : ℕ) (ws vals : List ℕ) → AllAny before → AllAny behind
    → r.boxes ≡ w ∷ [] → r.rule ≡ Most m
    → (end : ℕ) × (judge (before ++ (r ∷ behind)) ws vals
    ≡ pick (ltb m (get_or vals (slots before) 0)) (refused 4 (total (take (slots before) ws)) (length before)) (done vals end))
unfolding judge
judge_one before behind r w m ws vals free free' one most =
    let s : ℕ = slots before in
    let i : ℕ = length before in
    let at : ℕ = total (take s ws) in
    let passed : judge_on (before ++ (r ∷ behind)) 0 ws vals vals 0 ≡ judge_on (r ∷ behind) i (drop s ws) vals (drop s vals) at =
    judge_any before (r ∷ behind) 0 ws vals vals 0 free ∙ rw (zero-add (length before), zero-add (total (take (slots before) ws))) in
    let rest = judge_rest behind (suc i) (drop 1 (drop s ws)) vals (drop 1 (drop s vals)) (at + total (take 1 (drop s ws))) free' in
    (rest.0, passed ∙ rw (one, most, first_of vals s, rest.1) (go (ltb m (get_or vals s 0)) i at rest.0))
  where
    go : (t : Bool) (i at end : ℕ)
        → pick (eqb (pick t 4 0) 0) (done vals end) (refused (pick t 4 0) at i) ≡ pick t (refused 4 at i) (done vals end)
    go true i at end = refl
    go false i at end = refl

is_any : Rule → Bool
is_any Any = true
is_any (Most m) = false
is_any Tariff = false
is_any NoSecond = false

all_any : List Row → Bool
all_any [] = true
all_any (r ∷ rs) = is_any r.rule && all_any rs

-- Told by computing.
all_any_law : (rs : List Row) → all_any rs ≡ true → AllAny rs
unfolding all_any is_any
all_any_law [] e = tt
all_any_law (r ∷ rs) e = go r.rule refl e (all_any_law rs)
  where
    go : (rule : Rule) → r.rule ≡ rule → is_any rule && all_any rs ≡ true → (all_any rs ≡ true → AllAny rs) → AllAny (r ∷ rs)
    go Any is e rest = (is, rest e)
    go (Most m) is e rest = absurd (true≢false (sym e))
    go Tariff is e rest = absurd (true≢false (sym e))
    go NoSecond is e rest = absurd (true≢false (sym e))

-- What a table with one minute makes of numbers.
abbrev Judged : List Row → ℕ → Type 0
Judged rows slot =
    (ws vals : List ℕ)
    → (end : ℕ) × (judge rows ws vals ≡ pick (ltb 1439 (get_or vals slot 0)) (refused 4 (total (take slot ws)) slot) (done vals end))

-- The one rule of a 42h contract is the sale minute's, slot 12.
carnet_judged : Judged contract42 12
unfolding head data42 contract42 all_any is_any
carnet_judged ws vals =
    judge_one (take 12 contract42) (drop 13 contract42) (minute (bit 0 6)) 11 1439 ws vals
    (all_any_law (take 12 contract42) refl) (all_any_law (drop 13 contract42) refl) refl refl

-- The one rule of a 50h contract is the end minute's, slot 42.
urban_judged : Judged contract50 42
unfolding head data50 contract50 all_any is_any
urban_judged ws vals =
    judge_one (take 42 contract50) (drop 43 contract50) (minute (bit 13 13)) 11 1439 ws vals
    (all_any_law (take 42 contract50) refl) (all_any_law (drop 43 contract50) refl) refl refl

called_length : (bytes : List ℕ) (calls : List (List ℕ)) → length bytes ≡ 29 → AllAccepted bytes calls → length (called bytes calls) ≡ 29
called_length bytes [] long all = long
called_length bytes (c ∷ cs) long (first, rest) = called_length (applying bytes c).bytes cs (accepted_call bytes c first).2 rest

-- What a contract that was read was read from.
pub record Slots (kind : ℕ) (bytes : List ℕ) (c : Contract) : Type 0 where
  pub held : Content
  pub end : ℕ
  pub reads : read (table_of kind) (spread 8 bytes) ≡ done held end
  pub value : contract_of kind held.numbers (cut 64 64 4 held.margin) ≡ c
  pub long : length bytes ≡ 29
  pub type : known kind ≡ true

-- The answer to a contract's reading.
abbrev answer_of : ℕ → Outcome Content → ContractRead
answer_of kind o = answered (valued 4 (λ vals margin. Ok (contract_of kind vals margin))) Err o

pub contract_slots : (kind : ℕ) (bytes : List ℕ) (c : Contract) → contract_read kind bytes ≡ Ok c → Slots kind bytes c
unfolding read_record
contract_slots kind bytes c = go (eqb (length bytes) 29) (known kind) (read (table_of kind) (spread 8 bytes)) refl refl refl
  where
    out : (a b : Bool) → Outcome Content → ContractRead
    out a b o = pick a (pick b (pick a (answer_of kind o) (Err (refusal 1 0))) (Err (refusal 3 0))) (Err (refusal 1 0))

    never : {X : Type 0} (r : Answer) → Err r ≡ Ok c → X
    never r h = let z : ◌≡◌ {A = ℕ} 0 1 = cc in absurd (omega arith)

    go : (a b : Bool) (o : Outcome Content) → eqb (length bytes) 29 ≡ a → known kind ≡ b → read (table_of kind) (spread 8 bytes) ≡ o
        → out a b o ≡ Ok c → Slots kind bytes c
    go true true (done held end) e f g h = record { held = held; end = end; reads = g; value = cc; long = eqb-true _ _ e; type = f }
    go true true (refused n at i) e f g h = never (refusal_at n at i) h
    go true false o e f g h = never (refusal 3 0) h
    go false b o e f g h = never (refusal 1 0) h

module _ (kind slot : ℕ) (judged : Judged (table_of kind) slot) (bytes : List ℕ) (calls : List (List ℕ)) (c : Contract) (s : Slots kind bytes c) where
  -- The numbers with the written bits of their own boxes raised, and the margin with those past the end.
  abbrev raised : List ℕ
  raised = after (table_of kind) s.held.numbers (together (writes_in calls))

  abbrev raised_margin : List ℕ
  raised_margin = cut 64 64 4 (join s.held.margin (cleared s.end (together (writes_in calls))))

  contract_raised : AllAccepted bytes calls → AllSpare (table_of kind) s.held.numbers (writes_in calls)
      → contract_read kind (called bytes calls)
      ≡ pick (ltb 1439 (get_or raised slot 0)) (Err (refusal_at 4 (total (take slot (frame (table_of kind) s.held.numbers))) slot))
      (Ok (contract_of kind raised raised_margin))
  unfolding read_record raised_to
  contract_raised accepted spare =
      let long : length (called bytes calls) ≡ 29 = called_length bytes calls s.long accepted in
      let told = judged (frame (table_of kind) s.held.numbers) raised in
      ap (λ (t : Bool). pick t (pick (known kind) (record_answer t) (Err (refusal 3 0))) (Err (refusal 1 0))) (eq-eqb _ _ long)
      ∙ ap (λ (t : Bool). pick t (record_answer true) (Err (refusal 3 0))) s.type
      ∙ ap (answer_of kind) (calls_raise (table_of kind) bytes calls s.long s.reads accepted spare)
      ∙ ap (λ (o : Outcome (List ℕ)). answer_of kind (and_then o (λ vals last. done (keeping vals) last))) told.1
      ∙ go (ltb 1439 (get_or raised slot 0)) (total (take slot (frame (table_of kind) s.held.numbers))) told.0
    where
      keeping : List ℕ → Content
      keeping vals = record { numbers = vals; margin = join s.held.margin (cleared s.end (together (writes_in calls))) }

      record_answer : Bool → ContractRead
      record_answer t = pick t (answer_of kind (read (table_of kind) (spread 8 (called bytes calls)))) (Err (refusal 1 0))

      go : (t : Bool) (place end : ℕ)
          → answer_of kind (and_then (pick t (refused 4 place slot) (done raised end)) (λ vals last. done (keeping vals) last))
          ≡ pick t (Err (refusal_at 4 place slot)) (Ok (contract_of kind raised raised_margin))
      go true place end = refl
      go false place end = refl

-- A 42h contract after accepted calls: refused only with 4 at its sale minute.
pub carnet_raised : (bytes : List ℕ) (calls : List (List ℕ)) (c : Contract) (s : Slots 66 bytes c)
    → AllAccepted bytes calls
    → AllSpare contract42 s.held.numbers (writes_in calls)
    → contract_read 66 (called bytes calls)
    ≡ pick (ltb 1439 (get_or (after contract42 s.held.numbers (together (writes_in calls))) 12 0))
    (Err (refusal_at 4 (total (take 12 (frame contract42 s.held.numbers))) 12))
    (Ok
    (contract_of 66 (after contract42 s.held.numbers (together (writes_in calls)))
    (cut 64 64 4 (join s.held.margin (cleared s.end (together (writes_in calls)))))))
carnet_raised bytes calls c s = contract_raised 66 12 carnet_judged bytes calls c s

-- A 50h contract after accepted calls: refused only with 4 at its end minute.
pub urban_raised : (bytes : List ℕ) (calls : List (List ℕ)) (c : Contract) (s : Slots 80 bytes c)
    → AllAccepted bytes calls
    → AllSpare contract50 s.held.numbers (writes_in calls)
    → contract_read 80 (called bytes calls)
    ≡ pick (ltb 1439 (get_or (after contract50 s.held.numbers (together (writes_in calls))) 42 0))
    (Err (refusal_at 4 (total (take 42 (frame contract50 s.held.numbers))) 42))
    (Ok
    (contract_of 80 (after contract50 s.held.numbers (together (writes_in calls)))
    (cut 64 64 4 (join s.held.margin (cleared s.end (together (writes_in calls)))))))
urban_raised bytes calls c s = contract_raised 80 42 urban_judged bytes calls c s
