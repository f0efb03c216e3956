-- Contract: what was read, written onto any record, is the same bytes; what was written, read again, is the same value.
use Prim.Native.Nat.{ℕ, ◌^◌, ◌<◌}
use mathlib.Core.List.{List, [], ◌∷◌, ◌++◌}
use mathlib.Core.Bool.{Bool, true, false, ◌||◌, So, So-prop, false≢true}
use mathlib.Core.HLevel.{Σ_prop_path}
use mathlib.Core.Path.{◌≡◌, refl, sym, ap, ◌∙◌}
use native.Mathlib.Omega.{arith}
use lib.Dec.{eqb}
use lib.ListN.{length, get_or, take, drop}
use borrow.Author.Tests.{eqb-true}
use Rattle.bits.specs.Bits.{cut, spread}
use Rattle.rows.specs.Margin.{words_of}
use Rattle.rows.specs.Row.{pick}
use Rattle.rows.specs.Walk.{Outcome, done, refused, and_then, walk, slots_of, Content, read, write}
use Rattle.rows.specs.Table.Contract.{head, data42, data50, contract42, contract50}
use Rattle.rows.specs.Refusing.{walk_numbers, write_numbers}
use Rattle.rows.proofs.RoundTrip.{read_slots}
use Rattle.rows.proofs.Refusing.{Refuses, within, refuses_then, walk_written}
use Rattle.records.specs.Answer.{Written, refusal, refusal_at, accepted, denied, written, answered, valued, content, read_record, write_record, from}
use Rattle.contract.specs.Contract.{data42_of, data50_of, numbers42, numbers50, head_numbers, with_rest, is_carnet, is_urban, table_of, follow, contract_of, known, contract_read, suit, agrees, carnet, urban, numbers_of, disagreement, contract_written}
use Rattle.records.specs.Answer.{Answer}
use Rattle.contract.specs.declared.Data.{Data}
use Rattle.contract.specs.declared.Data.TheVariants.{Nothing, Carnet, Urban}
use Rattle.contract.specs.declared.Contract.{Contract}
use Rattle.contract.specs.Contract.{ContractRead}
use Rattle.std.specs.Prelude.{Ok, Err}
use Rattle.records.proofs.Inverse.{View, from_all, record_read_write, record_write_read}
use Rattle.records.proofs.Coming.{ComesTo, unwritten, comes_within, either, stops, written_comes, record_comes, record_write_comes}
use Rattle.contract.proofs.Absent.{zero_slots, absent, read_absent}
use Rattle.contract.proofs.Writing.{contract_sized}

-- The contracts whose data agree with bit [6] and a type.
abbrev Agreed : ℕ → Type 0
Agreed kind = (c : Contract) × So (agrees kind c)

-- Slots make a contract that agrees.
agrees_of : (kind : ℕ) (vals margin : List ℕ) → known kind ≡ true → agrees kind (contract_of kind vals margin) ≡ true
agrees_of kind vals margin = go (is_carnet kind) (is_urban kind) (follow (get_or vals 0 0)) refl refl
  where
    go : (k u f : Bool) → is_carnet kind ≡ k → is_urban kind ≡ u → (k || u) ≡ true
        → suit kind f (pick f (pick k (Carnet (data42_of (from 9 9 vals))) (Urban (data50_of (from 9 36 vals)))) Nothing) ≡ true
    go true u true carnet urban h = carnet
    go true u false carnet urban h = refl
    go false true true carnet urban h = urban
    go false true false carnet urban h = refl
    go false false f carnet urban h = absurd (false≢true h)

-- A contract that agrees is that of its numbers.
contract_back : (kind : ℕ) (c : Contract) → agrees kind c ≡ true → contract_of kind (numbers_of kind c) (words_of c.margin) ≡ c
contract_back kind c = go c.«data» (is_carnet kind) (follow c.bitmap) refl
  where
    slots_for : Data → Bool → List ℕ
    slots_for d k = head_numbers c ++ pick k (numbers42 (carnet d)) (numbers50 (urban d))

    go : (d : Data) (k f : Bool) → is_carnet kind ≡ k → suit kind f d ≡ true
        → with_rest c (pick f (pick k (Carnet (data42_of (from 9 9 (slots_for d k)))) (Urban (data50_of (from 9 36 (slots_for d k))))) Nothing) c.margin ≡ with_rest c d c.margin
    go Nothing k true carnet h = absurd (false≢true h)
    go Nothing k false carnet h = refl
    go (Carnet d) true true carnet h = refl
    go (Carnet d) false true carnet h = absurd (false≢true (sym carnet ∙ h))
    go (Carnet d) k false carnet h = absurd (false≢true h)
    go (Urban d) true true carnet h = absurd (omega (arith, eqb-true kind 66 carnet, eqb-true kind 80 h))
    go (Urban d) false true carnet h = refl
    go (Urban d) k false carnet h = absurd (false≢true h)

-- The numbers of a contract that was read are those read.
contract_forth : (kind : ℕ) (bs : List Bool) (margin : List ℕ) {c : Content} {end : ℕ} → read (table_of kind) bs ≡ done c end
    → numbers_of kind (contract_of kind c.numbers margin) ≡ c.numbers
unfolding head data42 data50 contract42 contract50
contract_forth kind bs margin {c} {end} = go (is_carnet kind) (follow (get_or c.numbers 0 0)) refl
  where
    vals : List ℕ
    vals = c.numbers

    go : (k f : Bool) → follow (get_or vals 0 0) ≡ f → read (pick k contract42 contract50) bs ≡ done c end
        → from 0 9 vals
        ++ pick k (numbers42 (carnet (pick f (pick k (Carnet (data42_of (from 9 9 vals))) (Urban (data50_of (from 9 36 vals)))) Nothing)))
        (numbers50 (urban (pick f (pick k (Carnet (data42_of (from 9 9 vals))) (Urban (data50_of (from 9 36 vals)))) Nothing)))
        ≡ vals
    go true true e h = from_all 18 vals (read_slots contract42 bs h)
    go false true e h = from_all 45 vals (read_slots contract50 bs h)
    go true false e h =
        let all : from 0 18 vals ≡ vals = from_all 18 vals (read_slots contract42 bs h) in
        let off : absent data42 (take 9 vals) ≡ true = rw (← all, e) in
        let zeros : from 9 9 vals ≡ zero_slots data42 = ap (drop 9) all ∙ read_absent head data42 bs h off in
        ap (λ (l : List ℕ). from 0 9 vals ++ l) (sym zeros) ∙ all
    go false false e h =
        let all : from 0 45 vals ≡ vals = from_all 45 vals (read_slots contract50 bs h) in
        let off : absent data50 (take 9 vals) ≡ true = rw (← all, e) in
        let zeros : from 9 36 vals ≡ zero_slots data50 = ap (drop 9) all ∙ read_absent head data50 bs h off in
        ap (λ (l : List ℕ). from 0 9 vals ++ l) (sym zeros) ∙ all

-- The values of a type are those that agree.
abbrev agreed_of : (kind : ℕ) → known kind ≡ true → List ℕ → List ℕ → Agreed kind
agreed_of kind there vals margin = (contract_of kind vals margin, agrees_of kind vals margin there)

view : (kind : ℕ) (there : known kind ≡ true)
    → View (table_of kind) 232 4 (λ (a : Agreed kind). numbers_of kind a.0) (λ (a : Agreed kind). words_of a.0.margin) (agreed_of kind there)
view kind there =
    record {
      sized = λ a. contract_sized kind a.0;
      margins = λ a. refl;
      back = λ a. Σ_prop_path (λ c. So-prop (agrees kind c)) (contract_back kind a.0 a.1);
      forth = λ bs margin long h. contract_forth kind bs margin h;
      kept = λ vals margin long. from_all 4 margin long;
    }

same : (kind : ℕ) (a b : Agreed kind) → ◌≡◌ {A = ContractRead} (Ok a.0) (Ok b.0) → a ≡ b
same kind a b h = Σ_prop_path (λ c. So-prop (agrees kind c)) (cc)

apart : (r : Answer) (c : Contract) → Err r ≡ Ok c → ⊥
apart r c h = let z : ◌≡◌ {A = ℕ} 0 1 = cc in omega arith

-- The table of a type, read from a record.
abbrev reads : ℕ → List ℕ → ContractRead
reads kind bytes = read_record (λ vals margin. Ok (contract_of kind vals margin)) Err (table_of kind) bytes

-- Under a type that there is, reading a contract is reading its table; under no other is a contract read.
read_known : (kind : ℕ) (bytes : List ℕ) → known kind ≡ true → contract_read kind bytes ≡ reads kind bytes
unfolding read_record
read_known kind bytes there = rw there (go (eqb (length bytes) 29))
  where
    x : ContractRead
    x = answered (valued 4 (λ vals margin. Ok (contract_of kind vals margin))) Err (read (table_of kind) (spread 8 bytes))

    go : (b : Bool) → pick b (pick b x (Err (refusal 1 0))) (Err (refusal 1 0)) ≡ pick b x (Err (refusal 1 0))
    go true = refl
    go false = refl

known_read : (kind : ℕ) (bytes : List ℕ) (c : Contract) → contract_read kind bytes ≡ Ok c → known kind ≡ true
known_read kind bytes c = go (eqb (length bytes) 29) (known kind)
  where
    go : (l t : Bool) → pick l (pick t (reads kind bytes) (Err (refusal 3 0))) (Err (refusal 1 0)) ≡ Ok c → t ≡ true
    go true true h = refl
    go true false h = absurd (apart (refusal 3 0) c h)
    go false t h = absurd (apart (refusal 1 0) c h)

-- A contract that was read agrees.
agrees_read : (kind : ℕ) (bytes : List ℕ) (c : Contract) → known kind ≡ true → reads kind bytes ≡ Ok c → agrees kind c ≡ true
unfolding read_record
agrees_read kind bytes c there = go (eqb (length bytes) 29) (read (table_of kind) (spread 8 bytes))
  where
    go : (l : Bool) (o : Outcome Content)
        → pick l (answered (valued 4 (λ vals margin. Ok (contract_of kind vals margin))) Err o) (Err (refusal 1 0)) ≡ Ok c
        → agrees kind c ≡ true
    go true (done r end) h =
        let margin : List ℕ = cut 64 64 4 r.margin in
        let made : contract_of kind r.numbers margin ≡ c = cc in
        sym (ap (agrees kind) made) ∙ agrees_of kind r.numbers margin there
    go true (refused n at i) h = absurd (apart (refusal_at n at i) c h)
    go false o h = absurd (apart (refusal 1 0) c h)

-- A contract that agrees is written by its table; no other is.
write_known : (kind : ℕ) (c : Contract) (before : List ℕ) → known kind ≡ true → agrees kind c ≡ true
    → contract_written kind c before ≡ write_record (table_of kind) (numbers_of kind c) (words_of c.margin) before
unfolding write_record
write_known kind c before there agree = rw (there, agree) (go (eqb (length before) 29))
  where
    x : Written
    x = written before (write (table_of kind) 232 (content (numbers_of kind c) (words_of c.margin)))

    go : (b : Bool) → pick b (pick b x (denied (refusal 1 0) before)) (denied (refusal 1 0) before) ≡ pick b x (denied (refusal 1 0) before)
    go true = refl
    go false = refl

not_disagreed : (c : Contract) (before after : List ℕ) → disagreement c before ≡ accepted after → ⊥
not_disagreed c before after = go (walk 232 (slots_of (head_numbers c)) head 0 [] 0) (walk_written head 232 (head_numbers c))
  where
    go : (o : Outcome (List ℕ)) → Refuses (write_numbers 232 head) o → written before (and_then o (λ vals end. refused 7 end 9)) ≡ accepted after → ⊥
    go (done vals end) why h = let z : ◌≡◌ {A = ℕ} 7 0 = ap (λ (w : Written). w.answer.number) h in omega arith
    go (refused n at i) why h = why.some (ap (λ (w : Written). w.answer.number) h)

known_written : (kind : ℕ) (c : Contract) (before after : List ℕ) → contract_written kind c before ≡ accepted after
    → (known kind ≡ true) × (agrees kind c ≡ true)
known_written kind c before after = go (eqb (length before) 29) (known kind) (agrees kind c)
  where
    x : Written
    x = write_record (table_of kind) (numbers_of kind c) (words_of c.margin) before

    go : (l t a : Bool) → pick l (pick t (pick a x (disagreement c before)) (denied (refusal 3 0) before)) (denied (refusal 1 0) before) ≡ accepted after
        → (t ≡ true) × (a ≡ true)
    go true true true h = (refl, refl)
    go true true false h = absurd (not_disagreed c before after h)
    go true false a h = absurd (let z : ◌≡◌ {A = ℕ} 3 0 = ap (λ (w : Written). w.answer.number) h in omega arith)
    go false t a h = absurd (let z : ◌≡◌ {A = ℕ} 1 0 = ap (λ (w : Written). w.answer.number) h in omega arith)

pub contract_read_write : (kind : ℕ) (bytes onto : List ℕ) (c : Contract) → ((i : ℕ) → get_or bytes i 0 < 2 ^ 8) → length onto ≡ 29
    → contract_read kind bytes ≡ Ok c
    → contract_written kind c onto ≡ accepted bytes
contract_read_write kind bytes onto c small long h =
    let there = known_read kind bytes c h in
    let reading : reads kind bytes ≡ Ok c = sym (read_known kind bytes there) ∙ h in
    let agree = agrees_read kind bytes c there reading in
    write_known kind c onto there agree
    ∙ record_read_write (λ (a : Agreed kind). Ok a.0) Err (same kind) (λ r a. apart r a.0) (view kind there) bytes onto (c, agree) small long reading

pub contract_write_read : (kind : ℕ) (before after : List ℕ) (c : Contract) → ((i : ℕ) → get_or (words_of c.margin) i 0 < 2 ^ 64)
    → contract_written kind c before ≡ accepted after
    → contract_read kind after ≡ Ok c
contract_write_read kind before after c small h =
    let (there, agree) = known_written kind c before after h in
    read_known kind after there
    ∙ record_write_read (λ (a : Agreed kind). Ok a.0) Err (same kind) (λ r a. apart r a.0) (view kind there) before after (c, agree) small
    (sym (write_known kind c before there agree) ∙ h)

-- The numbers that the tables of both types refuse with.
contract_numbers : (t : Bool)
    → (within (1 ∷ walk_numbers 232 (pick t contract42 contract50)) (1 ∷ 3 ∷ 2 ∷ 4 ∷ []) ≡ true)
    × (within (1 ∷ write_numbers 232 (pick t contract42 contract50)) (1 ∷ 3 ∷ 7 ∷ 2 ∷ 4 ∷ []) ≡ true)
unfolding head data42 data50 contract42 contract50
contract_numbers true = (refl, refl)
contract_numbers false = (refl, refl)

-- Data that do not agree are 7: so is a number of the head that is too wide, which always fits the record.
disagreement_comes : (c : Contract) (before : List ℕ) → ComesTo accepted (unwritten before) (7 ∷ []) (disagreement c before)
unfolding head
disagreement_comes c before =
    written_comes before (and_then (walk 232 (slots_of (head_numbers c)) head 0 [] 0) (λ vals end. refused 7 end 9))
    (refuses_then (7 ∷ []) (walk 232 (slots_of (head_numbers c)) head 0 [] 0) (λ vals end. refused 7 end 9) (walk_written head 232 (head_numbers c))
    (λ vals end. record { some = λ z. omega arith; listed = refl; named = refl }))

-- The refusals of a reading and of a writing.
pub contract_comes : (kind : ℕ) (bytes : List ℕ) → ComesTo Ok Err (1 ∷ 3 ∷ 2 ∷ 4 ∷ []) (contract_read kind bytes)
contract_comes kind bytes =
    either (eqb (length bytes) 29)
    (either (known kind) (comes_within (record_comes (contract_of kind) (table_of kind) bytes) (contract_numbers (is_carnet kind)).0) (stops (refusal 3 0) refl refl refl))
    (stops (refusal 1 0) refl refl refl)

pub contract_write_comes : (kind : ℕ) (c : Contract) (before : List ℕ)
    → ComesTo accepted (unwritten before) (1 ∷ 3 ∷ 7 ∷ 2 ∷ 4 ∷ []) (contract_written kind c before)
contract_write_comes kind c before =
    either (eqb (length before) 29)
    (either (known kind)
    (either (agrees kind c) (comes_within (record_write_comes (table_of kind) (numbers_of kind c) (words_of c.margin) before) (contract_numbers (is_carnet kind)).1)
    (comes_within (disagreement_comes c before) refl))
    (stops (refusal 3 0) refl refl refl))
    (stops (refusal 1 0) refl refl refl)
