-- The ways out of the code that ends a loading, in terms of the values that were read.
use Prim.Native.Nat.{ℕ, ◌-◌, ◌*◌, ◌^◌, ◌≤◌, ◌<◌}
use mathlib.Core.Bool.{Bool, true, false}
use mathlib.Core.List.{List, ◌++◌}
use mathlib.Core.Path.{◌≡◌, refl, sym, ap, ◌∙◌}
use native.Mathlib.Omega.{arith}
use lib.Dec.{eqb}
use lib.Seq.{drop-drop, length-take-le}
use borrow.Rule.Slice.PartMut.{put_mid}
use lib.ListN.{length, get_or, take, drop, length-drop}
use borrow.Author.Tests.{eq-eqb, ne_eqb, eqb-true, eqb-false}
use Rattle.rows.specs.Row.{pick}
use Rattle.records.specs.Answer.{Written, refusal, Answer}
use Rattle.records.specs.Order.{record_from}
use Rattle.records.proofs.Coming.{written_kept}
use Rattle.lists.specs.List.{list_read, list_written, ListRead}
use Rattle.lists.specs.Tally.{tally_of}
use Rattle.lists.specs.Entries.{counted, without_pointer, appended}
use Rattle.lists.specs.declared.list.Entry.{Entry}
use Rattle.lists.specs.declared.list.ContractList.{ContractList}
use Rattle.lists.proofs.list.Laws.{list_fair, list_write_comes}
use Rattle.lists.proofs.Kept.{list_got}
use Rattle.contract.specs.Contract.{contract_read, contract_written}
use Rattle.contract.specs.declared.Contract.{Contract}
use Rattle.std.specs.Prelude.{Ok}
use Rattle.contract.proofs.Laws.{contract_read_write}
use Rattle.loading.specs.Place.{place}
use Rattle.loading.specs.Loading.{Outcome, loaded, new_entry, placed, Loaded}
use Rattle.loading.specs.Inner.Store.{renewed, file_after, stored, ended}
use Rattle.loading.specs.declared.Order.{Order}

-- An answer, the list, and the contract file after it.
abbrev after : Loaded → List ℕ → List ℕ → List ℕ → Outcome
after r list new file = record { answer = r; list = list; file = file_after r new file }

-- Refused, the file stays.
kept : (r : Answer) (list new file : List ℕ) → (r.number ≡ 0 → ⊥) → after (record { refusal = r; pointer = 0 }) list new file ≡ loaded r 0 list file
kept r list new file refuses = rw (ne_eqb _ _ refuses)

-- The ways out of a store.
module _ (o : Order) (list file : List ℕ) (old : ContractList) (new : List ℕ) (pointer : ℕ) where
  pub store_none : pointer ≡ 0 → loaded (refusal 9 0) 0 list file ≡ stored o list file old new pointer
  unfolding stored
  store_none z = rw (eq-eqb _ _ z)

  module _ (some : pointer ≡ 0 → ⊥) {left listed : ContractList} {e : Entry} {answer : Answer} {bytes : List ℕ}
      (a : left ≡ without_pointer o.c pointer old) (b : e ≡ new_entry o pointer) (c : listed ≡ appended o.c e left)
      (w : record { answer = answer; bytes = bytes } ≡ list_written o.n o.c listed list) where
    as_renewed : record { answer = answer; bytes = bytes } ≡ list_written o.n o.c (renewed o old pointer) list
    as_renewed =
        let same : listed ≡ renewed o old pointer = c ∙ rw (a, b) in
        w ∙ ap (λ (l : ContractList). list_written o.n o.c l list) same

    pub store_refused : (answer.number ≡ 0 → ⊥) → after (record { refusal = answer; pointer = 0 }) bytes new file ≡ stored o list file old new pointer
    unfolding stored
    store_refused refuses =
        let answers : answer ≡ (list_written o.n o.c (renewed o old pointer) list).answer = ap (λ (x : Written). x.answer) as_renewed in
        let other : (list_written o.n o.c (renewed o old pointer) list).answer.number ≡ 0 → ⊥ = λ z. refuses (ap (λ (r : Answer). r.number) answers ∙ z) in
        let same : bytes ≡ list = ap (λ (x : Written). x.bytes) as_renewed ∙ written_kept list (list_write_comes o.n o.c (renewed o old pointer) list) other in
        kept answer bytes new file refuses ∙ rw (ne_eqb _ _ some, ne_eqb _ _ other, answers, same)

    pub store_done : answer.number ≡ 0 → loaded (refusal 0 0) pointer bytes (placed pointer new file) ≡ stored o list file old new pointer
    unfolding stored
    store_done accepts =
        let answers : answer ≡ (list_written o.n o.c (renewed o old pointer) list).answer = ap (λ (x : Written). x.answer) as_renewed in
        let zero : (list_written o.n o.c (renewed o old pointer) list).answer.number ≡ 0 = sym (ap (λ (r : Answer). r.number) answers) ∙ accepts in
        let lists : bytes ≡ (list_written o.n o.c (renewed o old pointer) list).bytes = ap (λ (x : Written). x.bytes) as_renewed in
        rw (ne_eqb _ _ some, eq-eqb _ _ zero, lists)

-- The tally of a list that was read.
pub read_fair : (n c : ℕ) (bytes : List ℕ) {r : ListRead} → r ≡ list_read n c bytes → r.refusal.number ≡ 0
    → r.list.tally ≡ tally_of c (counted r.list)
read_fair n c bytes same zero = rw same (list_fair n c bytes _ (list_got n c bytes (rw same at zero)))

-- The ways out when the rest is read.
module _ (o : Order) (list file new : List ℕ) (rest : Answer) (is_blocked : ℕ → Bool) {r s : ListRead} (same : r ≡ s) where
  pub end_list : (r.refusal.number ≡ 0 → ⊥) → after (record { refusal = r.refusal; pointer = 0 }) list new file ≡ ended o list file new rest is_blocked s
  unfolding ended
  end_list refuses = kept r.refusal list new file refuses ∙ rw (← same, ne_eqb _ _ refuses)

  module _ (reads : r.refusal.number ≡ 0) where
    pub end_rest : (rest.number ≡ 0 → ⊥) → after (record { refusal = rest; pointer = 0 }) list new file ≡ ended o list file new rest is_blocked s
    unfolding ended
    end_rest refuses = kept rest list new file refuses ∙ rw (← same, eq-eqb _ _ reads, ne_eqb _ _ refuses)

    pub end_store : rest.number ≡ 0 → (p : ℕ) → p ≡ place is_blocked o.n o.c o.counter (counted r.list)
        → stored o list file r.list new p ≡ ended o list file new rest is_blocked s
    unfolding ended
    end_store quiet p named = rw (← same, eq-eqb _ _ reads, eq-eqb _ _ quiet, ← named)

-- What an accepted end tells: the rest was read, and the pointer is the one that the rule names.
pub record Accepted (o : Order) (rest : Answer) (is_blocked : ℕ → Bool) (es : List Entry) (pointer : ℕ) : Type 0 where
  pub quiet : rest.number ≡ 0
  pub named : pointer ≡ place is_blocked o.n o.c o.counter es
  pub some : pointer ≡ 0 → ⊥

pub end_accepted : (o : Order) (list file new : List ℕ) (rest : Answer) (is_blocked : ℕ → Bool) (r : ListRead) (out : Outcome)
    → out ≡ ended o list file new rest is_blocked r → out.answer.refusal.number ≡ 0
    → Accepted o rest is_blocked (counted r.list) out.answer.pointer
unfolding ended stored
end_accepted o list file new rest is_blocked r out same zero =
    go (eqb r.refusal.number 0) refl (eqb rest.number 0) refl (eqb p 0) refl (eqb w.answer.number 0) refl same
  where
    p : ℕ
    p = place is_blocked o.n o.c o.counter (counted r.list)

    w : Written
    w = list_written o.n o.c (renewed o r.list p) list

    number : {x : Answer} {q : ℕ} {l f : List ℕ} → out ≡ loaded x q l f → x.number ≡ 0
    number e = sym (ap (λ (t : Outcome). t.answer.refusal.number) e) ∙ zero

    go : (a : Bool) → eqb r.refusal.number 0 ≡ a → (b : Bool) → eqb rest.number 0 ≡ b → (c : Bool) → eqb p 0 ≡ c
        → (d : Bool) → eqb w.answer.number 0 ≡ d
        → out
        ≡ pick a
        (pick b
        (pick c (loaded (refusal 9 0) 0 list file) (pick d (loaded (refusal 0 0) p w.bytes (placed p new file)) (loaded w.answer 0 list file)))
        (loaded rest 0 list file))
        (loaded r.refusal 0 list file)
        → Accepted o rest is_blocked (counted r.list) out.answer.pointer
    go false e b f c g d h x = absurd (eqb-false _ _ e (number x))
    go true e false f c g d h x = absurd (eqb-false _ _ f (number x))
    go true e true f true g d h x = absurd (omega (arith, number x))
    go true e true f false g false h x = absurd (eqb-false _ _ h (number x))
    go true e true f false g true h x =
        let own : out.answer.pointer ≡ p = ap (λ (t : Outcome). t.answer.pointer) x in
        record { quiet = eqb-true _ _ f; named = own; some = λ z. eqb-false _ _ g (sym own ∙ z) }

-- The new record, read and written to its pointer's place.
pub new_put : (kind pointer : ℕ) (new file part : List ℕ) (k : ℕ) (r : Answer) (c : Contract) → k ≡ 29 → 29 * pointer ≤ length file → 1 ≤ pointer
    → ((i : ℕ) → get_or new i 0 < 2 ^ 8) → contract_read kind new ≡ Ok c
    → record { answer = r; bytes = part } ≡ contract_written kind c (take k (drop (29 * (pointer - 1)) file))
    → put_mid (29 * (pointer - 1)) k file part ≡ placed pointer new file
new_put kind pointer new file part k r c size inside first small reads written =
    let at : ℕ = 29 * (pointer - 1) in
    let room : 29 ≤ length (drop at file) = simp length-drop (omega arith) in
    let own : part ≡ new =
    ap (λ (x : Written). x.bytes) (rw size at written ∙ contract_read_write kind new (record_from file (pointer - 1)) c small (length-take-le 29 (drop at file) room) reads) in
    rw (size, own) (ap (λ (l : List ℕ). take at file ++ (new ++ l)) (drop-drop 29 at file))
