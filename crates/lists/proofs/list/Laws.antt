-- The contract list: what was read, written onto any record, is the same bytes; what was written, read again, is the same value.
use Prim.Native.Nat.{ℕ, ◌^◌, ◌<◌}
use mathlib.Core.Bool.{Bool, true, false}
use mathlib.Core.List.{List, [], ◌∷◌, map}
use mathlib.Core.Path.{◌≡◌, refl, sym, ap, ap₂, ◌∙◌}
use native.Mathlib.Omega.{arith}
use lib.Dec.{eqb}
use lib.ListN.{length, get_or, take}
use borrow.Author.Tests.{eqb-false, ne_eqb}
use Rattle.rows.specs.Row.{pick}
use Rattle.rows.specs.Table.BestContracts.{contract_list}
use Rattle.records.specs.Answer.{Written, refusal, accepted, denied}
use Rattle.lists.specs.Rules.{first_at_fault}
use Rattle.lists.specs.Listing.{column}
use Rattle.lists.specs.List.{entry_of, numbers_of, list_of, got_list, no_list, list_fault, outside, list_read, fair, fairly, list_written}
use Rattle.lists.specs.Tally.{tally_of}
use Rattle.lists.specs.declared.list.Entry.{Entry}
use Rattle.lists.specs.declared.list.ContractList.{ContractList}
use Rattle.lists.specs.List.{ListRead}
use Rattle.lists.specs.declared.tally.Tally.{Tally}
use Rattle.records.proofs.Inverse.{from_all, named_all}
use Rattle.records.proofs.Coming.{ComesTo, fine, faulty, unwritten, comes_within, stops}
use Rattle.lists.proofs.Judging.{take-map}
use Rattle.lists.proofs.Tallying.{same_tally_law, same_self}
use Rattle.lists.proofs.Relisting.{listing_read_write, listing_write_read}
use Rattle.lists.proofs.Coming.{listing_comes, listing_write_comes}

-- The tally is a fresh count.
abbrev pub Fair : ℕ → ContractList → Type 0
Fair c l = l.tally ≡ tally_of c (take l.count l.entries)

-- A list of eight entries with its tally is what its numbers make.
pub list_of_numbers : (c : ℕ) (l : ContractList) → length l.entries ≡ 8 → Fair c l → list_of c (numbers_of l) ≡ l
list_of_numbers c l eight even =
    ap (λ (es : List Entry). record { count = l.count; entries = es; tally = tally_of c (take l.count es) }) (named_all (entry_of [] 0) 8 l.entries eight)
    ∙ ap (λ (t : Tally). record { count = l.count; entries = l.entries; tally = t }) (sym even)

-- Last of all the tally is looked at: one that is right changes nothing,
pub fairly_right : (c : ℕ) (l : ContractList) (before : List ℕ) (w : Written) → Fair c l → fairly (fair c l) before w ≡ w
fairly_right c l before w even =
    let right : fair c l ≡ true = rw even (same_self (tally_of c (take l.count l.entries))) in
    rw right (go (eqb w.answer.number 0))
  where
    go : (t : Bool) → pick t w w ≡ w
    go true = refl
    go false = refl

-- and what was accepted had it right.
pub fairly_accepted : (c : ℕ) (l : ContractList) (before after : List ℕ) (w : Written) → fairly (fair c l) before w ≡ accepted after
    → (w ≡ accepted after) × Fair c l
fairly_accepted c l before after w = go (eqb w.answer.number 0) refl (fair c l) refl
  where
    go : (t : Bool) → eqb w.answer.number 0 ≡ t → (f : Bool) → fair c l ≡ f
        → pick t (pick f w (denied (refusal 6 0) before)) w ≡ accepted after → (w ≡ accepted after) × Fair c l
    go true e true f h = (h, same_tally_law _ _ f)
    go true e false f h = absurd (let six : ◌≡◌ {A = ℕ} 6 0 = ap (λ (x : Written). x.answer.number) h in omega arith)
    go false e f g h = absurd (eqb-false _ _ e (ap (λ (x : Written). x.answer.number) h))

-- The bitmaps and pointers of some entries, and the first of a list's entries at fault.
abbrev pub bitmaps : List Entry → List ℕ
bitmaps es = map (λ (e : Entry). e.bitmap) es

abbrev pub pointers : List Entry → List ℕ
pointers es = map (λ (e : Entry). e.pointer) es

pub fault_list : (n : ℕ) (l : ContractList) → length l.entries ≡ 8
    → first_at_fault 3 n (bitmaps (take l.count l.entries)) (pointers (take l.count l.entries)) ≡ list_fault n (numbers_of l)
fault_list n l eight =
    let all = named_all (entry_of [] 0) 8 l.entries eight in
    let first : take l.count (column 8 6 1 (numbers_of l)) ≡ bitmaps (take l.count l.entries) =
    ap (λ (es : List Entry). take l.count (bitmaps es)) all ∙ take-map _ l.count l.entries in
    let last : take l.count (column 8 6 6 (numbers_of l)) ≡ pointers (take l.count l.entries) =
    ap (λ (es : List Entry). take l.count (pointers es)) all ∙ take-map _ l.count l.entries in
    ap₂ (first_at_fault 3 n) (sym first) (sym last)

same : (a b : ContractList) → got_list a ≡ got_list b → a ≡ b
same a b h = ap (λ (r : ListRead). r.list) h

-- A list that was read has its tally right.
pub list_fair : (n c : ℕ) (bytes : List ℕ) (l : ContractList) → list_read n c bytes ≡ got_list l → Fair c l
list_fair n c bytes l =
    go (listing_comes {good = λ vals. got_list (list_of c vals)} {bad = no_list} (λ vals. vals) (list_fault n) (outside n c) (contract_list n) bytes)
  where
    go : {ns : List ℕ} {r : ListRead} → ComesTo (λ vals. got_list (list_of c vals)) no_list ns r → r ≡ got_list l → Fair c l
    go (fine vals) e = rw (← same (list_of c vals) l e)
    go (faulty r why) e = absurd (why.some (ap (λ (x : ListRead). x.refusal.number) e))

pub list_read_write : (n c : ℕ) (bytes onto : List ℕ) (l : ContractList) → ((i : ℕ) → get_or bytes i 0 < 2 ^ 8) → length onto ≡ 29
    → list_read n c bytes ≡ got_list l
    → list_written n c l onto ≡ accepted bytes
unfolding contract_list
list_read_write n c bytes onto l small long h =
    fairly_right c l onto _ (list_fair n c bytes l h)
    ∙ listing_read_write got_list no_list same (λ r l e. ap (λ (x : ListRead). x.refusal.number) e) (list_fault n) (outside n c) (contract_list n) numbers_of (list_of c)
    (from_all 49) bytes onto l small long h

pub list_write_read : (n c : ℕ) (before after : List ℕ) (l : ContractList) → length l.entries ≡ 8
    → list_written n c l before ≡ accepted after
    → list_read n c after ≡ got_list l
unfolding contract_list
list_write_read n c before after l eight h =
    let (written, even) = fairly_accepted c l before after _ h in
    listing_write_read got_list no_list same (λ r l e. ap (λ (x : ListRead). x.refusal.number) e) (list_fault n) (outside n c) (contract_list n) numbers_of (list_of c)
    before after l refl (list_of_numbers c l eight even) written

-- The refusals of a reading and of a writing.
pub list_comes : (n c : ℕ) (bytes : List ℕ) → ComesTo got_list no_list (1 ∷ 11 ∷ 2 ∷ 4 ∷ 5 ∷ 6 ∷ []) (list_read n c bytes)
unfolding contract_list
list_comes n c bytes = comes_within (listing_comes (list_of c) (list_fault n) (outside n c) (contract_list n) bytes) refl

pub list_write_comes : (n c : ℕ) (l : ContractList) (before : List ℕ)
    → ComesTo accepted (unwritten before) (1 ∷ 11 ∷ 7 ∷ 2 ∷ 4 ∷ 6 ∷ []) (list_written n c l before)
unfolding contract_list
list_write_comes n c l before =
    go (comes_within (listing_write_comes (list_fault n) (outside n c) (contract_list n) (numbers_of l) before) refl) (fair c l)
  where
    go : {w : Written} → ComesTo accepted (unwritten before) (1 ∷ 11 ∷ 7 ∷ 2 ∷ 4 ∷ 6 ∷ []) w → (f : Bool)
        → ComesTo accepted (unwritten before) (1 ∷ 11 ∷ 7 ∷ 2 ∷ 4 ∷ 6 ∷ []) (fairly f before w)
    go (fine bytes) true = fine bytes
    go (fine bytes) false = stops (refusal 6 0) refl refl refl
    go (faulty r why) f = rw (ne_eqb _ _ why.some) (faulty r why)
