-- The special event list: what was read, written onto any record, is the same bytes; what was written, read again, is the same value.
use Prim.Native.Nat.{ℕ, ◌^◌, ◌<◌}
use mathlib.Core.List.{List, [], ◌∷◌, map}
use mathlib.Core.Path.{◌≡◌, refl, sym, ap, ap₂, ◌∙◌}
use lib.ListN.{length, get_or, take}
use lib.Dec.{ltb}
use Rattle.rows.specs.Table.Special.{special_list}
use Rattle.records.specs.Answer.{accepted}
use Rattle.lists.specs.Rules.{first_at_fault}
use Rattle.lists.specs.Listing.{column}
use Rattle.lists.specs.Special.{entry_numbers, entry_of, numbers_of, special_of, got_special, no_special, special_fault, special_read, special_written}
use Rattle.lists.specs.declared.special.SpecialEntry.{SpecialEntry}
use Rattle.lists.specs.declared.special.SpecialList.{SpecialList}
use Rattle.lists.specs.Special.{SpecialRead}
use Rattle.records.proofs.Inverse.{from_all, named_all}
use Rattle.records.proofs.Coming.{ComesTo, unwritten, comes_within}
use Rattle.lists.proofs.Judging.{take-map}
use Rattle.lists.proofs.Rowing.{flat}
use Rattle.lists.proofs.Relisting.{listing_read_write, listing_write_read}
use Rattle.lists.proofs.Coming.{listing_comes, listing_write_comes}

-- A list of four entries is what its numbers make.
pub special_of_numbers : (l : SpecialList) → length l.entries ≡ 4 → special_of (numbers_of l) ≡ l
special_of_numbers l four =
    ap (λ (es : List SpecialEntry). record { count = l.count; entries = es }) (named_all (entry_of [] 0) 4 l.entries four)

pub numbers_flat : (l : SpecialList) → length l.entries ≡ 4 → numbers_of l ≡ l.count ∷ flat entry_numbers l.entries
numbers_flat l four = ap (λ (es : List SpecialEntry). l.count ∷ flat entry_numbers es) (named_all (entry_of [] 0) 4 l.entries four)

-- The bitmaps and pointers of some entries, and the first of a list's entries at fault.
abbrev pub bitmaps : List SpecialEntry → List ℕ
bitmaps es = map (λ (e : SpecialEntry). e.bitmap) es

abbrev pub pointers : List SpecialEntry → List ℕ
pointers es = map (λ (e : SpecialEntry). e.pointer) es

pub fault_special : (s : ℕ) (l : SpecialList) → length l.entries ≡ 4
    → first_at_fault 7 s (bitmaps (take l.count l.entries)) (pointers (take l.count l.entries)) ≡ special_fault s (numbers_of l)
fault_special s l four =
    let all = named_all (entry_of [] 0) 4 l.entries four in
    let first : take l.count (column 4 5 1 (numbers_of l)) ≡ bitmaps (take l.count l.entries) =
    ap (λ (es : List SpecialEntry). take l.count (bitmaps es)) all ∙ take-map _ l.count l.entries in
    let last : take l.count (column 4 5 5 (numbers_of l)) ≡ pointers (take l.count l.entries) =
    ap (λ (es : List SpecialEntry). take l.count (pointers es)) all ∙ take-map _ l.count l.entries in
    ap₂ (first_at_fault 7 s) (sym first) (sym last)

same : (a b : SpecialList) → got_special a ≡ got_special b → a ≡ b
same a b h = ap (λ (r : SpecialRead). r.list) h

pub special_read_write : (s : ℕ) (bytes onto : List ℕ) (l : SpecialList) → ((i : ℕ) → get_or bytes i 0 < 2 ^ 8) → length onto ≡ 29
    → special_read s bytes ≡ got_special l
    → special_written s l onto ≡ accepted bytes
unfolding special_list
special_read_write s bytes onto l small long h =
    listing_read_write got_special no_special same (λ r l e. ap (λ (x : SpecialRead). x.refusal.number) e) (special_fault s) (ltb 4 s) special_list numbers_of special_of
    (from_all 21) bytes onto l small long h

pub special_write_read : (s : ℕ) (before after : List ℕ) (l : SpecialList) → length l.entries ≡ 4
    → special_written s l before ≡ accepted after
    → special_read s after ≡ got_special l
unfolding special_list
special_write_read s before after l four h =
    listing_write_read got_special no_special same (λ r l e. ap (λ (x : SpecialRead). x.refusal.number) e) (special_fault s) (ltb 4 s) special_list numbers_of special_of
    before after l refl (special_of_numbers l four) h

-- The refusals of a reading and of a writing.
pub special_comes : (s : ℕ) (bytes : List ℕ) → ComesTo got_special no_special (1 ∷ 11 ∷ 4 ∷ 5 ∷ 6 ∷ []) (special_read s bytes)
unfolding special_list
special_comes s bytes = comes_within (listing_comes special_of (special_fault s) (ltb 4 s) special_list bytes) refl

pub special_write_comes : (s : ℕ) (l : SpecialList) (before : List ℕ) → ComesTo accepted (unwritten before) (1 ∷ 11 ∷ 7 ∷ 4 ∷ 6 ∷ []) (special_written s l before)
unfolding special_list
special_write_comes s l before = comes_within (listing_write_comes (special_fault s) (ltb 4 s) special_list (numbers_of l) before) refl
