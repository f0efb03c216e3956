-- Lists whose entries are sound: writing one is refused exactly where it takes more bits than a record has, and then with 2.
use Prim.Native.Nat.{ℕ, zero, suc, ◌+◌, ◌/◌, ◌^◌, ◌≤◌, ◌<◌}
use mathlib.Core.List.{List, [], ◌∷◌, ◌++◌, map}
use mathlib.Core.Bool.{Bool, true, false}
use mathlib.Core.Path.{◌≡◌, refl, sym, ap, subst, ◌∙◌}
use native.Mathlib.Omega.{arith}
use lib.Dec.{eqb, ltb, leb}
use borrow.Author.Tests.{lt-ltb, le-ltb, ltb-true, ltb-false, leb-false, eq-eqb, ne_eqb}
use lib.ListN.{length, get_or, take, drop, replicate, drop_of_length-le, length-map, get_or-map, get_or-eq_default}
use lib.Seq.{drop-cons, get_or-take}
use Rattle.rows.specs.Row.{pick, broken}
use Rattle.rows.specs.Walk.{Outcome, done, refused, and_then, write_bare, total, there, exceeds, first_past, rank_past}
use Rattle.rows.specs.declared.When.TheVariants.{Bit, Above}
use Rattle.rows.specs.declared.Rule.TheVariants.{Tariff}
use Rattle.rows.specs.Table.BestContracts.{contract_list}
use Rattle.rows.proofs.Sound.{Sound, fields_on, verdict, read_sound, sound_written, total_behind, past_behind}
use Rattle.rows.proofs.RoundTrip.{bare_read, bare_slots}
use Rattle.bits.specs.Bits.{odd, spread}
use Rattle.records.proofs.Inverse.{from_all}
use Rattle.lists.specs.List.{entry_of, entry_at, numbers_of, got_list, outside, list_fault, list_read, list_written}
use Rattle.lists.specs.Listing.{column, obeying, write_list}
use Rattle.lists.specs.Rules.{fault_after}
use Rattle.records.specs.Answer.{refusal, refusal_at, written}
use Rattle.lists.specs.Entries.{counted, listing, without, entries_fields, list_fields, list_bits, overfull}
use Rattle.lists.specs.declared.list.Entry.{Entry}
use Rattle.lists.specs.declared.list.ContractList.{ContractList}
use Rattle.lists.proofs.list.Laws.{Fair, fairly_right}
use Rattle.lists.proofs.Entries.{named_get, length_counted, counted_filled}
use Rattle.lists.proofs.Recoding.{slots_list}
use Rattle.lists.proofs.Judging.{take-map}
use Rattle.lists.proofs.Kept.{Full, Apart, full_at, fault_none, list_was_read, list_kept}

-- The numbers of an entry fit their boxes and break no rule, as entry k of so many.
pub record EntrySound (count k : ℕ) (e : Entry) : Type 0 where
  pub bitmap : exceeds (there (Above count k) (3 ∷ [])) (e.bitmap ∷ []) ≡ false
  pub network : exceeds (there (Bit e.bitmap 0) (24 ∷ [])) (e.network ∷ []) ≡ false
  pub tariff : exceeds (there (Bit e.bitmap 1) (4 ∷ 8 ∷ 4 ∷ [])) (e.key ∷ e.kind ∷ e.priority ∷ []) ≡ false
  pub rule : broken Tariff (e.key ∷ e.kind ∷ e.priority ∷ []) ≡ 0
  pub pointer : exceeds (there (Bit e.bitmap 2) (5 ∷ [])) (e.pointer ∷ []) ≡ false

-- A list is sound where its entries are,
entries_sound : (n : ℕ) (l : ContractList) → Sound (contract_list n) [] (numbers_of l) → (k : ℕ) → k < 8 → EntrySound l.count k (entry_at l k)
unfolding contract_list
entries_sound n l (c1, c2, (b0, b0', (w0, w0', (t0, t0', (p0, p0', (b1, b1', (w1, w1', (t1, t1', (p1, p1', (b2, b2', (w2, w2', (t2, t2', (p2, p2', (b3, b3', (w3, w3', (t3, t3', (p3, p3', (b4, b4', (w4, w4', (t4, t4', (p4, p4', (b5, b5', (w5, w5', (t5, t5', (p5, p5', (b6, b6', (w6, w6', (t6, t6', (p6, p6', (b7, b7', (w7, w7', (t7, t7', (p7, p7', last))))))))))))))))))))))))))))))))) = at
  where
    at : (k : ℕ) → k < 8 → EntrySound l.count k (entry_at l k)
    at zero h = record { bitmap = b0; network = w0; tariff = t0; rule = t0'; pointer = p0 }
    at (suc zero) h = record { bitmap = b1; network = w1; tariff = t1; rule = t1'; pointer = p1 }
    at (suc (suc zero)) h = record { bitmap = b2; network = w2; tariff = t2; rule = t2'; pointer = p2 }
    at (suc (suc (suc zero))) h = record { bitmap = b3; network = w3; tariff = t3; rule = t3'; pointer = p3 }
    at (suc (suc (suc (suc zero)))) h = record { bitmap = b4; network = w4; tariff = t4; rule = t4'; pointer = p4 }
    at (suc (suc (suc (suc (suc zero))))) h = record { bitmap = b5; network = w5; tariff = t5; rule = t5'; pointer = p5 }
    at (suc (suc (suc (suc (suc (suc zero)))))) h = record { bitmap = b6; network = w6; tariff = t6; rule = t6'; pointer = p6 }
    at (suc (suc (suc (suc (suc (suc (suc zero))))))) h = record { bitmap = b7; network = w7; tariff = t7; rule = t7'; pointer = p7 }
    at (suc (suc (suc (suc (suc (suc (suc (suc k)))))))) h = absurd (omega arith)

-- and its count fits.
sound_list : (n : ℕ) (l : ContractList) → exceeds (4 ∷ []) (l.count ∷ []) ≡ false → ◌≡◌ {A = ℕ} (pick (ltb n l.count) 4 0) 0
    → ((k : ℕ) → k < 8 → EntrySound l.count k (entry_at l k)) → Sound (contract_list n) [] (numbers_of l)
unfolding contract_list
sound_list n l fits most each =
    let s0 = each 0 (omega arith) in
    let s1 = each 1 (omega arith) in
    let s2 = each 2 (omega arith) in
    let s3 = each 3 (omega arith) in
    let s4 = each 4 (omega arith) in
    let s5 = each 5 (omega arith) in
    let s6 = each 6 (omega arith) in
    let s7 = each 7 (omega arith) in
    (fits, most, (s0.bitmap, refl, (s0.network, refl, (s0.tariff, s0.rule, (s0.pointer, refl, (s1.bitmap, refl, (s1.network, refl, (s1.tariff, s1.rule, (s1.pointer, refl, (s2.bitmap, refl, (s2.network, refl, (s2.tariff, s2.rule, (s2.pointer, refl, (s3.bitmap, refl, (s3.network, refl, (s3.tariff, s3.rule, (s3.pointer, refl, (s4.bitmap, refl, (s4.network, refl, (s4.tariff, s4.rule, (s4.pointer, refl, (s5.bitmap, refl, (s5.network, refl, (s5.tariff, s5.rule, (s5.pointer, refl, (s6.bitmap, refl, (s6.network, refl, (s6.tariff, s6.rule, (s6.pointer, refl, (s7.bitmap, refl, (s7.network, refl, (s7.tariff, s7.rule, (s7.pointer, refl, tt)))))))))))))))))))))))))))))))))

-- An entry that a list may count: its numbers fit and break no rule, and it has every element but the network.
pub record Good (e : Entry) : Type 0 where
  pub bitmap : exceeds (3 ∷ []) (e.bitmap ∷ []) ≡ false
  pub network : exceeds (there (Bit e.bitmap 0) (24 ∷ [])) (e.network ∷ []) ≡ false
  pub tariff : exceeds (there (Bit e.bitmap 1) (4 ∷ 8 ∷ 4 ∷ [])) (e.key ∷ e.kind ∷ e.priority ∷ []) ≡ false
  pub rule : broken Tariff (e.key ∷ e.kind ∷ e.priority ∷ []) ≡ 0
  pub pointer : exceeds (there (Bit e.bitmap 2) (5 ∷ [])) (e.pointer ∷ []) ≡ false
  pub full : e.bitmap / 2 ≡ 3

good_sound : (count k : ℕ) (e : Entry) → k < count → Good e → EntrySound count k e
good_sound count k e h g =
    record { bitmap = rw (lt-ltb k count h) g.bitmap; network = g.network; tariff = g.tariff; rule = g.rule; pointer = g.pointer }

sound_good : (count k : ℕ) (e : Entry) → k < count → EntrySound count k e → e.bitmap / 2 ≡ 3 → Good e
sound_good count k e h s full =
    record { bitmap = rw (lt-ltb k count h) at s.bitmap; network = s.network; tariff = s.tariff; rule = s.rule; pointer = s.pointer; full = full }

none_sound : (count k : ℕ) → count ≤ k → EntrySound count k (entry_of [] 0)
none_sound count k h = record { bitmap = rw (le-ltb k count h); network = refl; tariff = refl; rule = refl; pointer = refl }

abbrev pub AllGood : List Entry → Type 0
AllGood [] = Unit {0}
AllGood (e ∷ es) = Good e × AllGood es

good_at : (es : List Entry) (k : ℕ) (d : Entry) → AllGood es → k < length es → Good (get_or es k d)
good_at [] k d g h = absurd (omega arith)
good_at (e ∷ es) zero d g h = g.0
good_at (e ∷ es) (suc k) d g h = good_at es k d g.1 (omega arith)

at_good : (es : List Entry) (d : Entry) → ((k : ℕ) → k < length es → Good (get_or es k d)) → AllGood es
at_good [] d g = tt
at_good (e ∷ es) d g = (g 0 (omega arith), at_good es d (λ k h. g (suc k) (omega arith)))

pub good_without : (p : ℕ) (es : List Entry) → AllGood es → AllGood (without p es)
good_without p [] g = tt
good_without p (e ∷ es) g = go (eqb e.pointer p) (good_without p es g.1)
  where
    go : (t : Bool) → AllGood (without p es) → AllGood (pick t (without p es) (e ∷ without p es))
    go true rest = rest
    go false rest = (g.0, rest)

pub good_append : (es : List Entry) (e : Entry) → AllGood es → Good e → AllGood (es ++ (e ∷ []))
good_append [] e g own = (own, tt)
good_append (x ∷ es) e g own = (g.0, good_append es e g.1 own)

-- The entries of a list that was read are good.
pub read_good : (n c : ℕ) (bytes : List ℕ) (l : ContractList) → list_read n c bytes ≡ got_list l → AllGood (counted l)
read_good n c bytes l h =
    let w = list_was_read n c bytes l h in
    let kept = list_kept n c bytes l h in
    let all : numbers_of l ≡ w.vals = sym (ap numbers_of w.value) ∙ from_all 49 w.vals (bare_slots (contract_list n) (spread 8 bytes) w.slots ∙ slots_list n) in
    let sound : Sound (contract_list n) [] (numbers_of l) =
    subst (λ (vals : List ℕ). Sound (contract_list n) [] vals) (sym all) (read_sound (contract_list n) (spread 8 bytes) (bare_read (contract_list n) (spread 8 bytes) w.slots)) in
    at_good (counted l) (entry_of [] 0)
    (λ k h.
    let long = length_counted l kept.eight in
    let inside : k < l.count = omega arith in
    let own : get_or (counted l) k (entry_of [] 0) ≡ entry_at l k = get_or-take l.count l.entries k (entry_of [] 0) inside in
    let many : k < length (map (λ (e : Entry). e.bitmap) (counted l)) = rw (length-map (counted l) (λ (e : Entry). e.bitmap)) h in
    let full = full_at 3 (map (λ (e : Entry). e.bitmap) (counted l)) k kept.full many in
    let mine : get_or (map (λ (e : Entry). e.bitmap) (counted l)) k 0 ≡ (entry_at l k).bitmap =
    get_or-map (λ (e : Entry). e.bitmap) (counted l) k (entry_of [] 0) ∙ ap (λ (e : Entry). e.bitmap) own in
    rw own (sound_good l.count k (entry_at l k) inside (entries_sound n l sound k (omega arith)) (rw mine at full)))

full_map : (es : List Entry) → AllGood es → Full 3 (map (λ (e : Entry). e.bitmap) es)
full_map [] g = tt
full_map (e ∷ es) g = (g.0.full, full_map es g.1)

-- The fields of an entry, counted or not, as the table has them, and others behind.
abbrev ahead : Bool → ℕ → List ℕ → List ℕ
ahead there bitmap rest = pick there 3 0 ∷ pick (odd (bitmap / 1)) 24 0 ∷ pick (odd (bitmap / 2)) 16 0 ∷ pick (odd (bitmap / 4)) 5 0 ∷ rest

-- Those of m entries from k on.
abbrev fields_from : List Entry → ℕ → ℕ → List ℕ
fields_from es k zero = []
fields_from es k (suc m) = ahead (ltb k (length es)) (get_or es k (entry_of [] 0)).bitmap (fields_from es (suc k) m)

-- Fields, and some of no bits behind them.
abbrev Padded : List ℕ → List ℕ → Type 0
Padded all ws = (z : ℕ) × (all ≡ ws ++ replicate z 0)

own_fields : (es : List Entry) (k m : ℕ) → AllGood es → length es ≤ k + m → Padded (fields_from es k m) (entries_fields (drop k es))
own_fields es k zero good h = let past : length es ≤ k = omega arith in (0, rw (drop_of_length-le es past))
own_fields es k (suc m) good h = go (ltb k (length es)) refl (own_fields es (suc k) m good (omega arith))
  where
    none : Entry
    none = entry_of [] 0

    bitmap : ℕ
    bitmap = (get_or es k none).bitmap

    go : (t : Bool) → ltb k (length es) ≡ t → Padded (fields_from es (suc k) m) (entries_fields (drop (suc k) es))
        → Padded (ahead t bitmap (fields_from es (suc k) m)) (entries_fields (drop k es))
    go true e (z, rest) =
        let here : k < length es = ltb-true _ _ e in
        let full = (good_at es k none good here).full in
        let all : bitmap / 1 ≡ bitmap = omega arith in
        let last : bitmap / 4 ≡ 1 = omega arith in
        (z, rw (drop-cons es k none here, all, full, last, rest))
    go false e (z, rest) =
        let past : length es ≤ k = ltb-false _ _ e in
        let past' : length es ≤ suc k = omega arith in
        let zero : bitmap ≡ 0 = ap (λ (x : Entry). x.bitmap) (get_or-eq_default es none past) in
        (suc (suc (suc (suc z))), rw (zero, drop_of_length-le es past, rest, drop_of_length-le es past'))

-- The fields of a list of good entries are those of its table, up to the entries that are not counted.
table_fields : (n c : ℕ) (es : List Entry) → AllGood es → length es ≤ 8 → Padded (fields_on (contract_list n) [] (numbers_of (listing c es))) (list_fields es)
unfolding contract_list
table_fields n c es good few =
    let (z, rest) = own_fields es 0 8 good (omega arith) in
    (z, ap (λ (ws : List ℕ). 4 ∷ ws) rest)

-- So they end past a record where those do, and at the same field.
same_past : {B : Type 0} (answer : ℕ → ℕ → ℕ → B) (all ws : List ℕ) → Padded all ws
    → pick (leb (total all) 232) (answer 0 0 0) (answer 2 (first_past 232 all 0) (rank_past 232 all 0 0))
    ≡ pick (leb (total ws) 232) (answer 0 0 0) (answer 2 (first_past 232 ws 0) (rank_past 232 ws 0 0))
same_past answer all ws (z, same) = rw (same, total_behind ws z) (go (leb (total ws) 232) refl)
  where
    go : (b : Bool) → leb (total ws) 232 ≡ b
        → pick b (answer 0 0 0) (answer 2 (first_past 232 (ws ++ replicate z 0) 0) (rank_past 232 (ws ++ replicate z 0) 0 0))
        ≡ pick b (answer 0 0 0) (answer 2 (first_past 232 ws 0) (rank_past 232 ws 0 0))
    go true e = refl
    go false e =
        let past : 232 < total ws = leb-false _ _ e in
        let behind = past_behind 232 ws z 0 0 (omega arith) (omega arith) in
        rw (behind.0, behind.1)

module _ (n c : ℕ) (es : List Entry) (good : AllGood es) (apart : Apart n [] (map (λ (e : Entry). e.pointer) es)) (few : length es ≤ n) (most : n ≤ 8) where
  -- A list of good entries with pointers of their own keeps the rule,
  keeps_rule : list_fault n (numbers_of (listing c es)) ≡ 0
  keeps_rule =
      let same = counted_filled es (omega arith) in
      let bitmaps : take (length es) (column 8 6 1 (numbers_of (listing c es))) ≡ map (λ (e : Entry). e.bitmap) es =
      take-map (λ (e : Entry). e.bitmap) (length es) (listing c es).entries ∙ ap (map (λ (e : Entry). e.bitmap)) same in
      let pointers : take (length es) (column 8 6 6 (numbers_of (listing c es))) ≡ map (λ (e : Entry). e.pointer) es =
      take-map (λ (e : Entry). e.pointer) (length es) (listing c es).entries ∙ ap (map (λ (e : Entry). e.pointer)) same in
      ap (λ (l : List ℕ). fault_after 3 n [] l (take (length es) (column 8 6 6 (numbers_of (listing c es))))) bitmaps
      ∙ ap (λ (l : List ℕ). fault_after 3 n [] (map (λ (e : Entry). e.bitmap) es) l) pointers
      ∙ fault_none 3 n [] (map (λ (e : Entry). e.bitmap) es) (map (λ (e : Entry). e.pointer) es) (full_map es good) apart

  -- is sound,
  is_sound : Sound (contract_list n) [] (numbers_of (listing c es))
  is_sound =
      let low : length es < 2 ^ 4 = omega arith in
      sound_list n (listing c es) (rw (lt-ltb _ _ low)) (rw (le-ltb n (length es) few)) each
    where
      at : (k : ℕ) (t : Bool) → ltb k (length es) ≡ t → EntrySound (length es) k (get_or es k (entry_of [] 0))
      at k true e = let h : k < length es = ltb-true _ _ e in good_sound (length es) k _ h (good_at es k (entry_of [] 0) good h)
      at k false e =
          let h : length es ≤ k = ltb-false _ _ e in
          rw (get_or-eq_default es (entry_of [] 0) h) (none_sound (length es) k h)

      each : (k : ℕ) → k < 8 → EntrySound (length es) k (entry_at (listing c es) k)
      each k h = let same : 0 + k ≡ k = omega arith in rw (named_get (entry_of [] 0) 0 8 k es h, same) (at k (ltb k (length es)) refl)

  -- and so is written where its bits are within the record, and else refused with 2, at the first field that ends past it.
  pub written_or_two : (before : List ℕ) → length before ≡ 29 → outside n c ≡ false
      → (list_written n c (listing c es) before).answer ≡ pick (leb (list_bits es) 232) (refusal 0 0) (overfull es)
  unfolding write_list
  written_or_two before long inside =
      let sound = sound_written refusal_at (contract_list n) 232 (numbers_of (listing c es)) is_sound in
      let even : Fair c (listing c es) = rw (counted_filled es (omega arith)) in
      let plain : list_written n c (listing c es) before ≡ write_list (list_fault n) (outside n c) (contract_list n) (numbers_of (listing c es)) before =
      fairly_right c (listing c es) before _ even in
      rw (plain, eq-eqb _ _ long, inside, keeps_rule)
      (go (write_bare (contract_list n) 232 (numbers_of (listing c es))) ∙ sound ∙ same_past refusal_at _ (list_fields es) (table_fields n c es good (omega arith)))
    where
      go : (o : Outcome (List Bool)) → (written before (and_then o (λ bs end. obeying 0 bs end))).answer ≡ verdict refusal_at o
      go (done bs end) = refl
      go (refused m p j) = refl

-- An entry made of numbers in their limits is good, with a network or without.
pub made_good : (has : Bool) (network key kind priority pointer : ℕ) → pick has (ltb network (2 ^ 24)) (eqb network 0) ≡ true
    → key ≤ 15 → kind ≤ 255 → priority ≤ 15 → (priority ≡ 13 → ⊥) → pointer ≤ 8
    → Good (record { bitmap = pick has 7 6; network = pick has network 0; key = key; kind = kind; priority = priority; pointer = pointer })
made_good has network key kind priority pointer wide k d q other p = go has wide
  where
    keys : key < 2 ^ 4
    keys = omega arith

    kinds : kind < 2 ^ 8
    kinds = omega arith

    priorities : priority < 2 ^ 4
    priorities = omega arith

    pointers : pointer < 2 ^ 5
    pointers = omega arith

    tariff : exceeds (4 ∷ 8 ∷ 4 ∷ []) (key ∷ kind ∷ priority ∷ []) ≡ false
    tariff = rw (lt-ltb _ _ keys, lt-ltb _ _ kinds, lt-ltb _ _ priorities)

    rule : broken Tariff (key ∷ kind ∷ priority ∷ []) ≡ 0
    rule = rw (ne_eqb _ _ other)

    place : exceeds (5 ∷ []) (pointer ∷ []) ≡ false
    place = rw (lt-ltb _ _ pointers)

    go : (t : Bool) → pick t (ltb network (2 ^ 24)) (eqb network 0) ≡ true
        → Good (record { bitmap = pick t 7 6; network = pick t network 0; key = key; kind = kind; priority = priority; pointer = pointer })
    go true w = record { bitmap = refl; network = rw w; tariff = tariff; rule = rule; pointer = place; full = refl }
    go false w = record { bitmap = refl; network = refl; tariff = tariff; rule = rule; pointer = place; full = refl }
