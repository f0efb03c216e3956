-- The loop of the contract list's reader: an entry more of the table's line, and the line of the whole table.
use Prim.Native.Nat.{ℕ, zero, suc, ◌+◌, ◌-◌, ◌*◌, ◌/◌, ◌%◌, ◌^◌, ◌≤◌, ◌<◌}
use mathlib.Core.List.{List, [], ◌∷◌, ◌++◌, append-nil, append_assoc}
use mathlib.Core.Bool.{Bool, true, false, not, ◌&&◌}
use mathlib.Core.Path.{◌≡◌, refl, sym, ap, ◌∙◌}
use native.Mathlib.Omega.{arith}
use native.Mathlib.Numerals.{add-one}
use lib.Dec.{eqb, ltb, leb}
use lib.ListN.{length, get_or, set, take, drop, replicate, length-append, length-set, take-append-drop, get_or-append}
use lib.Seq.{get_or_at, length-take-le, take-suc-set, drop-set-lt, drop-drop}
use lib.Pow as pow
use borrow.Author.Tests.{eq-eqb, ne_eqb, le-ltb, ltb-false, eqb-true, leb-true}
use Rattle.bits.specs.Bits.{bit, number, cut, spread}
use Rattle.bits.specs.Inner.Words.{number_at}
use Rattle.bits.proofs.Cutting.{length-spread}
use Rattle.rows.specs.Row.{Row, always, box_most, pick}
use Rattle.rows.specs.Walk.{done, refused, and_then, field, exceeds}
use Rattle.rows.specs.Inner.Step.{passes, admitted, resume, Ready, Took, Ended}
use Rattle.rows.proofs.Stepping.{clear}
use Rattle.rows.specs.Inner.Line.{start, Takes, taken, ◌▸◌, Taken}
use Rattle.rows.specs.Table.BestContracts.{entry, contract_list}
use Rattle.rows.specs.Inner.Standing.{Standing}
use Rattle.rows.specs.declared.When.TheVariants.{Always, Bit}
use Rattle.rows.specs.declared.Rule.TheVariants.{Any, Most, Tariff}
use Rattle.rows.proofs.Taking.{took_box_held, took_tariff_held, held_part, ended_refused}
use Rattle.rows.proofs.Margins.{both}
use Rattle.rows.proofs.Running.{takes_append, stopped, Skips, skips_none, skips_more, skips_ended}
use Rattle.rows.proofs.Stepping.{count_twice}
use Rattle.rows.proofs.Tables.{list_rows}
use Rattle.records.specs.Inner.Met.{met}
use Rattle.records.proofs.Inverse.{named_all}
use Rattle.records.proofs.Answering.{all_words}
use Rattle.lists.specs.List.{entry_numbers, entry_of, numbers_of, list_of, outside, list_fault, got_list, no_tally, no_list, list_read}
use Rattle.lists.specs.Tally.{used_up, tally_of}
use Rattle.lists.specs.Inner.Steps.{obeyed, EntryTook, RestTook}
use Rattle.lists.specs.Inner.Judging.{Judges, spent_of}
use Rattle.lists.specs.declared.list.Entry.{Entry}
use Rattle.lists.specs.declared.list.ContractList.{ContractList}
use Rattle.lists.specs.declared.rules.Judged.{Judged}
use Rattle.lists.specs.declared.tally.Spent.{Spent}
use Rattle.lists.specs.declared.tally.Tally.{Tally}
use Rattle.lists.proofs.Rowing.{rows_from, rows_split, rows_more, flat, flat_append, seen_long, seen_more}
use Rattle.lists.proofs.Judging.{Turned, judges_none, judges_more}
use Rattle.lists.proofs.Tallying.{tally_counted, spent_few, spent_below, spent_more}
use Rattle.lists.proofs.Kept.{inside_limits}
use Rattle.lists.proofs.list.Laws.{bitmaps, pointers, fault_list, list_of_numbers}
use Rattle.lists.proofs.Listing.{obeyed_none, list_read_law, list_refused}

pub numbers_flat : (l : ContractList) → length l.entries ≡ 8 → numbers_of l ≡ l.count ∷ flat entry_numbers l.entries
numbers_flat l eight = ap (λ (es : List Entry). l.count ∷ flat entry_numbers es) (named_all (entry_of [] 0) 8 l.entries eight)

-- An entry that is not counted has zeros.
abbrev none : Entry
none = entry_of [] 0

skip_entry : {words : List ℕ} (k count : ℕ) (seen : List ℕ) → length seen ≡ 1 + 6 * k → get_or seen 0 0 ≡ count → count ≤ k
    → {rs : List Row} {all : List ℕ} (c : Standing) → Ready words 232 c → c.why ≡ 0
    → ((d : Standing) → Ready words 232 d → d.why ≡ 0 → Skips words 232 rs (seen ++ entry_numbers none) d all)
    → Skips words 232 (entry k ++ rs) seen c all
skip_entry k count seen long counted past c ready clear rest =
    let marks : (some : List ℕ) → get_or (seen ++ (0 ∷ some)) (1 + 6 * k) 0 ≡ 0 = λ some. get_or_at seen 0 some 0 (1 + 6 * k) long in
    skips_more ready clear (rw counted (le-ltb k count past))
    (λ d on ok. skips_more on ok (rw (marks []))
    (λ d on ok. rw append_assoc (skips_more on ok (rw (marks (0 ∷ [])))
    (λ d on ok. rw append_assoc (skips_more on ok (rw (marks (0 ∷ 0 ∷ 0 ∷ 0 ∷ [])))
    (λ d on ok. rw append_assoc (rest d on ok)))))))

skip_entries : {words : List ℕ} (m k count : ℕ) (seen : List ℕ) → length seen ≡ 1 + 6 * k → get_or seen 0 0 ≡ count → count ≤ k
    → (c : Standing) → Ready words 232 c → c.why ≡ 0
    → Skips words 232 (rows_from entry k m) seen c (seen ++ flat entry_numbers (replicate m none))
skip_entries zero k count seen long counted past c ready clear = rw append-nil (skips_none ready clear seen)
skip_entries (suc m) k count seen long counted past c ready clear =
    let front : get_or (seen ++ entry_numbers none) 0 0 ≡ count = get_or-append seen (entry_numbers none) 0 0 (omega arith) ∙ counted in
    skip_entry k count seen long counted past c ready clear
    (λ d on ok. rw (append_assoc seen (entry_numbers none) (flat entry_numbers (replicate m none))) at
    (skip_entries m (suc k) count (seen ++ entry_numbers none) (rw (length-append seen (entry_numbers none)) (omega arith)) front (omega arith) d on ok))

-- A number that was taken is at most its most.
most_read : (wide past over : Bool) (v x end at e i : ℕ)
    → and_then (pick (eqb (pick wide 7 (pick past 2 (pick over 4 0))) 0) (done (v ∷ []) end) (refused (pick wide 7 (pick past 2 (pick over 4 0))) at i)) (λ vs e. done vs e)
    ≡ done (x ∷ []) e
    → (x ≡ v) × (over ≡ false)
most_read true past over v x end at e i h = let z : ◌≡◌ {A = ℕ} 0 1 = cc in absurd (omega arith)
most_read false true over v x end at e i h = let z : ◌≡◌ {A = ℕ} 0 1 = cc in absurd (omega arith)
most_read false false true v x end at e i h = let z : ◌≡◌ {A = ℕ} 0 1 = cc in absurd (omega arith)
most_read false false false v x end at e i h = (cc, refl)

pub took_most : (words : List ℕ) (end : ℕ) (c d : Standing) (w m : ℕ) (bs : List Bool)
    → length bs ≡ end
    → words ≡ cut 32 64 (length words) bs
    → c.why ≡ 0
    → suc c.field < 2 ^ 32
    → d.why ≡ 0
    → Took words end c Always (w ∷ []) (Most m) (d.number ∷ []) d
    → d.number ≤ m
unfolding resume field
took_most words end c d w m bs long cuts clear few ok took =
    let step = rw (eq-eqb _ _ clear, eq-eqb _ _ ok) at (took.step bs long cuts always [] [] refl few) in
    let v : ℕ = number (take w (drop c.at bs)) in
    let most = most_read (exceeds (w ∷ []) (v ∷ [])) (ltb end (c.at + (w + 0))) (ltb m v) v d.number (c.at + (w + 0)) c.at d.at c.field step in
    let small : v ≤ m = ltb-false m v most.1 in
    let same : d.number ≡ v = most.0 in
    omega arith

-- An entry's tariff and pointer, read as one number where both are there and in their room.
admitted_there : (c : Standing) (w : ℕ) → c.why ≡ 0 → c.at + w ≤ 232 → passes c 1 w 0 ≡ admitted c 232 w false 0 0
admitted_there c w clear room = rw (eq-eqb _ _ clear, le-ltb _ _ room)

pub test_all : (marks why at : ℕ) {b : Bool} → b ≡ not (eqb why 0) → (eqb (marks / 2) 3 && not b) && leb at 211 ≡ true → (marks / 2 ≡ 3) × (why ≡ 0) × (at ≤ 211)
test_all marks why at {b} e h =
    let (first, room) = both _ _ h in
    let (there, none) = both _ _ first in
    (eqb-true _ _ there, clear e (go b none), leb-true _ _ room)
  where
    go : (q : Bool) → not q ≡ true → q ≡ false
    go false h = refl
    go true h = cc

pub rest_took : (words : List ℕ) (c : Standing) (marks v : ℕ)
    → Ready words 232 c
    → marks / 2 ≡ 3
    → c.why ≡ 0
    → c.at ≤ 211
    → v ≡ number_at words c.at 21
    → (v / 32 % 16 ≡ 13 → ⊥)
    → RestTook words c marks (v / 32 / 4096 % 16 ∷ v / 32 / 16 % 256 ∷ v / 32 % 16 ∷ []) (v % 32)
    (passes c 2 21 0)
rest_took words c marks v ready full clear room reads defined =
    let u : ℕ = v / 32 % 65536 in
    let between : Standing = passes c 1 16 0 in
    let here : c.at + 0 ≡ c.at = omega arith in
    let behind : c.at + 21 ≡ c.at + 16 + 5 = omega arith in
    let own : v / 1 % 32 ≡ v % 32 = omega arith in
    let key : u / 4096 ≡ v / 32 / 4096 % 16 = pow.field (v / 32) 4 12 in
    let kind : u / 16 % 256 ≡ v / 32 / 16 % 256 = ap (λ (x : ℕ). x % 256) (pow.field (v / 32) 12 4) ∙ pow.mod-mod-pow (v / 32 / 16) 4 8 in
    let priority : u % 16 ≡ v / 32 % 16 = pow.mod-mod-pow (v / 32) 12 4 in
    let tariff : Took words 232 c (Bit marks 1) (4 ∷ 8 ∷ 4 ∷ []) Tariff (u / 4096 ∷ u / 16 % 256 ∷ u % 16 ∷ []) between =
    took_tariff_held words 232 c (Bit marks 1) u 0 0 between ready (eq-eqb (marks / 2 % 2) 1 (omega arith))
    (λ bs long cuts. rw here at (held_part words 232 c 21 v 0 16 5 bs ready (omega arith) refl reads long cuts (omega arith)))
    (rw (ne_eqb (u % 16) 13 (λ e. defined (sym priority ∙ e))))
    (admitted_there c 16 clear (omega arith)) in
    record {
      between = between;
      tariff = rw (key, kind, priority) at tariff;
      pointer =
          took_box_held words 232 between (Bit marks 2) 5 Any (v % 32) 0 0 _
          (record { within = omega arith; covered = ready.covered })
          (eq-eqb (marks / 4 % 2) 1 (omega arith))
          (λ bs long cuts. sym own ∙ held_part words 232 c 21 v 16 5 0 bs ready (omega arith) refl reads long cuts (omega arith))
          refl
          (rw (behind, count_twice c.field) (admitted_there between 5 refl (omega arith)));
    }

-- The whole table: the count's row, some entries' and the others'.
whole_rows : (n k : ℕ) → k ≤ 8 → contract_list n ≡ (box_most n 4 always ∷ rows_from entry 0 k) ++ rows_from entry k (8 - k)
unfolding contract_list
whole_rows n k few =
    let all : k + (8 - k) ≡ 8 = omega arith in
    let here : 0 + k ≡ k = omega arith in
    ap (λ (rs : List Row). box_most n 4 always ∷ rs) (rw (all, here) at (rows_split entry 0 k (8 - k)))

module _ (bytes : List ℕ) (n counters : ℕ) (words : List ℕ)
    (whole : length bytes ≡ 29)
    (inside : outside n counters ≡ false)
    (cuts : words ≡ cut 32 64 8 (spread 8 bytes)) where
  -- A refusal at the count or in an entry is the answer.
  pub line_refused : (k : ℕ) (all : List ℕ) (d : Standing) → k ≤ 8
      → Takes words 232 (box_most n 4 always ∷ rows_from entry 0 k) [] start all d
      → Ready words 232 d
      → (d.why ≡ 0 → ⊥)
      → no_list (met d) ≡ list_read n counters bytes
  line_refused k all d few line ready why =
      let taken : Taken words 232 (contract_list n) [] start all d =
      record { takes = rw (whole_rows n k few) (takes_append line (stopped ready why (rows_from entry k (8 - k)) all)); ready = ready } in
      list_refused (λ vals. got_list (list_of counters vals)) no_list (list_fault n) (outside n counters) (contract_list n) bytes words all d d d (omega (arith, list_rows n)) whole inside cuts taken
      (ended_refused words 232 d why)
      (rw (ne_eqb _ _ why))
      why

-- What the reader's loop has come to before entry k: the entries so far taken, judged and counted, the others as at the start.
pub record Sofar (bytes : List ℕ) (n counters : ℕ) (words : List ℕ) (count : ℕ) (l : ContractList) (j : Judged) (s : Spent) (c : Standing) (k : ℕ) : Type 0 where
  pub whole : length bytes ≡ 29
  pub inside : outside n counters ≡ false
  pub cuts : words ≡ cut 32 64 8 (spread 8 bytes)
  pub few : count ≤ 8
  pub upto : k ≤ count
  pub counts : l.count ≡ count
  pub eight : length l.entries ≡ 8
  pub clear : c.why ≡ 0
  pub ready : Ready words 232 c
  pub takes : Takes words 232 (box_most n 4 always ∷ rows_from entry 0 k) [] start (count ∷ flat entry_numbers (take k l.entries)) c
  pub others : drop k l.entries ≡ replicate (8 - k) none
  pub spends : s ≡ spent_of counters (take k l.entries)
  pub judges : Judges 3 n (bitmaps (take k l.entries)) (pointers (take k l.entries)) j

pub sofar_start : (bytes : List ℕ) (n counters : ℕ) (words : List ℕ) (head : Standing)
    → length bytes ≡ 29
    → outside n counters ≡ false
    → words ≡ cut 32 64 8 (spread 8 bytes)
    → Took words 232 start Always (4 ∷ []) (Most n) (head.number ∷ []) head
    → head.why ≡ 0
    → Sofar bytes n counters words head.number (record { count = head.number; entries = replicate 8 none; tally = no_tally }) (record { used = 0; fault = 0 }) (record { all = 0; counter = 0 }) head 0
sofar_start bytes n counters words head whole inside cuts took clear =
    let long : length (spread 8 bytes) ≡ 232 = rw (length-spread 8 bytes, whole) in
    let most : head.number ≤ n =
    took_most words 232 start head 4 n (spread 8 bytes) long (all_words bytes words cuts) refl (omega arith) clear took in
    let limit : n ≤ 8 = (inside_limits n counters inside).0.1 in
    record {
      whole = whole;
      inside = inside;
      cuts = cuts;
      few = omega arith;
      upto = omega arith;
      counts = refl;
      eight = refl;
      clear = clear;
      ready = took.ready;
      takes = took ▸ taken;
      others = refl;
      spends = refl;
      judges = judges_none 3 n;
    }

module _ {bytes : List ℕ} {n counters : ℕ} {words : List ℕ} {count : ℕ} {l : ContractList} {j : Judged} {s : Spent} {c : Standing} {k : ℕ} (so : Sofar bytes n counters words count l j s c k) where
  few_taken : k ≤ 8
  few_taken = omega (arith, so.few, so.upto)

  own_long : length (count ∷ flat entry_numbers (take k l.entries)) ≡ 1 + 6 * k
  own_long = seen_long entry_numbers 6 (λ e. refl) count l.entries k (rw so.eight few_taken)

  -- An entry more.
  more_taken : (e : Entry) (d : Standing)
      → EntryTook words (entry k) (1 + 6 * k) count c (entry_numbers e) d
      → Takes words 232 (box_most n 4 always ∷ rows_from entry 0 (k + 1)) [] start ((count ∷ flat entry_numbers (take k l.entries)) ++ entry_numbers e) d
  more_taken e d took =
      rw (← rows_more entry k) (takes_append so.takes (took.takes (count ∷ flat entry_numbers (take k l.entries)) own_long refl))

  pub sofar_refused : (e : Entry) (d : Standing)
      → EntryTook words (entry k) (1 + 6 * k) count c (entry_numbers e) d
      → k < count
      → (d.why ≡ 0 → ⊥)
      → no_list (met d) ≡ list_read n counters bytes
  sofar_refused e d took more why =
      line_refused bytes n counters words so.whole so.inside so.cuts (k + 1) _ d (omega (arith, so.few)) (more_taken e d took) took.ready why

  -- What counting an entry more, and making the tally, ask for.
  pub sofar_limit : n ≤ 8
  sofar_limit = (inside_limits n counters so.inside).0.1

  pub sofar_few : k < count → (s.all < 8) × (s.counter < 8)
  sofar_few more =
      let long : length (take k l.entries) ≡ k = length-take-le k l.entries (rw so.eight few_taken) in
      rw so.spends (spent_below counters (take k l.entries) (omega (arith, long, so.few)))

  pub sofar_ready : (counters ≤ 8) × (s.counter ≤ s.all)
  sofar_ready = (omega (arith, inside_limits n counters so.inside), rw so.spends (spent_few counters (take k l.entries)))

  pub sofar_more : (e : Entry) (d : Standing) (i : Judged) (t : Spent)
      → EntryTook words (entry k) (1 + 6 * k) count c (entry_numbers e) d
      → k < count
      → d.why ≡ 0
      → t ≡ record { all = s.all + bit (used_up e); counter = s.counter + bit (leb e.pointer counters && used_up e) }
      → Turned 3 n j (k + 1) e.bitmap e.pointer i
      → Sofar bytes n counters words count (record { count = l.count; entries = set l.entries k e; tally = l.tally }) i t d (k + 1)
  sofar_more e d i t took more clear counted turned =
      let inside : k < length l.entries = omega (arith, so.few, so.eight) in
      let long : length (take k l.entries) ≡ k = length-take-le k l.entries (omega arith) in
      let next : take (k + 1) (set l.entries k e) ≡ take k l.entries ++ (e ∷ []) = rw (add-one k) (take-suc-set l.entries k e inside) in
      let less : 8 - k ≡ suc (8 - (k + 1)) = omega (arith, so.few) in
      let numbers = seen_more entry_numbers count (take k l.entries) (take (k + 1) (set l.entries k e)) e next in
      record {
        whole = so.whole;
        inside = so.inside;
        cuts = so.cuts;
        few = so.few;
        upto = omega arith;
        counts = so.counts;
        eight = length-set l.entries k e ∙ so.eight;
        clear = clear;
        ready = took.ready;
        takes = rw (← numbers) (more_taken e d took);
        others =
            drop-set-lt (k + 1) l.entries k e (omega arith)
            ∙ sym (drop-drop 1 k l.entries)
            ∙ rw (so.others, less);
        spends = counted ∙ rw (so.spends, next) (spent_more counters (take k l.entries) e);
        judges = rw next (judges_more _ _ 3 n (take k l.entries) e (k + 1) (omega arith) so.judges turned);
      }

  -- All of them.
  module _ (last : count ≤ k) where
    seen : List ℕ
    seen = count ∷ flat entry_numbers (take k l.entries)

    skipped : Skips words 232 (rows_from entry k (8 - k)) seen c (seen ++ flat entry_numbers (replicate (8 - k) none))
    unfolding seen
    skipped = skip_entries (8 - k) k count seen own_long refl last c so.ready so.clear

    sofar_taken : Taken words 232 (contract_list n) [] start (numbers_of l) skipped.last
    unfolding seen
    sofar_taken =
        let all : numbers_of l ≡ seen ++ flat entry_numbers (replicate (8 - k) none) =
        numbers_flat l so.eight
        ∙ rw (so.counts, ← so.others)
        (ap (λ (es : List Entry). count ∷ flat entry_numbers es) (sym (take-append-drop k l.entries))
        ∙ ap (λ (ns : List ℕ). count ∷ ns) (flat_append entry_numbers (take k l.entries) (drop k l.entries))) in
        record { takes = rw (whole_rows n k few_taken, all) (takes_append so.takes skipped.takes); ready = skipped.ready }

    sofar_fault : j.fault ≡ list_fault n (numbers_of l)
    sofar_fault =
        let all : k ≡ l.count = omega (arith, so.upto, so.counts) in
        so.judges.fault ∙ rw all (fault_list n l so.eight)

    module _ (e f : Standing) (ended : Ended words 232 c e) (ruled : f ≡ obeyed e j.fault) where
      pub sofar_read : f.why ≡ 0 → (t : Tally)
          → t ≡ record { counter = record { used = j.used % 2 ^ counters; spent = s.counter }; plain = record { used = j.used - j.used % 2 ^ counters; spent = s.all - s.counter } }
          → got_list (record { count = l.count; entries = l.entries; tally = t }) ≡ list_read n counters bytes
      sofar_read ok t made =
          let all : k ≡ l.count = omega (arith, so.upto, so.counts) in
          let clear : j.fault ≡ 0 = obeyed_none e j.fault (rw ruled at ok) in
          let even : t ≡ tally_of counters (take k l.entries) =
          made ∙ rw so.spends (tally_counted counters (take k l.entries) j.used (so.judges.used clear)) in
          ap got_list (sym (list_of_numbers counters (record { count = l.count; entries = l.entries; tally = t }) so.eight (rw all at even)))
          ∙ list_read_law (λ vals. got_list (list_of counters vals)) no_list (list_fault n) (outside n counters) (contract_list n) bytes words (numbers_of l) skipped.last e f
          (omega (arith, list_rows n)) so.whole so.inside so.cuts sofar_taken (skips_ended e skipped so.clear ended) (ruled ∙ rw sofar_fault) ok

      pub sofar_denied : (f.why ≡ 0 → ⊥) → no_list (met f) ≡ list_read n counters bytes
      sofar_denied why =
          list_refused (λ vals. got_list (list_of counters vals)) no_list (list_fault n) (outside n counters) (contract_list n) bytes words (numbers_of l) skipped.last e f
          (omega (arith, list_rows n)) so.whole so.inside so.cuts sofar_taken (skips_ended e skipped so.clear ended) (ruled ∙ rw sofar_fault) why
