-- Samples: what the papers give as examples, one list of statements about the definitions. Document 01, "Samples at the edges" and
-- "Slips that look right"; 02, Q-1, Q-3, Q-4, Q-7 and Q-8; 004 sections 7.2.3, 7.7 and 7.8.
use Rattle.std.specs.Prelude.{ℕ, zero, suc, ◌+◌, ◌-◌, ◌*◌, ◌/◌, ◌%◌, ◌^◌, Bool, true, false, ◌&&◌, List, [], ◌∷◌, ◌++◌, map, ◌≡◌, leb, replicate}
use Rattle.bits.specs.Bits.{bits_of, cut}
use Rattle.rows.specs.Walk.{Outcome, done, refused, read}
use Rattle.rows.specs.Table.Contract.{contract50}
use Rattle.records.specs.Answer.{Written, refusal, refusal_at, accepted, denied}
use Rattle.records.specs.Event.{event_of, event_read, event_written}
use Rattle.records.specs.declared.event.Event.{Event}
use Rattle.records.specs.Event.{EventRead}
use Rattle.std.specs.Prelude.{Ok, Err}
use Rattle.lists.specs.List.{got_list, no_list, list_read, list_written}
use Rattle.lists.specs.Entries.{listing}
use Rattle.lists.specs.Tally.{tally_of}
use Rattle.lists.specs.declared.list.Entry.{Entry}
use Rattle.lists.specs.List.{ListRead}
use Rattle.bip.specs.Value.{bip_read, bip_written}
use Rattle.bip.specs.declared.Extension.{Extension}
use Rattle.bip.specs.declared.Extension.TheVariants.{Nothing, Tag}
use Rattle.bip.specs.declared.BipContract.{BipContract}
use Rattle.bip.specs.Value.{BipRead}
use Rattle.selection.specs.Eligible.{usable, nobody, chosen_at, choose}
use Rattle.selection.specs.Selection.{unselected}
use Rattle.selection.specs.Eligible.{Selection}
use Rattle.loading.specs.Blocking.{moment, blocks}
use Rattle.loading.specs.Place.{place, afterwards}
use Rattle.loading.specs.Loading.{Lent, loaded, loading, Outcome as Left}
use Rattle.loading.specs.declared.Order.{Order}
use Rattle.gate.specs.Writes.{finding}
use Rattle.passage.specs.Passage.{passing, Outcome as Passed}
use Rattle.passage.specs.declared.Passage.{Passage}

-- The last n bytes of a number, in front of some.
abbrev bytes_on : ℕ → ℕ → List ℕ → List ℕ
bytes_on zero x bytes = bytes
bytes_on (suc n) x bytes = bytes_on n (x / 256) (x % 256 ∷ bytes)

-- A record as the papers write it: digits, and so many zero digits behind them.
infix 30 ◌and◌zeros
abbrev pub ◌and◌zeros : ℕ → ℕ → List ℕ
◌and◌zeros digits n = bytes_on 29 (digits * 16 ^ n) []

-- An entry without a network.
abbrev pub entry : ℕ → ℕ → ℕ → ℕ → Entry
entry key kind priority pointer =
    record { bitmap = 6; network = 0; key = key; kind = kind; priority = priority; pointer = pointer }

-- A record that begins with an event's date, minute and bitmap, zeros behind.
abbrev event_bytes : ℕ → ℕ → ℕ → List ℕ
event_bytes date minute bitmap = cut 8 8 29 (bits_of 14 date ++ (bits_of 11 minute ++ bits_of 28 bitmap))

-- An event that names pointer 1, element [25], by its bitmap and its code, element [2].
abbrev naming : ℕ → ℕ → ℕ → ℕ → Event
naming bitmap code date minute = event_of (date ∷ minute ∷ bitmap ∷ 0 ∷ 0 ∷ code ∷ (replicate 22 0 ++ (1 ∷ []))) []

abbrev coded : ℕ → ℕ → ℕ → Event
coded code date minute = naming (2 ^ 25 + 2 ^ 2) code date minute

abbrev codeless : ℕ → ℕ → Event
codeless date minute = naming (2 ^ 25) 0 date minute

-- The record of an event.
abbrev record_of : Event → List ℕ
record_of e = (event_written (replicate 29 0) e).bytes

-- The 32 bytes in which just one code is marked; all; all but one.
abbrev marking : ℕ → List ℕ
marking code = bytes_on 32 (2 ^ (255 - code)) []

abbrev marking_all : List ℕ
marking_all = replicate 32 255

abbrev marking_others : ℕ → List ℕ
marking_others code = bytes_on 32 (2 ^ 256 - 1 - 2 ^ (255 - code)) []

-- The bits of a 50h contract whose head has provider, tariff and status, with a bitmap of groups: all else zeros.
abbrev urban_bits : ℕ → List Bool
urban_bits groups =
    bits_of 7 0b1100011 ++ (bits_of (8 + 16 + 8) 0 ++ (bits_of (14 + 14 + 16 + 2) 0 ++ (bits_of 16 groups ++ bits_of 131 0)))

-- The bits that a reading takes, 0 where it refuses.
abbrev extent : {A : Type 0} → Outcome A → ℕ
extent (done a end) = end
extent (refused n at i) = 0

-- The pointer that the rule names on a card of n records, c of them with counter, where no event blocks any.
abbrev named : ℕ → ℕ → Bool → List Entry → ℕ
named n c counter es = place (λ pointer. false) n c counter es

-- The pointers listed once a contract is there, whatever the rest of its entry.
abbrev listed_after : ℕ → List Entry → List ℕ
listed_after pointer es = map (λ (e : Entry). e.pointer) (afterwards (entry 0 0 0 pointer) es)

pub data Case : Type 0 where
  -- on a card of n records, c of them with counter, the list reads as this
  list_reads : (n c : ℕ) → List ℕ → ListRead → Case
  -- on a card with c counter positions, entries have this tally: pointers in use and entries used up on counter positions, on plain ones
  tallies : (c : ℕ) → List Entry → (used_counter spent_counter used_plain spent_plain : ℕ) → Case
  -- on a card of n records, c of them with counter, entries with the tally that they have for so many counter positions, written
  -- onto these bytes
  list_writes : (n c tallied : ℕ) → List Entry → (before : List ℕ) → Written → Case
  -- loading leaves this
  loads : Order → List ℕ → List ℕ → Lent → Left → Case
  -- on a card of n records, c of them with counter, none blocked, a new contract goes to the pointer, and these are then listed
  places : (n c : ℕ) → (counter : Bool) → List Entry → (pointer : ℕ) → List ℕ → Case
  -- a 50h record with these groups has so many bits
  urban_ends : (groups : ℕ) → (bits : ℕ) → Case
  -- an event with this date, minute and bitmap, zeros behind, reads as this
  event_reads : (date minute bitmap : ℕ) → EventRead → Case
  -- these bytes read as an event
  bytes_read : List ℕ → EventRead → Case
  -- an event of zeros with this margin, written onto these bytes
  margin_written : (margin before : List ℕ) → Written → Case
  -- the write from present to wanted, in a record that was so before
  finds : (present wanted before : List ℕ) → Written → Case
  -- with these codes marked and so many hours, a journal event blocks the pointer that it names, 1, at a day and minute, or not
  blocks_at : (codes : List ℕ) → Event → (hours now_day now_minute : ℕ) → Bool → Case
  -- a passage leaves this
  passes : Passage → (list file journal : List ℕ) → Passed → Case
  -- these bytes read as a BIP contract
  bip_reads : List ℕ → BipRead → Case
  -- a BIP contract, written onto these bytes
  bip_writes : BipContract → (before : List ℕ) → Written → Case
  -- of the entries that a test accepts, this one is chosen
  chooses : (Entry → Bool) → List Entry → Selection → Case

abbrev pub Holds : Case → Type 0
Holds (list_reads n c bytes answer) = list_read n c bytes ≡ answer
Holds (tallies c es a b d e) = tally_of c es ≡ record { counter = record { used = a; spent = b }; plain = record { used = d; spent = e } }
Holds (list_writes n c tallied es before answer) = list_written n c (listing tallied es) before ≡ answer
Holds (loads order list file lent left) = loading order list file lent ≡ left
Holds (places n c counter es pointer listed) = (named n c counter es ≡ pointer) × (listed_after pointer es ≡ listed)
Holds (urban_ends groups bits) = extent (read contract50 (urban_bits groups)) ≡ bits
Holds (event_reads date minute bitmap answer) = event_read (event_bytes date minute bitmap) ≡ answer
Holds (bytes_read bytes answer) = event_read bytes ≡ answer
Holds (margin_written margin before answer) = event_written before (event_of [] margin) ≡ answer
Holds (finds present wanted before answer) = finding present wanted before ≡ answer
Holds (blocks_at codes e hours now_day now_minute answer) = blocks codes (moment now_day now_minute) hours 1 e ≡ answer
Holds (passes p list file journal left) = passing p list file journal ≡ left
Holds (bip_reads bytes answer) = bip_read bytes ≡ answer
Holds (bip_writes b before answer) = bip_written before b ≡ answer
Holds (chooses test es answer) = choose test 1 nobody es ≡ answer

-- P2's list, and that of 004's card of four.
abbrev list2 : List Entry
list2 = entry 0 0x10 6 1 ∷ entry 2 0x10 9 2 ∷ entry 2 0x05 15 3 ∷ []

-- 004's card of eight: pointers listed 1 2 5 3 6 7 8, by the priorities of 5 to 8.
abbrev list7 : ℕ → ℕ → ℕ → ℕ → List Entry
list7 five six seven eight =
    entry 0 0x10 6 1
    ∷ entry 0 0x12 12 2
    ∷ entry 1 0x12 five 5
    ∷ entry 2 0x10 9 3
    ∷ entry 2 0x05 six 6
    ∷ entry 2 0x05 seven 7
    ∷ entry 2 0x05 eight 8
    ∷ []

abbrev list8 : List Entry
list8 = list7 15 15 15 15 ++ (entry 2 0x05 15 4 ∷ [])

-- An order on a card of n records, c of them with counter: on a day, a contract of type 42h and priority 6 with this key, with
-- a counter or without.
abbrev order : ℕ → ℕ → ℕ → Bool → Order
order n c key counter =
    record {
      n = n;
      c = c;
      s = 0;
      day = 100;
      minute = 60;
      hours = 24;
      key = key;
      kind = 0x42;
      priority = 6;
      has_network = false;
      network = 0;
      counter = counter;
    }

-- A contract of zeros for a card with this journal, no special events, and these codes marked.
abbrev lent : List ℕ → List ℕ → Lent
lent journal codes =
    record { special = 0 and 58 zeros; journal = journal; records = []; new = 0 and 58 zeros; codes = codes }

abbrev left3 : Left
left3 = loaded (refusal 0 0) 4 (0x4C020C1C42122C40BE3C484C4 and 33 zeros) (replicate 87 255 ++ replicate 29 0)

-- A passage on a card of one contract, on day 100 at minute 60, by operator 5; the event has code 20 and provider 7.
abbrev gate_passage : Passage
gate_passage = record { n = 1; c = 0; day = 100; minute = 60; operator = 5; code = 20; provider = 7 }

-- What it leaves where the only contract is chosen, with this priority: the list of these digits, and a journal of this event and a record.
abbrev passed_with : ℕ → ℕ → List ℕ → Passed
passed_with priority list moved =
    record { answer = chosen_at 1 (entry 0 0x42 priority 1); list = list and 51 zeros; journal = (0x01901E100000A0A03840 and 38 zeros) ++ moved }

-- A BIP contract with these dates and this extension, valid from Monday to Friday.
abbrev yearly : ℕ → ℕ → Extension → BipContract
yearly start end extension =
    record {
      company = 0x1A;
      format = 2;
      rfu = 0;
      extra_tariff = 5;
      tariff = 0x0123;
      serial = 0x0ABCDE;
      start = start;
      end = end;
      days =
          record {
            monday = true;
            tuesday = true;
            wednesday = true;
            thursday = true;
            friday = true;
            saturday = false;
            sunday = false;
            holidays = false;
          };
      sam_serial = 0x11223344;
      sam_counter = 0x000102;
      extension = extension;
      mac = 0xDEADBEEF;
    }

-- The minutes from 1/1/2005 to 1/1/2012, which is 2556 days later, and to the last minute of that year.
abbrev from2012 : ℕ
from2012 = 1440 * 2556

abbrev to2012 : ℕ
to2012 = 1440 * (2556 + 366) - 1

-- What is written where such a contract is refused with 7.
abbrev unfit : ℕ → ℕ → Written
unfit place field = denied (refusal_at 7 place field) (replicate 29 255)

unfoldable pub samples : List Case
samples =
    -- P1 list of zeros: count 0.
    list_reads 4 4 (0 and 58 zeros) (got_list (listing 4 []))
    -- P2 N = 4, list 3C020C1C42122C40BE3 and 39 zero digits: entries (key, type, priority, pointer) 0 10h 6 1; 2 10h 9 2; 2 05h 15 3.
    ∷ list_reads 4 4 (0x3C020C1C42122C40BE3 and 39 zeros) (got_list (listing 4 list2))
    -- 02, Q-8: its tally for four counter positions, for two and for none: pointers 1, 2 and 3, and 3 used up. Written with the tally of
    -- another C it is 6 at place 0.
    ∷ tallies 4 list2 0b111 1 0 0
    ∷ tallies 2 list2 0b011 0 0b100 1
    ∷ tallies 0 list2 0 0 0b111 1
    ∷ list_writes 4 2 2 list2 (replicate 29 255) (accepted (0x3C020C1C42122C40BE3 and 39 zeros))
    ∷ list_writes 4 2 4 list2 (replicate 29 255) (denied (refusal 6 0) (replicate 29 255))
    -- P3 load on P2's card, C = 4, entry 2 42h 6 with a 42h record of zeros, no events: pointer 4, list
    -- 4C020C1C42122C40BE3C484C4 and 33 zero digits. Here with a contract file of bytes FFh before.
    ∷ loads (order 4 4 2 true) (0x3C020C1C42122C40BE3 and 39 zeros) (replicate 116 255) (lent [] marking_all) left3
    ∷ loads (order 4 4 2 false) (0x3C020C1C42122C40BE3 and 39 zeros) (replicate 116 255) (lent [] marking_all) left3
    -- P4 N = 8, C = 4, pointers listed 1 2 5 3 6 7 8 4, with 4 to 8 erasable. Without counter: pointer 5, then 1 2 3 6 7 8 4 5.
    ∷ places 8 4 false list8 5 (1 ∷ 2 ∷ 3 ∷ 6 ∷ 7 ∷ 8 ∷ 4 ∷ 5 ∷ [])
    -- P5 with counter: pointer 4.
    ∷ places 8 4 true list8 4 (1 ∷ 2 ∷ 5 ∷ 3 ∷ 6 ∷ 7 ∷ 8 ∷ 4 ∷ [])
    -- P6 list 1C021A1 and 51 zero digits: refusal 4, place 7. By 02, Q-2, field 3.
    ∷ list_reads 4 4 (0x1C021A1 and 51 zeros) (no_list (refusal_at 4 7 3))
    -- P7 50h with head bitmap 1100011 and groups D843h, 810Dh, 0030h: 207, 198, 142 bits.
    ∷ urban_ends 0xD843 207
    ∷ urban_ends 0x810D 198
    ∷ urban_ends 0x0030 142
    -- P8 event with only element [17], date and minute 0: refusal 2, place 53. Field 20.
    ∷ event_reads 0 0 (2 ^ 17) (Err (refusal_at 2 53 20))
    -- P9 event minute 1439 read; 1440 refusal 4, place 14. Field 1.
    ∷ event_reads 0 1439 0 (Ok (event_of (0 ∷ 1439 ∷ []) []))
    ∷ event_reads 0 1440 0 (Err (refusal_at 4 14 1))
    -- P10 list of zeros but a last byte 01h: 5, place 231.
    ∷ list_reads 4 4 (0x01 and 0 zeros) (no_list (refusal 5 231))
    -- 02, Q-7: the same bytes as an event: read, with bit 231 in its margin; written, the same bytes. An event of zeros ends at bit 53:
    -- a one of its margin at bit 52 is in a field's place, one at bit 232 past the record.
    ∷ bytes_read (0x01 and 0 zeros) (Ok (event_of [] (0 ∷ 0 ∷ 0 ∷ 2 ^ 24 ∷ [])))
    ∷ margin_written (0 ∷ 0 ∷ 0 ∷ 2 ^ 24 ∷ []) (replicate 29 255) (accepted (0x01 and 0 zeros))
    ∷ margin_written (2 ^ 11 ∷ 0 ∷ 0 ∷ 2 ^ 24 ∷ []) (replicate 29 255) (denied (refusal 7 52) (replicate 29 255))
    ∷ margin_written (2 ^ 10 ∷ 0 ∷ 0 ∷ 2 ^ 23 ∷ []) (replicate 29 255) (denied (refusal 7 232) (replicate 29 255))
    -- P11 gate, first byte 05h to 07h, rest equal: write 02h.
    ∷ finds (0x05 and 56 zeros) (0x07 and 56 zeros) (replicate 29 255) (accepted (0x02 and 56 zeros))
    -- P12 05h to 06h: 10, place 7.
    ∷ finds (0x05 and 56 zeros) (0x06 and 56 zeros) (replicate 29 255) (denied (refusal 10 7) (replicate 29 255))
    -- P13 one hour, event day 100 minute 60: blocked at minute 119, free at 120. By 02, Q-3, the event's code is marked.
    ∷ blocks_at (marking 20) (coded 20 100 60) 1 100 119 true
    ∷ blocks_at (marking 20) (coded 20 100 60) 1 100 120 false
    -- 02, Q-3: the same event unmarked, and one without a code: free both times. Code 0 can block.
    ∷ blocks_at (marking_others 20) (coded 20 100 60) 1 100 119 false
    ∷ blocks_at (marking_others 20) (coded 20 100 60) 1 100 120 false
    ∷ blocks_at marking_all (codeless 100 60) 1 100 119 false
    ∷ blocks_at marking_all (codeless 100 60) 1 100 120 false
    ∷ blocks_at (marking 0) (coded 0 100 60) 1 100 119 true
    -- The demand behind it: an inspector's event names a used-up carnet, on a card of one contract, and the counter loads over it;
    -- where it is a journey's, 9.
    ∷ loads (order 1 0 0 false) (0x1C085E1 and 51 zeros) (replicate 29 255)
    (lent (record_of (coded 20 100 60)) (marking_others 20))
    (loaded (refusal 0 0) 1 (0x1C084C1 and 51 zeros) (replicate 29 0))
    ∷ loads (order 1 0 0 false) (0x1C085E1 and 51 zeros) (replicate 29 255)
    (lent (record_of (coded 20 100 60)) (marking 20))
    (loaded (refusal 9 0) 0 (0x1C085E1 and 51 zeros) (replicate 29 255))
    -- 02, Q-1: a 42h contract of zeros opens to all; priority 2 becomes 6, 6 becomes 15, 9 stays. Of a journal of two records, which are none
    -- that read, the first is then the second. An empty journal is 11.
    ∷ passes gate_passage (0x1C08441 and 51 zeros) (replicate 29 0) (replicate 29 170 ++ replicate 29 255) (passed_with 2 0x1C084C1 (replicate 29 170))
    ∷ passes gate_passage (0x1C084C1 and 51 zeros) (replicate 29 0) (replicate 29 170 ++ replicate 29 255) (passed_with 6 0x1C085E1 (replicate 29 170))
    ∷ passes gate_passage (0x1C08521 and 51 zeros) (replicate 29 0) (replicate 29 170) (passed_with 9 0x1C08521 [])
    ∷ passes gate_passage (0x1C084C1 and 51 zeros) (replicate 29 0) []
    (record { answer = unselected (refusal 11 0); list = 0x1C084C1 and 51 zeros; journal = [] })
    -- 02, Q-4, and 000, section 3.2.1: a tariff of 0123h stands as 01h, 23h; 3.4: 1/1/2012, 382980h minutes after 1/1/2005, stands as C7D67Fh. The
    -- tag is A000h, which as another tag is 7, and so is a date of four bytes. All bytes are legal: zeros are the last dates and tag 0.
    ∷ bip_reads (0x1A020005_01230ABCDE_C7D67F_BFCBC0_1F_11223344_000102_A000_DEADBEEF and 0 zeros) (Ok (yearly from2012 to2012 Nothing))
    ∷ bip_writes (yearly from2012 to2012 Nothing) (replicate 29 255)
    (accepted (0x1A020005_01230ABCDE_C7D67F_BFCBC0_1F_11223344_000102_A000_DEADBEEF and 0 zeros))
    ∷ bip_writes (yearly from2012 to2012 (Tag 0xA000)) (replicate 29 255) (unfit 184 11)
    ∷ bip_writes (yearly from2012 (2 ^ 24) (Tag 0xA000)) (replicate 29 255) (unfit 96 7)
    ∷ bip_reads (replicate 28 0) (Err (refusal 1 0))
    -- Slip: treating "oldest" as the lowest pointer: with pointers listed 1 2 7 3 5 6 8 4 and 5 to 8 erasable, the plain one to
    -- take is 7.
    ∷ places 8 4 false
    (entry 0 0x10 6 1
    ∷ entry 0 0x10 6 2
    ∷ entry 2 0x05 15 7
    ∷ entry 0 0x10 6 3
    ∷ entry 2 0x05 15 5
    ∷ entry 2 0x05 15 6
    ∷ entry 2 0x05 15 8
    ∷ entry 0 0x10 6 4
    ∷ [])
    7
    (1 ∷ 2 ∷ 3 ∷ 5 ∷ 6 ∷ 8 ∷ 4 ∷ 7 ∷ [])
    -- Slip: a wrapping or absolute difference for event age, so that a clock set back frees a position.
    ∷ blocks_at (marking 20) (coded 20 100 60) 1 98 60 true
    -- 004, 7.2.3: the fifth of the list, contract 6, is read first: it and the sixth have the highest priority, and it is before the
    -- sixth. 01 overrules: records of types 10h, 12h and 05h do not read, and no such entry is eligible. The test here is the rest:
    -- a usable priority and an accepted key.
    ∷ chooses (λ e. usable e && leb e.key 2)
    (entry 0 0x10 6 2
    ∷ entry 0 0x12 12 4
    ∷ entry 1 0x12 6 5
    ∷ entry 2 0x10 9 3
    ∷ entry 2 0x05 2 6
    ∷ entry 2 0x05 2 7
    ∷ entry 2 0x05 15 8
    ∷ [])
    (chosen_at 5 (entry 2 0x05 2 6))
    -- 004, 7.7, example 1, and 7.8, example 1: full list, without counter: contract 5, position 8. That is P4.
    -- 7.7, example 2: a card of 4 contracts with counter, list not full: contract 4, position 4. Where the list is not full, 7.7 only
    -- adds behind the last entry. 01 overrules: an entry of the pointer that is taken goes there too, as in 7.8, example 2.
    ∷ places 4 4 true list2 4 (1 ∷ 2 ∷ 3 ∷ 4 ∷ [])
    -- 7.8, example 2: list not full, without counter: contract 6, position 7.
    ∷ places 8 4 false (list7 6 15 15 15) 6 (1 ∷ 2 ∷ 5 ∷ 3 ∷ 7 ∷ 8 ∷ 6 ∷ [])
    -- 7.8, example 3: the same with none erasable: contract 4, which could have a counter, position 8.
    ∷ places 8 4 false (list7 6 12 6 6) 4 (1 ∷ 2 ∷ 5 ∷ 3 ∷ 6 ∷ 7 ∷ 8 ∷ 4 ∷ [])
    ∷ []
