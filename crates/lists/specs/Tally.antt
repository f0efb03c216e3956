-- The tally that a contract list keeps of its entries, on a card with c counter positions: for counter and for plain positions,
-- which pointers are in use and how many entries are used up. Document 02, Q-8.
use Rattle.std.specs.Prelude.{ℕ, zero, suc, ◌+◌, ◌-◌, ◌*◌, ◌/◌, ◌^◌, Bool, false, not, ◌&&◌, ◌||◌, List, [], ◌∷◌, eqb, ltb, leb}
use Rattle.bits.specs.Bits.{bit, odd}
use Rattle.rows.specs.Row.{pick}
use Rattle.lists.specs.declared.list.Entry.{Entry}
use Rattle.lists.specs.declared.tally.Positions.{Positions}
use Rattle.lists.specs.declared.tally.Tally.{Tally}

-- An entry has the pointer.
abbrev pub in_use : List Entry → ℕ → Bool
in_use [] pointer = false
in_use (e ∷ es) pointer = eqb e.pointer pointer || in_use es pointer

-- It is used up: its priority is 15.
abbrev pub used_up : Entry → Bool
used_up e = eqb e.priority 15

-- How many of some entries pass a test.
abbrev pub how_many : (Entry → Bool) → List Entry → ℕ
how_many test [] = 0
how_many test (e ∷ es) = bit (test e) + how_many test es

-- The mask of those that pass a test, of n pointers from one on: the first one's bit is the lowest.
abbrev pub mask : ℕ → ℕ → (ℕ → Bool) → ℕ
mask zero pointer test = 0
mask (suc n) pointer test = bit (test pointer) + 2 * mask n (suc pointer) test

-- A fresh count of some entries, on the positions of one kind: the pointers in use, bit pointer - 1, and the entries used up.
abbrev pub positions : (ℕ → Bool) → List Entry → Positions
positions kind es =
    record {
      used = mask 8 1 (λ p. kind p && in_use es p);
      spent = how_many (λ e. kind e.pointer && used_up e) es;
    }

-- The same on both kinds: pointer p is a counter position where p is at most c.
unfoldable pub tally_of : ℕ → List Entry → Tally
tally_of c es = record { counter = positions (λ p. leb p c) es; plain = positions (λ p. not (leb p c)) es }

-- Two tallies are the same.
abbrev pub same_positions : Positions → Positions → Bool
same_positions a b = eqb a.used b.used && eqb a.spent b.spent

abbrev pub same_tally : Tally → Tally → Bool
same_tally a b = same_positions a.counter b.counter && same_positions a.plain b.plain

-- A pointer's bit of a mask. One that no card has, has none.
abbrev pub has_bit : ℕ → Bool
has_bit pointer = leb 1 pointer && leb pointer 8

abbrev pub bit_of : ℕ → ℕ → Bool
bit_of used pointer = odd (used / 2 ^ (pointer - 1))

-- The mask with that bit raised, and lowered.
abbrev pub raised : ℕ → ℕ → ℕ
raised pointer used = pick (has_bit pointer && not (bit_of used pointer)) (used + 2 ^ (pointer - 1)) used

abbrev pub lowered : ℕ → ℕ → ℕ
lowered pointer used = pick (has_bit pointer && bit_of used pointer) (used - 2 ^ (pointer - 1)) used

-- How many are used up with an entry of a priority more, which are at most 8, and with one less.
abbrev pub one_more : ℕ → ℕ → ℕ
one_more priority spent = pick (eqb priority 15 && ltb spent 8) (spent + 1) spent

abbrev pub one_less : ℕ → ℕ → ℕ
one_less priority spent = pick (eqb priority 15) (spent - 1) spent

-- With an entry of a pointer and a priority more;
abbrev pub entered : ℕ → ℕ → Positions → Positions
entered pointer priority p = record { used = raised pointer p.used; spent = one_more priority p.spent }

-- without any entry of a pointer, so many of which were used up;
abbrev pub removed : ℕ → ℕ → Positions → Positions
removed pointer gone p = record { used = lowered pointer p.used; spent = p.spent - gone }

-- and with another priority of an entry.
abbrev pub revalued : ℕ → ℕ → Positions → Positions
revalued old new p = record { used = p.used; spent = one_more new (one_less old p.spent) }

-- A tally in which the positions of a pointer's kind are changed.
abbrev pub at_pointer : ℕ → ℕ → (Positions → Positions) → Tally → Tally
at_pointer c pointer change t =
    pick (leb pointer c)
    (record { counter = change t.counter; plain = t.plain })
    (record { counter = t.counter; plain = change t.plain })

-- How many pointers above one and up to another are free by a mask, of n from a pointer on.
abbrev pub free_from : ℕ → ℕ → ℕ → ℕ → ℕ → ℕ
free_from above last used zero pointer = 0
free_from above last used (suc n) pointer =
    bit (ltb above pointer && leb pointer last && not (bit_of used pointer)) + free_from above last used n (suc pointer)

-- The same of all pointers that a card can have: counter positions are those up to c, plain ones those above c and up to n.
abbrev pub free_of : ℕ → ℕ → Positions → ℕ
free_of above last p = free_from above last p.used 8 1
