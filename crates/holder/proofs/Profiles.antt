-- The four profiles one after the other: a loop that takes them all, and one that puts them all.
use Prim.Native.Nat.{ℕ, zero, suc, ◌+◌, ◌*◌, ◌≤◌, ◌<◌}
use mathlib.Core.List.{List, [], ◌∷◌, ◌++◌, append_assoc}
use mathlib.Core.Path.{◌≡◌, refl, sym, ap, ◌∙◌}
use native.Mathlib.Omega.{arith}
use native.Mathlib.Numerals.{add-one}
use lib.ListN.{length, get_or, set, take, length-append, length-set, get_or-append}
use lib.Seq.{length-take-le, take_all, take-suc-set, get_or_at}
use Rattle.rows.specs.Row.{Row, bit, above, box}
use Rattle.rows.specs.Inner.Step.{Ready, Took, Drafted}
use Rattle.rows.specs.Inner.Line.{Takes, taken, ◌▸◌, Puts, given, ◌◂◌}
use Rattle.rows.specs.Inner.Standing.{Standing}
use Rattle.rows.specs.declared.Rule.{Rule}
use Rattle.rows.specs.declared.When.TheVariants.{Bit}
use Rattle.rows.specs.Table.Holder.{holder}
use Rattle.rows.proofs.Running.{takes_append, puts_append}
use Rattle.records.specs.Answer.{from}
use Rattle.records.proofs.Inverse.{named_all}
use Rattle.holder.specs.Holder.{profile_numbers, absent, numbers_of}
use Rattle.holder.specs.Inner.Steps.{block, ProfileTook, ProfileGave}
use Rattle.holder.specs.declared.Holder.{Holder}
use Rattle.holder.specs.declared.Profile.{Profile}

-- The rows of profile k, as the table has them.
abbrev profile : ℕ → List Row
profile k =
    let slot : ℕ = 82 + 4 * k in
    box 3 (above 81 k) ∷ box 24 (bit slot 0) ∷ box 8 (bit slot 1) ∷ box 14 (bit slot 2) ∷ []

rows_more : (k : ℕ) → k < 4 → block 12 (4 * k) ++ profile k ≡ block 12 (4 * (k + 1))
unfolding holder
rows_more zero few = refl
rows_more (suc zero) few = refl
rows_more (suc (suc zero)) few = refl
rows_more (suc (suc (suc zero))) few = refl
rows_more (suc (suc (suc (suc k)))) few = absurd (omega arith)

-- The numbers of some profiles.
abbrev pub flat : List Profile → List ℕ
flat [] = []
flat (p ∷ ps) = profile_numbers p ++ flat ps

flat_more : (ps : List Profile) (p : Profile) → flat (ps ++ (p ∷ [])) ≡ flat ps ++ profile_numbers p
flat_more [] p = refl
flat_more (q ∷ ps) p = ap (λ (ns : List ℕ). profile_numbers q ++ ns) (flat_more ps p)

length_flat : (ps : List Profile) → length (flat ps) ≡ 4 * length ps
length_flat [] = refl
length_flat (p ∷ ps) = rw (length_flat ps) (omega arith)

-- Those of all four, by name.
pub flat_four : (ps : List Profile) → length ps ≡ 4
    → flat ps
    ≡ profile_numbers (get_or ps 0 absent)
    ++ (profile_numbers (get_or ps 1 absent)
    ++ (profile_numbers (get_or ps 2 absent)
    ++ profile_numbers (get_or ps 3 absent)))
flat_four ps four = ap flat (sym (named_all absent 4 ps four))

-- The take of an element, some numbers after the profile's bitmap.
element_takes : {words : List ℕ} {end w j n b : ℕ} {rule : Rule} {rs : List Row} {c : Standing} {vs : List ℕ} {e : Standing} {all : List ℕ} {d : Standing} (seen some : List ℕ)
    → length seen ≡ n
    → Took words end c (Bit b j) (w ∷ []) rule vs e
    → Takes words end rs (seen ++ (b ∷ (some ++ vs))) e all d
    → Takes words end (record { boxes = w ∷ []; cond = bit n j; rule = rule } ∷ rs) (seen ++ (b ∷ some)) c all d
element_takes {n} {b} {vs} seen some long took rest =
    (rw (← get_or_at seen b some 0 n long) at took) ▸ (rw (← append_assoc seen (b ∷ some) vs) at rest)

profile_takes : {words : List ℕ} {end : ℕ} {c : Standing} {count k : ℕ} {p : Profile} {d : Standing} (seen : List ℕ)
    → length seen ≡ 82 + 4 * k
    → get_or seen 81 0 ≡ count
    → ProfileTook words end c count k p d
    → Takes words end (profile k) seen c (seen ++ profile_numbers p) d
profile_takes {p} seen long counted took =
    (rw (← counted) at took.bitmap)
    ▸ element_takes seen [] long took.network
    (element_takes seen (p.network ∷ []) long took.number
    (element_takes seen (p.network ∷ p.number ∷ []) long took.date taken))

-- What the loop that takes them has come to before profile k, from the numbers before them and the cursor b on.
pub record Taking (words : List ℕ) (end : ℕ) (front : List ℕ) (b : Standing) (ps : List Profile) (c : Standing) (k : ℕ) : Type 0 where
  pub upto : k ≤ 4
  pub four : length ps ≡ 4
  pub ready : Ready words end c
  pub takes : Takes words end (block 12 (4 * k)) front b (front ++ flat (take k ps)) c

module _ {words : List ℕ} {end : ℕ} {front : List ℕ} {b : Standing} {ps : List Profile} {c : Standing} {k : ℕ} (so : Taking words end front b ps c k) where
  pub taking_more : (count : ℕ) (p : Profile) (d : Standing)
      → length front ≡ 82
      → get_or front 81 0 ≡ count
      → k < 4
      → ProfileTook words end c count k p d
      → Taking words end front b (set ps k p) d (k + 1)
  taking_more count p d long counted more took =
      let seen : List ℕ = front ++ flat (take k ps) in
      let before : length (take k ps) ≡ k = length-take-le k ps (omega (arith, so.four)) in
      let all : length seen ≡ 82 + 4 * k = rw (length-append front (flat (take k ps)), long, length_flat (take k ps), before) in
      let same : get_or seen 81 0 ≡ count = get_or-append front (flat (take k ps)) 0 81 (omega arith) ∙ counted in
      let next : take (k + 1) (set ps k p) ≡ take k ps ++ (p ∷ []) = rw (add-one k) (take-suc-set ps k p (omega (arith, so.four))) in
      let numbers : seen ++ profile_numbers p ≡ front ++ flat (take (k + 1) (set ps k p)) =
      append_assoc front (flat (take k ps)) (profile_numbers p) ∙ rw (next, flat_more (take k ps) p) in
      record {
        upto = omega arith;
        four = length-set ps k p ∙ so.four;
        ready = took.date.ready;
        takes = rw (← rows_more k more, ← numbers) (takes_append so.takes (profile_takes seen all same took));
      }

  -- All of them, behind the same numbers before them.
  pub taking_all : {kept : List ℕ} → kept ≡ front → 4 ≤ k → Takes words end (block 12 16) front b (kept ++ flat ps) c
  taking_all same last =
      let all : k ≡ 4 = omega (arith, so.upto) in
      let whole : take 4 ps ≡ ps = take_all 4 ps (omega (arith, so.four)) in
      rw same (rw (all, whole) at so.takes)

profile_puts : {room : ℕ} {xs : List ℕ} {c : Standing} {ys : List ℕ} {d : Standing} (h : Holder) (k : ℕ) → k < 4
    → ProfileGave xs ys room c h.profile_count k (get_or h.profiles k absent) d
    → Puts room (numbers_of h) (profile k) (from 0 (82 + 4 * k) (numbers_of h)) xs c (from 0 (82 + 4 * (k + 1)) (numbers_of h)) ys d
profile_puts h zero few gave = gave.bitmap ◂ gave.network ◂ gave.number ◂ gave.date ◂ given
profile_puts h (suc zero) few gave = gave.bitmap ◂ gave.network ◂ gave.number ◂ gave.date ◂ given
profile_puts h (suc (suc zero)) few gave = gave.bitmap ◂ gave.network ◂ gave.number ◂ gave.date ◂ given
profile_puts h (suc (suc (suc zero))) few gave = gave.bitmap ◂ gave.network ◂ gave.number ◂ gave.date ◂ given
profile_puts h (suc (suc (suc (suc k)))) few gave = absurd (omega arith)

-- What the loop that puts them has come to before profile k, from the draft xs and the cursor b on.
pub record Putting (h : Holder) (room : ℕ) (xs : List ℕ) (b : Standing) (ys : List ℕ) (c : Standing) (k : ℕ) : Type 0 where
  pub upto : k ≤ 4
  pub ready : Drafted ys room c
  pub puts : Puts room (numbers_of h) (block 12 (4 * k)) (from 0 82 (numbers_of h)) xs b (from 0 (82 + 4 * k) (numbers_of h)) ys c

module _ {h : Holder} {room : ℕ} {xs : List ℕ} {b : Standing} {ys : List ℕ} {c : Standing} {k : ℕ} (so : Putting h room xs b ys c k) where
  pub putting_more : (zs : List ℕ) (d : Standing) → k < 4
      → ProfileGave ys zs room c h.profile_count k (get_or h.profiles k absent) d
      → Putting h room xs b zs d (k + 1)
  putting_more zs d more gave =
      record { upto = omega arith; ready = gave.date.ready; puts = rw (← rows_more k more) (puts_append so.puts (profile_puts h k more gave)) }

  -- All of them.
  pub putting_all : 4 ≤ k → Puts room (numbers_of h) (block 12 16) (from 0 82 (numbers_of h)) xs b (from 0 98 (numbers_of h)) ys c
  putting_all last =
      let all : k ≡ 4 = omega (arith, so.upto) in
      rw all at so.puts
