-- A text's letters by name, so that the slots behind them can still be counted.
use Prim.Native.Nat.{ℕ, zero, suc, ◌+◌, ◌≤◌}
use mathlib.Core.List.{List, [], ◌∷◌}
use mathlib.Core.Path.{◌≡◌, refl, ◌∙◌}
use native.Mathlib.Omega.{arith}
use lib.ListN.{length, get_or, replicate, take, drop}
use lib.Seq.{drop-cons}
use Rattle.rows.specs.Inner.Step.{Took, Gave}
use Rattle.rows.specs.Inner.Standing.{Standing}
use Rattle.rows.specs.declared.When.{When}
use Rattle.rows.specs.declared.Rule.TheVariants.{Any}
use Rattle.records.specs.Answer.{from}
use Rattle.holder.specs.Holder.{Spelled, numbers_of, absent, with_texts, holder_of, read_of}
use Rattle.holder.specs.declared.Holder.{Holder}
use Rattle.holder.specs.declared.Profile.{Profile}
use Rattle.records.proofs.Inverse.{from_all}

pub letters_took : {words : List ℕ} {end : ℕ} {c : Standing} {t : When} {ws letters : List ℕ} {d : Standing} (n : ℕ)
    → length letters ≡ n
    → Took words end c t ws Any letters d
    → Took words end c t ws Any (from 0 n letters) d
letters_took {letters} n long took = rw (from_all n letters long) took

pub letters_gave : {xs ys : List ℕ} {room : ℕ} {c : Standing} {t : When} {letters : List ℕ} {d : Standing} (n : ℕ)
    → length letters ≡ n
    → Gave xs ys room c t (replicate (length letters) 5) Any letters d
    → Gave xs ys room c t (replicate n 5) Any (from 0 n letters) d
letters_gave {letters} n long gave = rw (from_all n letters long) (rw long at gave)

-- Four profiles are those four.
four : (none : Profile) (l : List Profile) → length l ≡ 4 → get_or l 0 none ∷ get_or l 1 none ∷ get_or l 2 none ∷ get_or l 3 none ∷ [] ≡ l
four none [] h = absurd (omega arith)
four none (a ∷ []) h = absurd (omega arith)
four none (a ∷ b ∷ []) h = absurd (omega arith)
four none (a ∷ b ∷ c ∷ []) h = absurd (omega arith)
four none (a ∷ b ∷ c ∷ d ∷ []) h = refl
four none (a ∷ b ∷ c ∷ d ∷ e ∷ l) h = absurd (omega arith)

-- A Holder whose arrays have their length is the one made of its numbers.
pub holder_back : (h : Holder) → Spelled h → length h.profiles ≡ 4 → holder_of (numbers_of h) h.margin ≡ h
holder_back h long counted =
    rw (
      from_all 17 h.surname long.surname,
      from_all 17 h.forename long.forename,
      from_all 23 h.birth_place long.birth_place,
      from_all 17 h.birth_name long.birth_name,
      four absent h.profiles counted,
      from_all 15 h.margin long.margin,
    )

pub read_back : {h : Holder} → Spelled h → length h.profiles ≡ 4 → read_of h ≡ read_of (holder_of (numbers_of h) h.margin)
read_back {h} long counted = rw (holder_back h long counted)

-- A part of some numbers, by name.
pub part_named : (i n : ℕ) (vals : List ℕ) → i + n ≤ length vals → take n (drop i vals) ≡ from i n vals
part_named i zero vals h = refl
part_named i (suc n) vals h = rw (drop-cons vals i 0 (omega arith), part_named (suc i) n vals (omega arith))

-- With such texts and its margin a Holder is the one of its numbers.
pub made_of : (vals margin : List ℕ) {surname forename place name : List ℕ} {h : Holder} → length margin ≡ 15
    → surname ≡ from 2 17 vals
    → forename ≡ from 19 17 vals
    → place ≡ from 38 23 vals
    → name ≡ from 61 17 vals
    → h ≡ with_texts vals surname forename place name margin
    → h ≡ holder_of vals margin
made_of vals margin long surname forename place name made =
    made ∙ rw (surname, forename, place, name, from_all 15 margin long)
