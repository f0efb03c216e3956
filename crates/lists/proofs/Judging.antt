-- The list rule by a mask of the pointers in use: one entry more.
use Prim.Native.Nat.{ℕ, zero, suc, ◌+◌, ◌-◌, ◌/◌, ◌%◌, ◌^◌, ◌≤◌, ◌<◌}
use mathlib.Core.List.{List, [], ◌∷◌, ◌++◌, map, append-nil, append_assoc, map-append}
use mathlib.Core.Bool.{Bool, true, false, ◌&&◌, ◌||◌, or-false, or-true}
use mathlib.Core.Path.{◌≡◌, refl, sym, ap, ◌∙◌}
use native.Mathlib.Omega.{arith}
use native.Mathlib.Numerals.{add-one}
use lib.Dec.{eqb, leb}
use lib.ListN.{length, get_or, take, length-append, length-map}
use lib.Seq.{length-take-le, take-suc}
use borrow.Author.Tests.{eq-eqb, ne_eqb, leb-true}
use Rattle.std.proofs.Common.{Option, Some, None}
use Rattle.bits.specs.Bits.{odd}
use Rattle.rows.specs.Row.{pick, among}
use Rattle.rows.proofs.Margins.{both}
use Rattle.rows.specs.Inner.Standing.{Standing}
use Rattle.lists.specs.Rules.{keeps, fault_after, first_at_fault}
use Rattle.lists.specs.Inner.Judging.{optional, Judges}
use Rattle.lists.specs.Inner.Steps.{obeyed, stopped_at}
use Rattle.lists.specs.declared.rules.Judged.{Judged}
use Rattle.lists.proofs.Masks.{mask_bit, mask_more}

-- The first entry at fault, of some and one more.
fault_more : (full limit : ℕ) (before bs ps : List ℕ) (b p : ℕ) → length bs ≡ length ps
    → fault_after full limit before (bs ++ (b ∷ [])) (ps ++ (p ∷ []))
    ≡ pick (eqb (fault_after full limit before bs ps) 0)
    (pick (keeps full limit (before ++ ps) b p) 0 (suc (length (before ++ ps))))
    (fault_after full limit before bs ps)
fault_more full limit before [] [] b p same = rw append-nil
fault_more full limit before [] (y ∷ ps) b p same = absurd (omega arith)
fault_more full limit before (x ∷ bs) [] b p same = absurd (omega arith)
fault_more full limit before (x ∷ bs) (y ∷ ps) b p same =
    go (keeps full limit before x y) (rw append_assoc at (fault_more full limit (before ++ (y ∷ [])) bs ps b p (omega arith)))
  where
    go : (t : Bool)
        → fault_after full limit (before ++ (y ∷ [])) (bs ++ (b ∷ [])) (ps ++ (p ∷ []))
        ≡ pick (eqb (fault_after full limit (before ++ (y ∷ [])) bs ps) 0)
        (pick (keeps full limit (before ++ (y ∷ ps)) b p) 0 (suc (length (before ++ (y ∷ ps)))))
        (fault_after full limit (before ++ (y ∷ [])) bs ps)
        → pick t (fault_after full limit (before ++ (y ∷ [])) (bs ++ (b ∷ [])) (ps ++ (p ∷ []))) (suc (length before))
        ≡ pick (eqb (pick t (fault_after full limit (before ++ (y ∷ [])) bs ps) (suc (length before))) 0)
        (pick (keeps full limit (before ++ (y ∷ ps)) b p) 0 (suc (length (before ++ (y ∷ ps)))))
        (pick t (fault_after full limit (before ++ (y ∷ [])) bs ps) (suc (length before)))
    go true rest = rest
    go false rest = rw (ne_eqb (suc (length before)) 0 (λ e. omega arith))

-- A number is among some and one more.
pub among_last : (q : ℕ) (ps : List ℕ) (p : ℕ) → among q (ps ++ (p ∷ [])) ≡ among q ps || eqb p q
among_last q [] p = or-false (eqb p q)
among_last q (m ∷ ps) p = go (eqb m q) (among_last q ps p)
  where
    go : (t : Bool) → among q (ps ++ (p ∷ [])) ≡ among q ps || eqb p q → t || among q (ps ++ (p ∷ [])) ≡ (t || among q ps) || eqb p q
    go true rest = refl
    go false rest = rest

-- What an option says of a number that 0 stands for the lack of.
pub optional_none : (k : ℕ) → None ≡ optional k → k ≡ 0
optional_none zero e = refl
optional_none (suc k) e = cc

pub optional_some : (k m : ℕ) → Some m ≡ optional k → (m ≡ k) × (k ≡ 0 → ⊥)
optional_some zero m e = absurd (cc)
optional_some (suc k) m e = (cc, λ z. omega arith)

-- A cursor after a fault in code is the one after that fault's number.
pub obeyed_rule : (c : Standing) (k : ℕ) {d : Standing} {fault : Option ℕ} → d ≡ stopped_at c fault → fault ≡ optional k → d ≡ obeyed c k
obeyed_rule c k {d} {fault} e same = e ∙ go fault same
  where
    either : (b : Bool) → c ≡ pick b c c
    either true = refl
    either false = refl

    go : (f : Option ℕ) → f ≡ optional k → stopped_at c f ≡ obeyed c k
    go None s = rw (eq-eqb k 0 (optional_none k s)) (either (eqb c.why 0))
    go (Some m) s = let (own, some) = optional_some k m s in rw (own, ne_eqb k 0 some)

-- Before the first entry.
pub judges_none : (full limit : ℕ) → Judges full limit [] [] (record { used = 0; fault = 0 })
judges_none full limit = record { same = refl; fault = refl; used = λ clear. refl }

-- What the test of an entry's elements and pointer says of the pointer.
pub tested : (b full p limit : ℕ) → eqb (b / 2) full && leb 1 p && leb p limit ≡ true → (1 ≤ p) × (p ≤ limit)
tested b full p limit h =
    let (front, last) = both _ (leb p limit) h in
    let (fills, first) = both (eqb (b / 2) full) _ front in
    (leb-true _ _ first, leb-true _ _ last)

module _ (full limit : ℕ) (bs ps : List ℕ) (j : Judged) (so_far : Judges full limit bs ps j) (b p k : ℕ) (counted : k ≡ suc (length ps)) where
  same_more : length (bs ++ (b ∷ [])) ≡ length (ps ++ (p ∷ []))
  same_more = simp length-append (omega arith)

  more : (t : Bool) → keeps full limit ps b p ≡ t → j.fault ≡ 0
      → pick t 0 k ≡ first_at_fault full limit (bs ++ (b ∷ [])) (ps ++ (p ∷ []))
  more t so clear =
      let none : first_at_fault full limit bs ps ≡ 0 = sym so_far.fault ∙ clear in
      sym (fault_more full limit [] bs ps b p so_far.same ∙ rw (none, so, counted))

  pub judges_faulty : (j.fault ≡ 0 → ⊥) → Judges full limit (bs ++ (b ∷ [])) (ps ++ (p ∷ [])) j
  judges_faulty why =
      let some : first_at_fault full limit bs ps ≡ 0 → ⊥ = λ e. why (so_far.fault ∙ e) in
      record {
        same = same_more;
        fault = so_far.fault ∙ sym (fault_more full limit [] bs ps b p so_far.same ∙ rw (ne_eqb _ _ some));
        used = λ clear. absurd (why clear);
      }

  pub judges_broken : j.fault ≡ 0 → keeps full limit ps b p ≡ false
      → Judges full limit (bs ++ (b ∷ [])) (ps ++ (p ∷ [])) (record { used = j.used; fault = k })
  judges_broken clear broken =
      record {
        same = same_more;
        fault = more false broken clear;
        used = λ none. absurd (omega arith);
      }

  -- An entry does not keep the rule where it lacks an element or its pointer is outside the limit;
  pub keeps_not : eqb (b / 2) full && leb 1 p && leb p limit ≡ false → keeps full limit ps b p ≡ false
  keeps_not h = rw h

  module _ (few : limit ≤ 8) (clear : j.fault ≡ 0) (h : eqb (b / 2) full && leb 1 p && leb p limit ≡ true) where
    inside : (1 ≤ p) × (p ≤ 8)
    inside = let (low, high) = tested b full p limit h in (low, omega arith)

    own_bit : odd (j.used / 2 ^ (p - 1)) ≡ among p ps
    own_bit = rw (so_far.used clear) (mask_bit 8 p (λ q. among q ps) inside.0 inside.1)

    -- nor where its pointer is in use.
    pub keeps_taken : j.used / 2 ^ (p - 1) % 2 ≡ 1 → keeps full limit ps b p ≡ false
    keeps_taken on = let again : among p ps ≡ true = sym own_bit ∙ eq-eqb _ _ on in rw (h, again)

    pub judges_kept : (u : ℕ) → u ≡ j.used + 2 ^ (p - 1) → j.used / 2 ^ (p - 1) % 2 ≡ 0
        → Judges full limit (bs ++ (b ∷ [])) (ps ++ (p ∷ [])) (record { used = u; fault = 0 })
    judges_kept u one off =
        let unused : among p ps ≡ false = sym own_bit ∙ rw off in
        let now : among p (ps ++ (p ∷ [])) ≡ true = rw (among_last p ps p, eq-eqb p p refl) (or-true (among p ps)) in
        record {
          same = same_more;
          fault = more true (rw (h, unused)) clear;
          used = λ _.
              one
              ∙ rw (so_far.used clear)
              (sym (mask_more 8 1 p (λ q. among q ps) (λ q. among q (ps ++ (p ∷ []))) inside.0 (omega (arith, inside)) unused now
              (λ r other. let apart : eqb p r ≡ false = ne_eqb _ _ (λ e. other (sym e)) in rw (among_last r ps p, apart) (sym (or-false (among r ps))))));
        }

-- An entry more of some that are judged, by what a turn gives.
abbrev pub Turned : ℕ → ℕ → Judged → ℕ → ℕ → ℕ → Judged → Type 0
Turned full limit j k b p i =
    (bs ps : List ℕ) → Judges full limit bs ps j → k ≡ suc (length ps) → Judges full limit (bs ++ (b ∷ [])) (ps ++ (p ∷ [])) i

module _ {A : Type 0} (f g : A → ℕ) (full limit : ℕ) {j i : Judged} where
  pub judges_more : (es : List A) (e : A) (k : ℕ) → k ≡ length es + 1
      → Judges full limit (map f es) (map g es) j
      → Turned full limit j k (f e) (g e) i
      → Judges full limit (map f (es ++ (e ∷ []))) (map g (es ++ (e ∷ []))) i
  judges_more es e k counted so_far turned =
      rw (map-append f es (e ∷ []), map-append g es (e ∷ []))
      (turned (map f es) (map g es) so_far (rw (length-map es g) (omega arith)))

  pub judges_next : (es : List A) (k : ℕ) (d : A) → k < length es
      → Judges full limit (map f (take k es)) (map g (take k es)) j
      → Turned full limit j (k + 1) (f (get_or es k d)) (g (get_or es k d)) i
      → Judges full limit (map f (take (k + 1) es)) (map g (take (k + 1) es)) i
  judges_next es k d inside so_far turned =
      let long : length (take k es) ≡ k = length-take-le k es (omega arith) in
      let next : take (k + 1) es ≡ take k es ++ (get_or es k d ∷ []) = rw (add-one k) (take-suc es k d inside) in
      rw next (judges_more (take k es) (get_or es k d) (k + 1) (rw long) so_far turned)

pub take-map : {A B : Type 0} (f : A → B) (k : ℕ) (l : List A) → take k (map f l) ≡ map f (take k l)
take-map f zero l = refl
take-map f (suc k) [] = refl
take-map f (suc k) (a ∷ l) = ap (λ (x : List _). f a ∷ x) (take-map f k l)
