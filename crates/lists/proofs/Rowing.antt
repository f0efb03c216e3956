-- Entries of a list one after the other: their rows and their numbers, of either list, a loop that takes them all, the special
-- event list's, and one that puts them all.
use Prim.Native.Nat.{ℕ, zero, suc, ◌+◌, ◌*◌, ◌≤◌, ◌<◌}
use mathlib.Core.List.{List, [], ◌∷◌, ◌++◌, append-nil, append_assoc}
use mathlib.Core.Path.{◌≡◌, refl, sym, ap, ◌∙◌}
use native.Mathlib.Omega.{arith}
use native.Mathlib.Numerals.{add-one}
use lib.ListN.{length, get_or, set, take, drop, length-append, length-set}
use lib.Seq.{length-take-le, take_all, split_at, take-suc, take-suc-set, take_at, drop_at, drop-drop}
use Rattle.rows.specs.Row.{Row}
use Rattle.rows.specs.Inner.Step.{Ready, Drafted}
use Rattle.rows.specs.Inner.Line.{Takes, Puts}
use Rattle.rows.specs.Inner.Standing.{Standing}
use Rattle.rows.proofs.Running.{takes_append, puts_append}
use Rattle.lists.specs.Inner.Steps.{EntryTook, EntryGave}

-- The rows of m entries, from entry k on.
abbrev pub rows_from : (ℕ → List Row) → ℕ → ℕ → List Row
rows_from entry k zero = []
rows_from entry k (suc m) = entry k ++ rows_from entry (suc k) m

module _ (entry : ℕ → List Row) where
  pub rows_split : (k m l : ℕ) → rows_from entry k (m + l) ≡ rows_from entry k m ++ rows_from entry (k + m) l
  rows_split k zero l =
      let none : 0 + l ≡ l = omega arith in
      let here : k + 0 ≡ k = omega arith in
      rw (none, here)
  rows_split k (suc m) l =
      let up : suc m + l ≡ suc (m + l) = omega arith in
      let along : suc k + m ≡ k + suc m = omega arith in
      rw up (ap (λ (rs : List Row). entry k ++ rs) (rows_split (suc k) m l ∙ rw along) ∙ sym (append_assoc (entry k) (rows_from entry (suc k) m) (rows_from entry (k + suc m) l)))

  pub rows_more : (k : ℕ) → rows_from entry 0 k ++ entry k ≡ rows_from entry 0 (k + 1)
  rows_more k =
      let here : 0 + k ≡ k = omega arith in
      sym (rw (here, append-nil (entry k)) at (rows_split 0 k 1))

-- The numbers of some entries.
abbrev pub flat : {E : Type 0} → (E → List ℕ) → List E → List ℕ
flat numbers [] = []
flat numbers (e ∷ es) = numbers e ++ flat numbers es

module _ {E : Type 0} (numbers : E → List ℕ) where
  pub flat_append : (ds es : List E) → flat numbers (ds ++ es) ≡ flat numbers ds ++ flat numbers es
  flat_append [] es = refl
  flat_append (d ∷ ds) es =
      ap (λ (l : List ℕ). numbers d ++ l) (flat_append ds es) ∙ sym (append_assoc (numbers d) (flat numbers ds) (flat numbers es))

  flat_one : (e : E) → flat numbers (e ∷ []) ≡ numbers e
  flat_one e = append-nil (numbers e)

  length_flat : (size : ℕ) → ((e : E) → length (numbers e) ≡ size) → (es : List E) → length (flat numbers es) ≡ size * length es
  length_flat size sized [] = omega arith
  length_flat size sized (e ∷ es) = rw (length-append (numbers e) (flat numbers es), sized e, length_flat size sized es) (omega arith)

  -- Those before entry k, behind the count: how many they are, and with one entry more.
  pub seen_long : (size : ℕ) → ((e : E) → length (numbers e) ≡ size) → (count : ℕ) (es : List E) (k : ℕ) → k ≤ length es
      → length (count ∷ flat numbers (take k es)) ≡ 1 + size * k
  seen_long size sized count es k inside = rw (length_flat size sized (take k es), length-take-le k es inside) (omega arith)

  pub seen_more : (count : ℕ) (es ds : List E) (e : E) → ds ≡ es ++ (e ∷ [])
      → (count ∷ flat numbers es) ++ numbers e ≡ count ∷ flat numbers ds
  seen_more count es ds e more = rw more (ap (λ (ns : List ℕ). count ∷ ns) (sym (flat_append es (e ∷ []) ∙ rw (flat_one e))))

  -- The numbers of an entry more, put in their place over zeros.
  pub laid_more : (size : ℕ) → ((e : E) → length (numbers e) ≡ size) → (count : ℕ) (es : List E) (k : ℕ) (d : E) (zeros : List ℕ) {xs mid : List ℕ}
      → k < length es
      → 1 + size * k + size ≡ 1 + size * (k + 1)
      → xs ≡ (count ∷ flat numbers (take k es)) ++ drop (1 + size * k) zeros
      → mid ≡ numbers (get_or es k d)
      → take (1 + size * k) xs ++ (mid ++ drop size (drop (1 + size * k) xs)) ≡ (count ∷ flat numbers (take (k + 1) es)) ++ drop (1 + size * (k + 1)) zeros
  laid_more size sized count es k d zeros inside up laid own =
      let front : List ℕ = count ∷ flat numbers (take k es) in
      let rest : List ℕ = drop (1 + size * k) zeros in
      let long : length front ≡ 1 + size * k = seen_long size sized count es k (omega arith) in
      let next : take (k + 1) es ≡ take k es ++ (get_or es k d ∷ []) = rw (add-one k) (take-suc es k d inside) in
      let all = seen_more count (take k es) (take (k + 1) es) (get_or es k d) next in
      rw (laid, take_at front rest (1 + size * k) long, drop_at front rest (1 + size * k) long, own)
      (sym (append_assoc front (numbers (get_or es k d)) (drop size rest))
      ∙ ap (λ (l : List ℕ). l ++ drop size rest) all
      ∙ ap (λ (l : List ℕ). (count ∷ flat numbers (take (k + 1) es)) ++ l) (drop-drop size (1 + size * k) zeros ∙ rw up))

-- What a loop that takes every entry has come to before entry k, from the count and the cursor b on.
pub record Taking {E : Type 0} (entry : ℕ → List Row) (numbers : E → List ℕ) (words : List ℕ) (count : ℕ) (b : Standing) (es : List E) (c : Standing) (k : ℕ) : Type 0 where
  pub upto : k ≤ length es
  pub ready : Ready words 232 c
  pub takes : Takes words 232 (rows_from entry 0 k) (count ∷ []) b (count ∷ flat numbers (take k es)) c

module _ {E : Type 0} {entry : ℕ → List Row} {numbers : E → List ℕ} {words : List ℕ} {count : ℕ} {b : Standing} {es : List E} {c : Standing} {k : ℕ} (so : Taking entry numbers words count b es c k) where
  pub taking_more : (size : ℕ) → ((e : E) → length (numbers e) ≡ size) → (e : E) (d : Standing)
      → k < length es
      → EntryTook words (entry k) (1 + size * k) count c (numbers e) d
      → Taking entry numbers words count b (set es k e) d (k + 1)
  taking_more size sized e d more took =
      let next : take (k + 1) (set es k e) ≡ take k es ++ (e ∷ []) = rw (add-one k) (take-suc-set es k e more) in
      let all = seen_more numbers count (take k es) (take (k + 1) (set es k e)) e next in
      record {
        upto = rw (length-set es k e) (omega arith);
        ready = took.ready;
        takes = rw (← rows_more entry k, ← all) (takes_append so.takes (took.takes (count ∷ flat numbers (take k es)) (seen_long numbers size sized count es k so.upto) refl));
      }

  -- All of them.
  pub taking_all : k ≡ length es → Takes words 232 (rows_from entry 0 (length es)) (count ∷ []) b (count ∷ flat numbers es) c
  taking_all last = rw (take_all k es (omega arith), last) at so.takes

-- What a loop that puts every entry has come to before entry k, from the count, the draft xs and the cursor b on.
pub record Putting {E : Type 0} (entry : ℕ → List Row) (numbers : E → List ℕ) (count : ℕ) (es : List E) (xs : List ℕ) (b : Standing) (ys : List ℕ) (c : Standing) (k : ℕ) : Type 0 where
  pub upto : k ≤ length es
  pub ready : Drafted ys 232 c
  pub puts : Puts 232 (count ∷ flat numbers es) (rows_from entry 0 k) (count ∷ []) xs b (count ∷ flat numbers (take k es)) ys c

module _ {E : Type 0} {entry : ℕ → List Row} {numbers : E → List ℕ} {count : ℕ} {es : List E} {xs : List ℕ} {b : Standing} {ys : List ℕ} {c : Standing} {k : ℕ} (so : Putting entry numbers count es xs b ys c k) where
  pub putting_more : (size : ℕ) → ((e : E) → length (numbers e) ≡ size) → (d : E) (zs : List ℕ) (e : Standing)
      → k < length es
      → EntryGave ys zs (entry k) (1 + size * k) count c (numbers (get_or es k d)) e
      → Putting entry numbers count es xs b zs e (k + 1)
  putting_more size sized d zs e more gave =
      let own : E = get_or es k d in
      let seen : List ℕ = count ∷ flat numbers (take k es) in
      let rest : List ℕ = flat numbers (drop (suc k) es) in
      let long : length seen ≡ 1 + size * k = seen_long numbers size sized count es k so.upto in
      let next : take (k + 1) es ≡ take k es ++ (own ∷ []) = rw (add-one k) (take-suc es k d more) in
      let through = seen_more numbers count (take k es) (take (k + 1) es) own next in
      let parts : es ≡ take k es ++ (own ∷ drop (suc k) es) = split_at es k d more in
      let all : count ∷ flat numbers es ≡ seen ++ (numbers own ++ rest) =
      ap (λ (ds : List E). count ∷ flat numbers ds) parts
      ∙ ap (λ (ns : List ℕ). count ∷ ns) (flat_append numbers (take k es) (own ∷ drop (suc k) es)) in
      let split : drop (1 + size * k) (count ∷ flat numbers es) ≡ numbers own ++ rest = ap (drop (1 + size * k)) all ∙ drop_at seen (numbers own ++ rest) (1 + size * k) long in
      record {
        upto = omega arith;
        ready = gave.ready;
        puts = rw (← rows_more entry k, ← through) (puts_append so.puts (gave.puts (count ∷ flat numbers es) seen rest long refl split));
      }

  -- All of them.
  pub putting_all : length es ≤ k → Puts 232 (count ∷ flat numbers es) (rows_from entry 0 (length es)) (count ∷ []) xs b (count ∷ flat numbers es) ys c
  putting_all last =
      let all : k ≡ length es = omega (arith, so.upto) in
      rw (take_all k es (omega arith), all) at so.puts
