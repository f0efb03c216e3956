-- From the takes of the head and of a type's data to the answer about a record's bytes.
use Prim.Native.Nat.{ℕ, ◌^◌, ◌<◌}
use mathlib.Core.List.{List, [], ◌∷◌, ◌++◌, map, append-nil, append_assoc}
use mathlib.Core.Bool.{Bool, true, false, false≢true}
use mathlib.Core.Path.{◌≡◌, refl, sym, ap, ◌∙◌}
use native.Mathlib.Omega.{arith}
use lib.ListN.{length}
use lib.Dec.{eqb}
use borrow.Author.Tests.{eq-eqb, eqb-true, eqb-false}
use Rattle.rows.specs.Row.{Row, pick, told, holds}
use Rattle.bits.specs.Bits.{cut, spread, cleared}
use Rattle.rows.specs.Inner.Step.{Ready}
use Rattle.rows.specs.Inner.Line.{start, Takes, Taken}
use Rattle.rows.specs.Inner.Standing.{Standing}
use Rattle.rows.specs.Margin.{words_of, margin_of}
use Rattle.rows.specs.Table.Contract.{head, data42, data50, contract42, contract50}
use Rattle.rows.proofs.Running.{takes_append, stopped, Skips, skips_none, skips_more}
use Rattle.rows.proofs.Tables.{carnet_rows, urban_rows}
use Rattle.records.specs.Answer.{Answer}
use Rattle.records.specs.Inner.Met.{met}
use Rattle.contract.proofs.Absent.{zero_slots, absent}
use Rattle.records.proofs.Answering.{record_read, record_refused}
use Rattle.contract.specs.Contract.{head_numbers, numbers42, numbers50, is_carnet, table_of, follow, known, with_rest, contract_of, contract_told, contract_read}
use Rattle.contract.specs.declared.Contract.{Contract}
use Rattle.contract.specs.declared.Data42.{Data42}
use Rattle.contract.specs.declared.Data50.{Data50}
use Rattle.contract.specs.declared.Data.TheVariants.{Nothing, Carnet, Urban}
use Rattle.contract.specs.declared.Data.{Data}
use Rattle.contract.specs.Inner.Steps.{TakeOf}
use Rattle.rows.specs.declared.margin.Margin.{Margin}
use Rattle.std.specs.Prelude.{◌≢◌}
use Rattle.std.specs.Prelude.{Ok, Err}

-- The takes of a type's whole table, where the data follow.
module _ {words : List ℕ} {kind : ℕ} {h : Contract} {c last : Standing} (front : Taken words 232 head [] start (head_numbers h) c) (on : follow h.bitmap ≡ true) where
  pub rest42 : (d : Data42) → is_carnet kind ≡ true → Taken words 232 data42 (head_numbers h) c (head_numbers h ++ numbers42 d) last
      → TakeOf words kind h (Carnet d) last
  unfolding contract42
  rest42 d e rest =
      record {
        behind = numbers42 d;
        end = last;
        taken = rw e (record { takes = takes_append front.takes rest.takes; ready = rest.ready });
        here = refl;
        clear = λ ok. ok;
        same = λ why. refl;
        made = λ margin. rw (e, on);
      }

  pub rest50 : (d : Data50) → is_carnet kind ≡ false → Taken words 232 data50 (head_numbers h) c (head_numbers h ++ numbers50 d) last
      → TakeOf words kind h (Urban d) last
  unfolding contract50
  rest50 d e rest =
      record {
        behind = numbers50 d;
        end = last;
        taken = rw e (record { takes = takes_append front.takes rest.takes; ready = rest.ready });
        here = refl;
        clear = λ ok. ok;
        same = λ why. refl;
        made = λ margin. rw (e, on);
      }

-- Rows that are absent leave zeros in their slots.
skip_rows : {words : List ℕ} (rs : List Row) (seen : List ℕ) (c : Standing) → Ready words 232 c → c.why ≡ 0 → absent rs seen ≡ true
    → Skips words 232 rs seen c (seen ++ zero_slots rs)
skip_rows [] seen c ready clear none = rw append-nil (skips_none ready clear seen)
skip_rows {words} (r ∷ rs) seen c ready clear none =
    go (holds (told r.cond seen)) refl none (λ d on ok off. skip_rows rs (seen ++ map (λ (w : ℕ). 0) r.boxes) d on ok off)
  where
    next : List ℕ
    next = seen ++ map (λ (w : ℕ). 0) r.boxes

    go : (b : Bool) → holds (told r.cond seen) ≡ b → pick b false (absent rs next) ≡ true
        → ((d : Standing) → Ready words 232 d → d.why ≡ 0 → absent rs next ≡ true → Skips words 232 rs next d (next ++ zero_slots rs))
        → Skips words 232 (r ∷ rs) seen c (seen ++ zero_slots (r ∷ rs))
    go true e off rest = absurd (false≢true off)
    go false e off rest = skips_more ready clear e (λ d on ok. rw append_assoc at (rest d on ok off))

off42 : (h : Contract) → follow h.bitmap ≡ false → absent data42 (head_numbers h) ≡ true
unfolding data42
off42 h none = rw none

off50 : (h : Contract) → follow h.bitmap ≡ false → absent data50 (head_numbers h) ≡ true
unfolding data50
off50 h none = rw none

-- And where none follow: behind the head all rows are absent, or it was refused.
pub rest_none : (words : List ℕ) (kind : ℕ) (h : Contract) (c : Standing) → Taken words 232 head [] start (head_numbers h) c → follow h.bitmap ≡ false
    → TakeOf words kind h Nothing c
unfolding contract42 contract50
rest_none words kind h c front none = go (is_carnet kind) refl
  where
    -- What the rows behind the head come to.
    Behind : List Row → Type 0
    Behind rows =
        (vs : List ℕ) × (last : Standing) × Taken words 232 (head ++ rows) [] start (head_numbers h ++ vs) last
        × (last.at ≡ c.at) × (c.why ≡ 0 → last.why ≡ 0) × ((c.why ≡ 0 → ⊥) → last ≡ c)

    both : (rows : List Row) → absent rows (head_numbers h) ≡ true → (b : Bool) → eqb c.why 0 ≡ b → Behind rows
    both rows off true e =
        let ok : c.why ≡ 0 = eqb-true _ _ e in
        let skips = skip_rows rows (head_numbers h) c front.ready ok off in (
          zero_slots rows,
          skips.last,
          record { takes = takes_append front.takes skips.takes; ready = skips.ready },
          skips.here,
          λ _. skips.clear,
          λ why. absurd (why ok),
        )
    both rows off false e =
        let stops : Takes words 232 rows (head_numbers h) c (head_numbers h ++ []) c = rw append-nil (stopped front.ready (eqb-false _ _ e) rows (head_numbers h)) in
        ([], c, record { takes = takes_append front.takes stops; ready = front.ready }, refl, λ ok. ok, λ why. refl)

    go : (k : Bool) → is_carnet kind ≡ k → TakeOf words kind h Nothing c
    go true k =
        let (vs, last, takes, here, clear, same) = both data42 (off42 h none) (eqb c.why 0) refl in
        record { behind = vs; end = last; taken = rw k takes; here = here; clear = clear; same = same; made = λ margin. rw none }
    go false k =
        let (vs, last, takes, here, clear, same) = both data50 (off50 h none) (eqb c.why 0) refl in
        record { behind = vs; end = last; taken = rw k takes; here = here; clear = clear; same = same; made = λ margin. rw none }

-- Both types have a table that is short enough.
pub few_rows : (kind : ℕ) → length (table_of kind) < 2 ^ 32
few_rows kind = go (is_carnet kind)
  where
    go : (b : Bool) → length (pick b contract42 contract50) < 2 ^ 32
    go true = omega (arith, carnet_rows)
    go false = omega (arith, urban_rows)

-- The answer at the end.
module _ {kind : ℕ} (bytes : List ℕ) {words : List ℕ} {h : Contract} {d : Data} {last : Standing}
    (whole : length bytes ≡ 29)
    (there : known kind ≡ true)
    (cuts : words ≡ cut 32 64 8 (spread 8 bytes))
    (taken : TakeOf words kind h d last) where
  pub told_refused : (a : Answer) → a ≡ met last → last.why ≢ 0 → contract_told (Err a) ≡ contract_told (contract_read kind bytes)
  told_refused a is why =
      let same : a ≡ met taken.end = is ∙ ap met (sym (taken.same why)) in
      rw (eq-eqb _ _ whole, there)
      (ap contract_told (ap Err same ∙ record_refused _ _ _ bytes words _ _ (few_rows kind) whole cuts taken.taken (rw (taken.same why) why)))

  pub told_read : (m : Margin) → words_of m ≡ cut 64 64 4 (cleared last.at (spread 8 bytes)) → last.why ≡ 0
      → contract_told (Ok (with_rest h d m)) ≡ contract_told (contract_read kind bytes)
  told_read m is ok =
      let margin : List ℕ = cut 64 64 4 (cleared taken.end.at (spread 8 bytes)) in
      let left : words_of m ≡ margin = rw taken.here is in
      let same : with_rest h d m ≡ contract_of kind (head_numbers h ++ taken.behind) margin =
      ap (λ (ws : List ℕ). with_rest h d (margin_of ws)) left ∙ sym (taken.made margin) in
      rw (eq-eqb _ _ whole, there)
      (ap contract_told (ap Ok same ∙ record_read (λ vals margin. Ok (contract_of kind vals margin)) Err _ bytes words _ _ (few_rows kind) whole cuts taken.taken (taken.clear ok) refl))

  -- The same of a contract that has its margin already.
  pub told_whole : {c : Contract} → c ≡ with_rest h d c.margin → words_of c.margin ≡ cut 64 64 4 (cleared last.at (spread 8 bytes)) → last.why ≡ 0
      → contract_told (Ok c) ≡ contract_told (contract_read kind bytes)
  told_whole {c} own left ok = ap (λ (x : Contract). contract_told (Ok x)) own ∙ told_read c.margin left ok
