-- A passage that leaves both buffers as they were, the limits of one, and its ways out.
use Prim.Native.Nat.{ℕ, ◌/◌, ◌≤◌}
use mathlib.Core.Bool.{Bool, true, false}
use mathlib.Core.List.{List}
use mathlib.Core.Path.{◌≡◌, sym, ap, ◌∙◌}
use native.Mathlib.Omega.{arith}
use lib.ListN.{length}
use borrow.Author.Tests.{eq-eqb, ne_eqb, leb-true}
use Rattle.rows.proofs.Margins.{both}
use Rattle.records.specs.Answer.{Answer, Written, refusal}
use Rattle.records.specs.Event.{event_written}
use Rattle.records.specs.Order.{record_from}
use Rattle.records.specs.declared.event.Event.{Event}
use Rattle.selection.specs.Eligible.{Selection}
use Rattle.selection.specs.Selection.{unselected, selected, changing}
use Rattle.passage.specs.Passage.{used, event_for, put_first, lengths, limits, chosen, Outcome, passing}
use Rattle.passage.specs.declared.Passage.{Passage}

-- Both buffers as they were.
abbrev pub unchanged : Selection → List ℕ → List ℕ → Outcome
unchanged s list journal = record { answer = s; list = list; journal = journal }

-- What the limits say.
pub record Within (p : Passage) (records : ℕ) : Type 0 where
  pub some : 1 ≤ records
  pub few : records ≤ 15
  pub minute : p.minute ≤ 1439
  pub code : p.code ≤ 255
  pub provider : p.provider ≤ 255

pub within_limits : (p : Passage) (records : ℕ) → limits p records ≡ true → Within p records
within_limits p records all =
    let (to_code, provider) = both _ _ all in
    let (to_minute, code) = both _ _ to_code in
    let (to_few, minute) = both _ _ to_minute in
    let (some, few) = both _ _ to_few in
    record { some = leb-true _ _ some; few = leb-true _ _ few; minute = leb-true _ _ minute; code = leb-true _ _ code; provider = leb-true _ _ provider }

-- A journal within the limits has a record.
pub some_record : (p : Passage) (bytes : ℕ) {b : Bool} → b ≡ limits p (bytes / 29) → b ≡ true → 29 ≤ bytes
some_record p bytes within inside = omega (arith, (within_limits p (bytes / 29) (sym within ∙ inside)).some)

module _ (p : Passage) (list file journal : List ℕ) {a : Bool} (agrees : a ≡ lengths p (length list) (length file) (length journal)) where
  pub wrong_lengths : {s : Selection} → a ≡ false → s ≡ unselected (refusal 1 0) → unchanged s list journal ≡ passing p list file journal
  unfolding passing chosen
  wrong_lengths wrong is = rw (← agrees, wrong, is)

  module _ (right : a ≡ true) {b : Bool} (within : b ≡ limits p (length journal / 29)) where
    pub past_limits : {s : Selection} → b ≡ false → s ≡ unselected (refusal 11 0) → unchanged s list journal ≡ passing p list file journal
    unfolding passing chosen
    past_limits past is = rw (← agrees, right, ← within, past, is)

    module _ (inside : b ≡ true) {s : Selection} (chosen : s ≡ selected list file p.n p.c p.day p.operator) where
      pub not_chosen : (s.refusal.number ≡ 0 → ⊥) → unchanged s list journal ≡ passing p list file journal
      unfolding passing chosen
      not_chosen refused = rw (← agrees, right, ← within, inside, ← chosen, ne_eqb _ _ refused)

      pub passed : s.refusal.number ≡ 0 → {code : ℕ} {r : Answer} {after past : List ℕ} {e : Event} → code ≡ used s.priority
          → record { answer = r; bytes = after } ≡ changing list p.n p.c s.position code
          → e ≡ event_for p s.pointer → past ≡ put_first (event_written (record_from journal 0) e).bytes journal
          → record { answer = s; list = after; journal = past } ≡ passing p list file journal
      unfolding passing chosen
      passed found {code} {r} {after} {past} {e} recoded changed made put =
          let bytes : after ≡ (changing list p.n p.c s.position code).bytes = ap (λ (w : Written). w.bytes) changed in
          rw (← agrees, right, ← within, inside, ← chosen, eq-eqb _ _ found, bytes, recoded, put, made)
