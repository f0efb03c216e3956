use Rattle.std.proofs.Common.{Option, Result, Ok, Err, OnErr, ◌≡◌, ℕ, ◌+◌, ◌≤◌, List, ◌++◌, rules, arith, length, take, sym, ap, ◌∙◌, subst, le_refl, drop_at, length-take-le}
use Rattle.std.proofs.lemmas.Slice.{take-put_mid_below}
use Rattle.std.specs.Io.KnownBytes.{Consumes}
use Rattle.std.proofs.KnownBytes.{Consumes-trans, Consumes-kept}
use borrow.Rule.Slice.PartMut.{put_mid, post_of}
use lib.Seq.{take-add, take-append-le}
use Rattle.input.proofs.read_full.Goals as goal

-- Where a part is put at a place, what stands before it and the part's first bytes are the first bytes of the whole.
joined : (at room n : ℕ) (old part : List ℕ) → at ≤ length old → n ≤ length part
    → take at old ++ take n part ≡ take (at + n) (put_mid at room old part)
joined at room n old part within fits =
    let whole = put_mid at room old part in
    let front = take-put_mid_below at room old part at (le_refl at) within in
    let behind = drop_at (take at old) (part ++ post_of at room old) at (length-take-le at old within) in
    ap (λ (l : List ℕ). l ++ take n part) (sym front)
    ∙ ap (λ (l : List ℕ). take at whole ++ l) (sym (take-append-le n part (post_of at room old) fits) ∙ ap (take n) (sym behind))
    ∙ sym (take-add at n whole)

pub loop-done-preserved : goal.loop-done-preserved
loop-done-preserved g c =
    let gave = joined _ _ _ _ _ c.loop-done.invariant.0 c.in_ok-n.ensures.bound.0 in
    (search rules, search rules, subst (Consumes _ _) gave (Consumes-trans _ _ _ _ _ c.loop-done.invariant.2 c.in_ok-n.ensures.bytes.0))

none_more : (a b : Option (List ℕ)) (at n : ℕ) (whole : List ℕ) → n ≡ 0 → Consumes a b (take (at + n) whole) → Consumes a b (take at whole)
none_more a b at n whole none all = let here : at + n ≡ at = omega arith in rw here at all

pub returns-then-n-eq0-clause-bytes : goal.returns-then-n-eq0-clause-bytes
returns-then-n-eq0-clause-bytes g c =
    let gave = joined _ _ _ _ _ c.loop-done.invariant.0 c.in_ok-n.ensures.bound.0 in
    none_more _ _ _ _ _ c.if-n-eq0.true (subst (Consumes _ _) gave (Consumes-trans _ _ _ _ _ c.loop-done.invariant.2 c.in_ok-n.ensures.bytes.0))

-- What was put before holds at an error.
at_err : {E : Type 0} (r : Result ℕ E) (a b : Option (List ℕ)) (whole : List ℕ) (at : ℕ) → at ≤ length whole → Consumes a b (take at whole)
    → OnErr r ((k : ℕ) × (k ≤ length whole) × Consumes a b (take k whole))
at_err (Ok n) a b whole at within gave = tt
at_err (Err e) a b whole at within gave = (at, within, gave)

pub returns-in_err-n-clause-fault : goal.returns-in_err-n-clause-fault
returns-in_err-n-clause-fault g c =
    let kept = take-put_mid_below _ _ _ _ _ (le_refl _) c.loop-done.invariant.0 in
    at_err _ _ _ _ c.loop-done.done (search rules) (subst (Consumes _ _) (sym kept) (Consumes-kept _ _ _ _ c.loop-done.invariant.2 c.in_err-n.ensures.bytes))
