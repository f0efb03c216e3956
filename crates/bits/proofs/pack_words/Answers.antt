use Prim.Native.Nat.{ℕ, zero, suc, ◌+◌, ◌*◌, ◌/◌, ◌%◌, ◌^◌, ◌-◌, ◌<◌, ◌≤◌}
use mathlib.Core.List.{List}
use mathlib.Core.Logic.{inl, inr}
use mathlib.Core.Path.{◌≡◌, sym, ◌∙◌}
use native.Mathlib.Omega.{arith}
use lib.ListN.{length, get_or}
use borrow.Rule.Slice.PartMut.{put_mid}
use Rattle.std.specs.Int.{w32, to_be_bytes}
use Rattle.std.proofs.lemmas.Bool.{cases_lt}
use Rattle.std.proofs.lemmas.List.{places}
use Rattle.bits.proofs.Fronts.{part}
use Rattle.bits.proofs.Cutting.{draft_byte, cut_at}
use Rattle.bits.proofs.pack_words.Goals as goal

-- The bytes of a number, of which the low 32 bits are taken.
word_bytes : (n i : ℕ) → i < 4 → get_or (to_be_bytes w32 (n % 2 ^ 32)) i 0 ≡ n / 2 ^ (24 - 8 * i) % 2 ^ 8
word_bytes n zero h = omega arith
word_bytes n (suc zero) h = omega arith
word_bytes n (suc (suc zero)) h = omega arith
word_bytes n (suc (suc (suc zero))) h = omega arith
word_bytes n (suc (suc (suc (suc i)))) h = absurd (omega arith)

-- Four bytes more.
put_more : (f : ℕ → ℕ) (a m : ℕ) (xs ys : List ℕ) → a + 4 ≤ length xs → length ys ≡ 4 → ((k : ℕ) → k < a → get_or xs k 0 ≡ f k)
    → ((i : ℕ) → i < 4 → get_or ys i 0 ≡ f (a + i)) → (k : ℕ) → k < a + 4 → get_or (put_mid a m xs ys) k 0 ≡ f k
put_more f a m xs ys l e below here k h =
    elim (cases_lt k a) [
      | inl b ↦ grind (arith, places, below k b)
      | inr b ↦
          let there : a + (k - a) ≡ k = omega arith in
          let put : get_or ys (k - a) 0 ≡ f (a + (k - a)) = here (k - a) (omega arith) in
          grind (arith, places, rw there at put)
    ]

pub loop-j-preserved : goal.loop-j-preserved
loop-j-preserved c out e k h =
    let s = c.loop-j in
    let four = c.copy_from_slice.ensures.after ∙ c.to_be_bytes.ensures in
    put_more (λ (k : ℕ). part 8 (8 * k) out) (4 * s.j) _ s.bytes _ (omega arith) (rw four) (s.invariant out e)
    (λ i l.
    let place : (4 * s.j + i) / 4 ≡ s.j = omega arith in
    let within : (4 * s.j + i) % 4 ≡ i = omega arith in
    rw four (word_bytes _ i l ∙ rw (place, within) at (draft_byte _ out e (4 * s.j + i) (omega arith))))
    k (omega arith)

pub returns-clause-bytes_after : goal.returns-clause-bytes_after
returns-clause-bytes_after c out e k h = c.loop-j.invariant out e k (omega arith) ∙ sym (cut_at 8 8 _ k out (omega arith))
