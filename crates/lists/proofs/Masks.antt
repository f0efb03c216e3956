-- Masks of pointers: their bits, one more and one less, and the part of the lowest.
use Prim.Native.Nat.{ℕ, zero, suc, ◌+◌, ◌-◌, ◌*◌, ◌/◌, ◌%◌, ◌^◌, ◌≤◌, ◌<◌}
use mathlib.Core.Bool.{Bool, true, false, not, ◌&&◌, true≢false}
use mathlib.Core.Path.{◌≡◌, refl, sym, ◌∙◌}
use native.Mathlib.Omega.{arith}
use native.Mathlib.Nat.{pow-succ', zero-mod}
use lib.Dec.{eqb, leb}
use lib.Pow.{shr-shr, shl_exact, mod-pow-add}
use borrow.Author.Tests.{eqb-true, eqb-false, le-leb, lt-leb, leb-true}
use Rattle.std.specs.Int.{from_bool}
use Rattle.bits.specs.Bits.{bit, odd}
use Rattle.rows.specs.Row.{pick}
use Rattle.rows.proofs.Margins.{both}
use Rattle.lists.specs.Tally.{mask}

-- Half of a number has its bits but the last.
pub half : (u q : ℕ) → u / 2 ^ suc q ≡ u / 2 / 2 ^ q
half u q = let up : 1 + q ≡ suc q = omega arith in sym (rw up at (shr-shr u 1 q))

-- A number that has a bit is no less than that bit.
pub bit_le : (u p : ℕ) → u / 2 ^ p % 2 ≡ 1 → 2 ^ p ≤ u
bit_le u zero h = omega arith
bit_le u (suc p) h = let below : 2 ^ p ≤ u / 2 = bit_le (u / 2) p (rw (half u p) at h) in rw (pow-succ' 2 p) (omega arith)

-- A bit that a number of w bits lacks can be added in these.
pub bit_fits : (w u p : ℕ) → p < w → u / 2 ^ p % 2 ≡ 0 → u < 2 ^ w → u + 2 ^ p < 2 ^ w
bit_fits zero u p small off fits = absurd (omega arith)
bit_fits (suc w) u zero small off fits = rw (pow-succ' 2 w) (omega (arith, rw (pow-succ' 2 w) at fits))
bit_fits (suc w) u (suc p) small off fits =
    let under : u < 2 * 2 ^ w = rw (pow-succ' 2 w) at fits in
    let rest : u / 2 + 2 ^ p < 2 ^ w = bit_fits w (u / 2) p (omega arith) (rw (half u p) at off) (omega arith) in
    rw (pow-succ' 2 w, pow-succ' 2 p) (omega arith)

-- A shift of 1 in 32 bits.
pub shifted : (p : ℕ) → p < 32 → 1 * 2 ^ p % 4294967296 ≡ 2 ^ p
shifted p small =
    let own : 1 * 2 ^ p ≡ 2 ^ p = omega arith in
    shl_exact {a = 1} 1 p 32 (omega arith) (omega arith) ∙ own

-- A bit is at most 1, and the number of a test.
pub bit_most : (t : Bool) → bit t ≤ 1
bit_most true = omega arith
bit_most false = omega arith

pub from_bit : (t : Bool) → from_bool t ≡ bit t
from_bit true = refl
from_bit false = refl

-- A bit of a mask is its pointer's test.
mask_get : (n k p : ℕ) (f : ℕ → Bool) → k < n → odd (mask n p f / 2 ^ k) ≡ f (p + k)
mask_get zero k p f h = absurd (omega arith)
mask_get (suc n) zero p f h = let here : p + 0 ≡ p = omega arith in rw here (go (f p) (mask n (suc p) f))
  where
    go : (t : Bool) (m : ℕ) → odd ((bit t + 2 * m) / 2 ^ 0) ≡ t
    go true m = let one : (1 + 2 * m) / 2 ^ 0 % 2 ≡ 1 = omega arith in rw one
    go false m = let none : (0 + 2 * m) / 2 ^ 0 % 2 ≡ 0 = omega arith in rw none
mask_get (suc n) (suc k) p f h =
    let down : (bit (f p) + 2 * mask n (suc p) f) / 2 ≡ mask n (suc p) f = omega (arith, bit_most (f p)) in
    let up : suc p + k ≡ p + suc k = omega arith in
    rw (half (mask (suc n) p f) k, down, ← up) (mask_get n k (suc p) f (omega arith))

pub mask_bit : (n q : ℕ) (f : ℕ → Bool) → 1 ≤ q → q ≤ n → odd (mask n 1 f / 2 ^ (q - 1)) ≡ f q
mask_bit n q f low high = let up : 1 + (q - 1) ≡ q = omega arith in rw up at (mask_get n (q - 1) 1 f (omega arith))

-- Tests that agree give the same mask;
pub mask_same : (n p : ℕ) (f g : ℕ → Bool) → ((q : ℕ) → p ≤ q → q < p + n → f q ≡ g q) → mask n p f ≡ mask n p g
mask_same zero p f g same = refl
mask_same (suc n) p f g same =
    rw (same p (omega arith) (omega arith), mask_same n (suc p) f g (λ q low high. same q (omega arith) (omega arith)))

-- and those that agree but at a pointer, masks that differ by its bit.
pub mask_more : (n p q : ℕ) (f g : ℕ → Bool) → p ≤ q → q < p + n → f q ≡ false → g q ≡ true → ((r : ℕ) → (r ≡ q → ⊥) → f r ≡ g r)
    → mask n p g ≡ mask n p f + 2 ^ (q - p)
mask_more zero p q f g low high off on same = absurd (omega arith)
mask_more (suc n) p q f g low high off on same = go (eqb p q) refl (mask_more n (suc p) q f g)
  where
    go : (t : Bool) → eqb p q ≡ t
        → (suc p ≤ q → q < suc p + n → f q ≡ false → g q ≡ true → ((r : ℕ) → (r ≡ q → ⊥) → f r ≡ g r) → mask n (suc p) g ≡ mask n (suc p) f + 2 ^ (q - suc p))
        → bit (g p) + 2 * mask n (suc p) g ≡ bit (f p) + 2 * mask n (suc p) f + 2 ^ (q - p)
    go true e rest =
        let here : p ≡ q = eqb-true p q e in
        let own : q - p ≡ 0 = omega arith in
        rw (own, here, off, on, mask_same n (suc q) f g (λ r low high. same r (λ e. omega arith))) (omega arith)
    go false e rest =
        let other : p ≡ q → ⊥ = eqb-false p q e in
        let down : q - p ≡ suc (q - suc p) = omega arith in
        rw (same p other, down, pow-succ' 2 (q - suc p)) (omega (arith, rest (omega arith) (omega arith) off on same))

-- The pointers that have a bit.
pub inside : (n q : ℕ) → leb 1 q && leb q n ≡ true → (1 ≤ q) × (q ≤ n)
inside n q e = let (low, high) = both (leb 1 q) _ e in (leb-true _ _ low, leb-true _ _ high)

-- A mask with one pointer's test changed has that bit raised or lowered.
module _ (n q : ℕ) (f g : ℕ → Bool) (same : (r : ℕ) → (r ≡ q → ⊥) → f r ≡ g r) where
  pub mask_kept : f q ≡ g q → mask n 1 g ≡ mask n 1 f
  mask_kept here = mask_same n 1 g f (λ r low high. go r (eqb r q) refl)
    where
      go : (r : ℕ) (t : Bool) → eqb r q ≡ t → g r ≡ f r
      go r true e = rw (eqb-true r q e) (sym here)
      go r false e = sym (same r (eqb-false r q e))

  mask_outside : leb 1 q && leb q n ≡ false → mask n 1 g ≡ mask n 1 f
  mask_outside out =
      mask_same n 1 g f (λ r low high.
      sym (same r (λ here.
      let first : leb 1 q ≡ true = le-leb 1 q (omega arith) in
      let last : leb q n ≡ true = le-leb q n (omega arith) in
      true≢false (rw (first, last) at out))))

  bit_inside : leb 1 q && leb q n ≡ true → odd (mask n 1 f / 2 ^ (q - 1)) ≡ f q
  bit_inside e = let (low, high) = inside n q e in mask_bit n q f low high

  pub mask_raised : g q ≡ true → mask n 1 g ≡ pick (leb 1 q && leb q n && not (odd (mask n 1 f / 2 ^ (q - 1)))) (mask n 1 f + 2 ^ (q - 1)) (mask n 1 f)
  mask_raised on = go (leb 1 q && leb q n) refl (f q) refl
    where
      go : (t : Bool) → leb 1 q && leb q n ≡ t → (b : Bool) → f q ≡ b
          → mask n 1 g ≡ pick (t && not (odd (mask n 1 f / 2 ^ (q - 1)))) (mask n 1 f + 2 ^ (q - 1)) (mask n 1 f)
      go false out b h = mask_outside out
      go true e true h = rw (bit_inside e ∙ h) (mask_kept (h ∙ sym on))
      go true e false h = let (low, high) = inside n q e in rw (bit_inside e ∙ h) (mask_more n 1 q f g low (omega arith) h on same)

  pub mask_lowered : g q ≡ false → mask n 1 g ≡ pick (leb 1 q && leb q n && odd (mask n 1 f / 2 ^ (q - 1))) (mask n 1 f - 2 ^ (q - 1)) (mask n 1 f)
  mask_lowered off = go (leb 1 q && leb q n) refl (f q) refl
    where
      go : (t : Bool) → leb 1 q && leb q n ≡ t → (b : Bool) → f q ≡ b
          → mask n 1 g ≡ pick (t && odd (mask n 1 f / 2 ^ (q - 1))) (mask n 1 f - 2 ^ (q - 1)) (mask n 1 f)
      go false out b h = mask_outside out
      go true e true h =
          let (low, high) = inside n q e in
          rw (bit_inside e ∙ h) (omega (arith, mask_more n 1 q g f low (omega arith) off h (λ r other. sym (same r other))))
      go true e false h = rw (bit_inside e ∙ h) (mask_kept (h ∙ sym off))

-- The pointers of a kind, and the others.
pub mask_split : (n p : ℕ) (kind f : ℕ → Bool) → mask n p (λ q. kind q && f q) + mask n p (λ q. not (kind q) && f q) ≡ mask n p f
mask_split zero p kind f = refl
mask_split (suc n) p kind f = omega (arith, mask_split n (suc p) kind f, go (kind p) (f p))
  where
    go : (k t : Bool) → bit (k && t) + bit (not k && t) ≡ bit t
    go true t = omega arith
    go false t = omega arith

mask_none : (n p : ℕ) (f : ℕ → Bool) → ((q : ℕ) → p ≤ q → f q ≡ false) → mask n p f ≡ 0
mask_none zero p f off = refl
mask_none (suc n) p f off = rw (off p (omega arith), mask_none n (suc p) f (λ q low. off q (omega arith)))

-- The lowest bits of a number with a bit behind it.
low_bits : (b m c : ℕ) → b ≤ 1 → (b + 2 * m) % 2 ^ suc c ≡ b + 2 * (m % 2 ^ c)
low_bits b m c small =
    let up : c + 1 ≡ suc c = omega arith in
    let rest : (b + 2 * m) / 2 ^ 1 ≡ m = omega arith in
    let last : (b + 2 * m) % 2 ^ 1 ≡ b = omega arith in
    rw (rest, last, up) at (mod-pow-add (b + 2 * m) c 1) ∙ omega arith

-- The part of the lowest c pointers of a mask.
low_from : (n p c : ℕ) (f : ℕ → Bool) → mask n (suc p) (λ q. leb q (p + c) && f q) ≡ mask n (suc p) f % 2 ^ c
low_from n p zero f =
    let none : mask n (suc p) f % 2 ^ 0 ≡ 0 = omega arith in
    mask_none n (suc p) (λ q. leb q (p + 0) && f q) (λ q low. let past : p + 0 < q = omega arith in rw (lt-leb q (p + 0) past)) ∙ sym none
low_from zero p (suc c) f = sym (zero-mod (2 ^ suc c))
low_from (suc n) p (suc c) f =
    let first : leb (suc p) (p + suc c) ≡ true = le-leb (suc p) (p + suc c) (omega arith) in
    let on : p + suc c ≡ suc p + c = omega arith in
    rw (first, on, low_from n (suc p) c f) (sym (low_bits (bit (f (suc p))) (mask n (suc (suc p)) f) c (bit_most (f (suc p)))))

pub mask_low : (n c : ℕ) (f : ℕ → Bool) → mask n 1 (λ q. leb q c && f q) ≡ mask n 1 f % 2 ^ c
mask_low n c f = let none : 0 + c ≡ c = omega arith in rw none at (low_from n 0 c f)
