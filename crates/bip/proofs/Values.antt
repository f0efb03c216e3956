-- What stands in the record for a date, for days and for an extension is told back.
use Prim.Native.Nat.{ℕ, ◌-◌, ◌/◌, ◌^◌, ◌<◌}
use mathlib.Core.Bool.{Bool, true, false}
use mathlib.Core.List.{List, [], ◌∷◌}
use mathlib.Core.Path.{◌≡◌, refl, ap, ◌∙◌}
use native.Mathlib.Omega.{arith}
use lib.Dec.{eqb, ltb}
use lib.ListN.{length, get_or}
use borrow.Author.Tests.{eqb-true, ltb-true, lt-ltb}
use Rattle.bits.specs.Bits.{number, bits_of}
use Rattle.bits.proofs.Spelling.{number-bits_of, bits_of_number}
use Rattle.rows.specs.Row.{pick}
use Rattle.records.proofs.Inverse.{from_all}
use Rattle.bip.specs.Value.{complement, days_of, byte_of, extension_of, tag_of, numbers_of, bip_of}
use Rattle.bip.specs.declared.Weekdays.{Weekdays}
use Rattle.bip.specs.declared.Extension.{Extension}
use Rattle.bip.specs.declared.Extension.TheVariants.{Nothing, Tag}
use Rattle.bip.specs.declared.BipContract.{BipContract}

complement_twice : (n : ℕ) → complement (complement n) ≡ n
complement_twice n = go (ltb n (2 ^ 24)) refl
  where
    go : (t : Bool) → ltb n (2 ^ 24) ≡ t → complement (pick t (2 ^ 24 - 1 - n) n) ≡ n
    go true e =
        let small : n < 2 ^ 24 = ltb-true n (2 ^ 24) e in
        let other : 2 ^ 24 - 1 - n < 2 ^ 24 = omega arith in
        rw (lt-ltb (2 ^ 24 - 1 - n) (2 ^ 24) other) (omega arith)
    go false e = rw e

-- The bits of the weekday byte, the highest first.
abbrev pub bits_in : Weekdays → List Bool
bits_in d = d.holidays ∷ d.sunday ∷ d.saturday ∷ d.friday ∷ d.thursday ∷ d.wednesday ∷ d.tuesday ∷ d.monday ∷ []

abbrev days_in : List Bool → Weekdays
days_in bs =
    record {
      monday = get_or bs 7 false;
      tuesday = get_or bs 6 false;
      wednesday = get_or bs 5 false;
      thursday = get_or bs 4 false;
      friday = get_or bs 3 false;
      saturday = get_or bs 2 false;
      sunday = get_or bs 1 false;
      holidays = get_or bs 0 false;
    }

pub byte_number : (d : Weekdays) → byte_of d ≡ number (bits_in d)
byte_number d = omega arith

days_bits : (n : ℕ) → bits_in (days_of n) ≡ bits_of 8 n
days_bits n =
    let a : n / 2 / 2 ≡ n / 4 = omega arith in
    let b : n / 4 / 2 ≡ n / 8 = omega arith in
    let c : n / 8 / 2 ≡ n / 16 = omega arith in
    let d : n / 16 / 2 ≡ n / 32 = omega arith in
    let e : n / 32 / 2 ≡ n / 64 = omega arith in
    let f : n / 64 / 2 ≡ n / 128 = omega arith in
    rw (a, b, c, d, e, f)

byte_days : (n : ℕ) → n < 2 ^ 8 → byte_of (days_of n) ≡ n
byte_days n small = byte_number (days_of n) ∙ ap number (days_bits n) ∙ number-bits_of 8 n small

days_byte : (d : Weekdays) → days_of (byte_of d) ≡ d
days_byte d =
    let back : bits_of 8 (byte_of d) ≡ bits_in d = rw (byte_number d) (bits_of_number (bits_in d)) in
    ap days_in (days_bits (byte_of d) ∙ back)

tag_extension : (n : ℕ) → tag_of (extension_of n) ≡ n
tag_extension n = go (eqb n 0xA000) refl
  where
    go : (t : Bool) → eqb n 0xA000 ≡ t → tag_of (pick t Nothing (Tag n)) ≡ n
    go true e = let is : n ≡ 0xA000 = eqb-true n 0xA000 e in omega arith
    go false e = rw e

-- An extension whose number fits is told back: A000h as another tag is none.
extension_tag : (e : Extension) → tag_of e < 2 ^ 16 → extension_of (tag_of e) ≡ e
extension_tag Nothing small = refl
extension_tag (Tag n) small = go (eqb n 0xA000) refl small
  where
    go : (t : Bool) → eqb n 0xA000 ≡ t → pick t (2 ^ 16) n < 2 ^ 16 → extension_of (pick t (2 ^ 16) n) ≡ Tag n
    go true e small = absurd (omega arith)
    go false e small = rw e

-- Thirteen numbers stand for a contract where the weekdays' is a byte,
pub numbers_back : (vals : List ℕ) → length vals ≡ 13 → get_or vals 8 0 < 2 ^ 8 → numbers_of (bip_of vals) ≡ vals
numbers_back vals long small =
    rw (complement_twice (get_or vals 6 0), complement_twice (get_or vals 7 0), byte_days (get_or vals 8 0) small, tag_extension (get_or vals 11 0)) (from_all 13 vals long)

-- and a contract for its numbers where its tag's fits.
pub value_back : (b : BipContract) → tag_of b.extension < 2 ^ 16 → bip_of (numbers_of b) ≡ b
value_back b small =
    rw (complement_twice b.start, complement_twice b.end, days_byte b.days, extension_tag b.extension small)
