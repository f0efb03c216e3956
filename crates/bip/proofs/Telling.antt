-- What the answer to a reading tells is the whole of it: answers that tell the same are equal.
use Prim.Native.Nat.{ℕ}
use mathlib.Core.Bool.{Bool, true, false}
use mathlib.Core.List.{List}
use mathlib.Core.Path.{◌≡◌, refl}
use lib.Dec.{eqb}
use lib.ListN.{get_or}
use Rattle.bits.specs.Bits.{bit, odd}
use Rattle.rows.specs.Row.{pick}
use Rattle.records.specs.Answer.{Told, refusal_at}
use Rattle.records.proofs.Telling.{told_one}
use Rattle.bip.specs.Value.{BipRead, tagged, carried, bip_told}
use Rattle.bip.specs.declared.Extension.{Extension}
use Rattle.bip.specs.declared.Extension.TheVariants.{Nothing, Tag}
use Rattle.std.specs.Prelude.{Ok, Err}

abbrev bip_back : Told → BipRead
bip_back t =
    let vals : List ℕ = t.values in
    pick t.holds
    (Ok
    (record {
      company = get_or vals 0 0;
      format = get_or vals 1 0;
      rfu = get_or vals 2 0;
      extra_tariff = get_or vals 3 0;
      tariff = get_or vals 4 0;
      serial = get_or vals 5 0;
      start = get_or vals 6 0;
      end = get_or vals 7 0;
      days =
          record {
            monday = odd (get_or vals 8 0);
            tuesday = odd (get_or vals 9 0);
            wednesday = odd (get_or vals 10 0);
            thursday = odd (get_or vals 11 0);
            friday = odd (get_or vals 12 0);
            saturday = odd (get_or vals 13 0);
            sunday = odd (get_or vals 14 0);
            holidays = odd (get_or vals 15 0);
          };
      sam_serial = get_or vals 16 0;
      sam_counter = get_or vals 17 0;
      extension = pick (eqb (get_or vals 18 0) 0) Nothing (Tag (get_or vals 19 0));
      mac = get_or vals 20 0;
    }))
    (Err (refusal_at t.number t.place t.field))

odd_bit_back : (b : Bool) → odd (bit b) ≡ b
odd_bit_back true = refl
odd_bit_back false = refl

extension_back : (e : Extension) → pick (eqb (tagged e) 0) Nothing (Tag (carried e)) ≡ e
extension_back Nothing = refl
extension_back (Tag n) = refl

bip_returned : (r : BipRead) → bip_back (bip_told r) ≡ r
bip_returned (Ok b) =
    rw (
      odd_bit_back b.days.monday,
      odd_bit_back b.days.tuesday,
      odd_bit_back b.days.wednesday,
      odd_bit_back b.days.thursday,
      odd_bit_back b.days.friday,
      odd_bit_back b.days.saturday,
      odd_bit_back b.days.sunday,
      odd_bit_back b.days.holidays,
      extension_back b.extension,
    )
bip_returned (Err r) = refl

pub bip_one : (r s : BipRead) → bip_told r ≡ bip_told s → r ≡ s
bip_one = told_one bip_told bip_back bip_returned
