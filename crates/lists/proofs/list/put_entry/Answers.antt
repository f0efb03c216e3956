use mathlib.Core.List.{[], ◌∷◌}
use mathlib.Core.Path.{refl}
use Rattle.rows.specs.Inner.Line.{given}
use Rattle.lists.proofs.Listing.{put_bitmap, put_element}
use Rattle.lists.proofs.list.put_entry.Goals as goal

pub returns : goal.returns
returns c = let e = c.args.e in
    record {
      ready = c.number.ensures.ready;
      puts = λ vals seen rest long counted split.
          put_bitmap vals seen _ _ long counted split c.number-bitmap.ensures
          (put_element vals seen _ _ long counted [] _ split refl c.number-network.ensures
          (put_element vals seen _ _ long counted (e.network ∷ []) _ split refl c.tariff-tariff.ensures
          (put_element vals seen _ _ long counted (e.network ∷ e.key ∷ e.kind ∷ e.priority ∷ []) _ split refl c.number.ensures given)));
    }
