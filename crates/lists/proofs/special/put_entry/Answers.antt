use mathlib.Core.List.{[], ◌∷◌}
use mathlib.Core.Path.{refl, ◌∙◌}
use Rattle.rows.specs.Inner.Line.{given}
use Rattle.lists.proofs.Listing.{put_bitmap, put_element}
use Rattle.lists.proofs.special.put_entry.Goals as goal

pub shape_of-draft : goal.shape_of-draft
shape_of-draft c = c.number.auto.draft
    ∙ c.number-seriousness.auto.draft
    ∙ c.number-provider.auto.draft
    ∙ c.number-network.auto.draft
    ∙ c.number-bitmap.auto.draft

pub returns : goal.returns
returns c = let e = c.args.e in
    record {
      ready = c.number.ensures.ready;
      puts = λ vals seen rest long counted split.
          put_bitmap vals seen _ _ long counted split c.number-bitmap.ensures
          (put_element vals seen _ _ long counted [] _ split refl c.number-network.ensures
          (put_element vals seen _ _ long counted (e.network ∷ []) _ split refl c.number-provider.ensures
          (put_element vals seen _ _ long counted (e.network ∷ e.provider ∷ []) _ split refl c.number-seriousness.ensures
          (put_element vals seen _ _ long counted (e.network ∷ e.provider ∷ e.seriousness ∷ []) _ split refl c.number.ensures given))));
    }
