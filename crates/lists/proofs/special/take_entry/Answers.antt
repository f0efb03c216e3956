use mathlib.Core.List.{[], ◌∷◌}
use Rattle.rows.specs.Inner.Line.{taken}
use Rattle.lists.proofs.Listing.{take_bitmap, take_element}
use Rattle.lists.proofs.special.take_entry.Goals as goal

pub returns : goal.returns
returns c = let network = c.number-network.result.number in
    let provider = c.number-provider.result.number in
    let seriousness = c.number-seriousness.result.number in
    record {
      ready = c.number-pointer.ensures.ready;
      takes = λ seen long counted.
          take_bitmap seen _ _ long counted c.number-bitmap.ensures
          (take_element seen _ _ long counted [] c.number-network.ensures
          (take_element seen _ _ long counted (network ∷ []) c.number-provider.ensures
          (take_element seen _ _ long counted (network ∷ provider ∷ []) c.number-seriousness.ensures
          (take_element seen _ _ long counted (network ∷ provider ∷ seriousness ∷ []) c.number-pointer.ensures taken))));
    }
