use mathlib.Core.List.{[], ◌∷◌}
use Rattle.rows.specs.Inner.Line.{taken}
use Rattle.lists.proofs.Listing.{take_bitmap, take_element}
use Rattle.lists.proofs.list.take_entry.Goals as goal

pub returns : goal.returns
returns c =
    let network = c.number-network.result.number in
    let rest = c.take_rest-behind.result.value in
    let took = c.take_rest-behind.ensures in
    record {
      ready = took.pointer.ready;
      takes = λ seen long counted.
          take_bitmap seen _ _ long counted c.number-bitmap.ensures
          (take_element seen _ _ long counted [] c.number-network.ensures
          (take_element seen _ _ long counted (network ∷ []) took.tariff
          (take_element seen _ _ long counted (network ∷ rest.key ∷ rest.kind ∷ rest.priority ∷ []) took.pointer taken)));
    }
