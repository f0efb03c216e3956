use mathlib.Core.List.{[]}
use Rattle.rows.specs.Table.Contract.{data50}
use Rattle.rows.proofs.Running.{takes_append}
use Rattle.contract.specs.Contract.{head_of}
use Rattle.contract.proofs.take_urban.Goals as goal

pub take_purse-purse-requires : goal.take_purse-purse-requires
take_purse-purse-requires c = (c.take_terms-terms.ensures (head_of [])).ready

pub take_zones-zones-requires : goal.take_zones-zones-requires
take_zones-zones-requires c = (c.take_purse-purse.ensures 0 (head_of [])).ready

pub take_stops-stops-requires : goal.take_stops-stops-requires
take_stops-stops-requires c = (c.take_zones-zones.ensures 0 (head_of [])).ready

pub take_limits-requires : goal.take_limits-requires
take_limits-requires c = (c.take_stops-stops.ensures 0 (head_of [])).ready

pub returns : goal.returns
unfolding data50
returns c = λ h.
    let terms = c.take_terms-terms.ensures h in
    let purse = c.take_purse-purse.ensures _ h in
    let zones = c.take_zones-zones.ensures _ h in
    let stops = c.take_stops-stops.ensures _ h in
    let limits = c.take_limits.ensures _ h in
    record {
      takes =
          takes_append terms.takes
          (takes_append purse.takes (takes_append zones.takes (takes_append stops.takes limits.takes)));
      ready = limits.ready;
    }
