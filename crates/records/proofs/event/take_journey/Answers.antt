use lib.Dec.{lit≤}
use Rattle.rows.specs.Inner.Line.{taken, ◌▸◌}
use Rattle.rows.specs.Table.Event.{event}
use Rattle.records.proofs.event.take_journey.Goals as goal

pub number-location_reference-requires : goal.number-location_reference-requires
number-location_reference-requires c = ((c.never-employee.ensures _ c.number-location_type.ensures.ready.covered).ready, lit≤ tt)

pub returns : goal.returns
unfolding event
returns c =
    record {
      takes =
          c.number-gate.ensures
          ▸ c.number-device.ensures
          ▸ c.number-route.ensures
          ▸ c.number-route_variant.ensures
          ▸ c.number-journey_run.ensures
          ▸ c.number-vehicle.ensures
          ▸ c.number-vehicle_class.ensures
          ▸ c.number-location_type.ensures
          ▸ c.never-employee.ensures _ c.number-location_type.ensures.ready.covered
          ▸ c.number-location_reference.ensures
          ▸ c.number-interchanges.ensures
          ▸ c.number-period_journeys.ensures
          ▸ taken;
      ready = c.number-period_journeys.ensures.ready;
    }
