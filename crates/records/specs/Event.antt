-- Event as a value: named numbers, in the order of the table's slots, and its margin. Slot 20 is element [17], which never fits and
-- has no name.
use Rattle.std.specs.Prelude.{ℕ, List, [], ◌∷◌, ◌++◌, get_or, Result, Ok, Err}
use Rattle.rows.specs.Margin.{words_of, margin_of}
use Rattle.rows.specs.Table.Event.{event}
use Rattle.records.specs.Answer.{Answer, Written, Told, told_value, told_refusal, read_record, write_record}
use Rattle.records.specs.declared.event.Event.{Event}

abbrev pub numbers_of : Event → List ℕ
numbers_of e =
    e.date
    ∷ e.minute
    ∷ e.bitmap
    ∷ e.display_data
    ∷ e.network
    ∷ e.code
    ∷ e.result
    ∷ e.provider
    ∷ e.not_ok_counter
    ∷ e.serial
    ∷ e.destination
    ∷ e.location
    ∷ e.gate
    ∷ e.device
    ∷ e.route
    ∷ e.route_variant
    ∷ e.journey_run
    ∷ e.vehicle
    ∷ e.vehicle_class
    ∷ e.location_type
    ∷ 0
    ∷ e.location_reference
    ∷ e.interchanges
    ∷ e.period_journeys
    ∷ e.total_journeys
    ∷ e.distance
    ∷ e.price
    ∷ e.price_unit
    ∷ e.pointer
    ∷ e.authenticator
    ∷ e.data_bitmap
    ∷ e.first_date
    ∷ e.first_minute
    ∷ e.simulation
    ∷ e.trip
    ∷ e.direction
    ∷ []

abbrev pub event_of : List ℕ → List ℕ → Event
event_of vals margin =
    record {
      date = get_or vals 0 0;
      minute = get_or vals 1 0;
      bitmap = get_or vals 2 0;
      display_data = get_or vals 3 0;
      network = get_or vals 4 0;
      code = get_or vals 5 0;
      result = get_or vals 6 0;
      provider = get_or vals 7 0;
      not_ok_counter = get_or vals 8 0;
      serial = get_or vals 9 0;
      destination = get_or vals 10 0;
      location = get_or vals 11 0;
      gate = get_or vals 12 0;
      device = get_or vals 13 0;
      route = get_or vals 14 0;
      route_variant = get_or vals 15 0;
      journey_run = get_or vals 16 0;
      vehicle = get_or vals 17 0;
      vehicle_class = get_or vals 18 0;
      location_type = get_or vals 19 0;
      location_reference = get_or vals 21 0;
      interchanges = get_or vals 22 0;
      period_journeys = get_or vals 23 0;
      total_journeys = get_or vals 24 0;
      distance = get_or vals 25 0;
      price = get_or vals 26 0;
      price_unit = get_or vals 27 0;
      pointer = get_or vals 28 0;
      authenticator = get_or vals 29 0;
      data_bitmap = get_or vals 30 0;
      first_date = get_or vals 31 0;
      first_minute = get_or vals 32 0;
      simulation = get_or vals 33 0;
      trip = get_or vals 34 0;
      direction = get_or vals 35 0;
      margin = margin_of margin;
    }

-- The answer to a reading.
abbrev pub EventRead : Type 0
EventRead = Result Event Answer

-- The cases of the answer, each by its number, its place, its field and its values.
abbrev pub event_told : EventRead → Told
event_told (Ok e) = told_value (numbers_of e ++ words_of e.margin)
event_told (Err r) = told_refusal 40 r

abbrev pub event_read : List ℕ → EventRead
event_read bytes = read_record (λ vals margin. Ok (event_of vals margin)) Err event bytes

abbrev pub event_written : List ℕ → Event → Written
event_written before e = write_record event (numbers_of e) (words_of e.margin) before
