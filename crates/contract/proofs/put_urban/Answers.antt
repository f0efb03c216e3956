use mathlib.Core.List.{[]}
use Rattle.rows.specs.Table.Contract.{data50}
use Rattle.rows.proofs.Running.{puts_append}
use Rattle.contract.specs.Contract.{head_of}
use Rattle.contract.proofs.put_urban.Goals as goal

pub put_purse-purse-requires : goal.put_purse-purse-requires
put_purse-purse-requires c = (c.put_terms-terms.ensures (head_of [])).ready

pub put_zones-zones-requires : goal.put_zones-zones-requires
put_zones-zones-requires c = (c.put_purse-purse.ensures 0 (head_of [])).ready

pub put_stops-stops-requires : goal.put_stops-stops-requires
put_stops-stops-requires c = (c.put_zones-zones.ensures 0 (head_of [])).ready

pub put_limits-requires : goal.put_limits-requires
put_limits-requires c = (c.put_stops-stops.ensures 0 (head_of [])).ready

pub returns : goal.returns
unfolding data50
returns c = λ h.
    let terms = c.put_terms-terms.ensures h in
    let purse = c.put_purse-purse.ensures _ h in
    let zones = c.put_zones-zones.ensures _ h in
    let stops = c.put_stops-stops.ensures _ h in
    let limits = c.put_limits.ensures _ h in
    record {
      puts = puts_append terms.puts (puts_append purse.puts (puts_append zones.puts (puts_append stops.puts limits.puts)));
      ready = limits.ready;
    }
