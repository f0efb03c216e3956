use native.Mathlib.Omega.{arith}
use Rattle.rows.specs.Inner.Line.{given}
use Rattle.rows.specs.Table.Holder.{holder}
use Rattle.rows.proofs.Running.{puts_append}
use Rattle.holder.proofs.Profiles.{putting_more, putting_all}
use Rattle.holder.proofs.put_fields.Goals as goal

pub loop-k-init : goal.loop-k-init
loop-k-init c = record { upto = omega arith; ready = c.put_identity-c.ensures.ready; puts = given }

pub loop-k-preserved : goal.loop-k-preserved
loop-k-preserved c = putting_more c.loop-k.invariant _ _ c.loop-k-test.true c.put_profile-c.ensures

pub returns : goal.returns
unfolding holder
returns c =
    record {
      puts =
          puts_append c.put_person-person.ensures.puts
          (puts_append c.put_identity-c.ensures.puts
          (puts_append (putting_all c.loop-k.invariant (omega arith)) c.put_data.ensures.puts));
      ready = c.put_data.ensures.ready;
    }
