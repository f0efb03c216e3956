-- The samples hold, each by computing both sides.
use mathlib.Core.Path.{refl}
use Rattle.rows.specs.Walk.{field, blank, read, read_bare, frame, write, write_bare}
use Rattle.rows.specs.Table.Event.{event}
use Rattle.rows.specs.Table.Special.{special_list}
use Rattle.rows.specs.Table.BestContracts.{contract_list}
use Rattle.rows.specs.Table.Contract.{head, data42, data50, contract42, contract50}
use Rattle.records.specs.Answer.{read_record, write_record}
use Rattle.lists.specs.Listing.{read_list, write_list}
use Rattle.lists.specs.Tally.{tally_of}
use Rattle.loading.specs.Loading.{blocking, placing, finding as preparing, loading}
use Rattle.selection.specs.Selection.{selecting, selected, changing}
use Rattle.gate.specs.Writes.{finding}
use Rattle.passage.specs.Passage.{chosen, passing}
use Rattle.bip.specs.Table.{bip}
use Rattle.samples.specs.All.{All, ◌&◌}
use Rattle.samples.specs.Samples.{Holds, samples}

pub samples_hold : All Holds samples
unfolding samples field blank read read_bare frame write write_bare event special_list contract_list head data42 data50 contract42 contract50 bip read_record write_record read_list write_list tally_of blocking placing preparing loading finding selecting selected changing chosen passing
samples_hold =
    -- P1 and P2
    refl & refl
    -- Q-8
    & refl & refl & refl & refl & refl
    -- P3 to P6
    & refl & refl & (refl, refl) & (refl, refl) & refl
    -- P7 to P10
    & refl & refl & refl & refl & refl & refl & refl
    -- Q-7
    & refl & refl & refl & refl
    -- P11 to P13
    & refl & refl & refl & refl
    -- Q-3
    & refl & refl & refl & refl & refl & refl & refl
    -- Q-1
    & refl & refl & refl & refl
    -- Q-4
    & refl & refl & refl & refl & refl
    -- slips
    & (refl, refl) & refl
    -- 004
    & refl & (refl, refl) & (refl, refl) & (refl, refl)
    & tt
