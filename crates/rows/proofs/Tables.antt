-- The tables, held to figures of documents 01 and 02 and of 004: how many numbers each has, how wide they are at most, how many
-- rows, and which slots their conditions refer to.
use Rattle.std.proofs.Common.{◌≡◌, ℕ, ◌+◌, [], ◌∷◌, ◌++◌, length, take, drop, replicate, refl}
use Rattle.rows.specs.Row.{bit, box, box_most}
use Rattle.rows.specs.Walk.{slots}
use Rattle.rows.specs.Refusing.{widest}
use Rattle.rows.specs.Raise.{named}
use Rattle.rows.specs.declared.Rule.TheVariants.{NoSecond}
use Rattle.rows.specs.Table.Environment.{environment}
use Rattle.rows.specs.Table.Holder.{holder}
use Rattle.rows.specs.Table.Event.{event}
use Rattle.rows.specs.Table.Special.{special_list}
use Rattle.rows.specs.Table.BestContracts.{contract_list}
use Rattle.rows.specs.Table.Contract.{head, data42, data50, contract42, contract50}

environment_size : (slots environment ≡ 10) × (widest environment ≡ 121)
unfolding environment
environment_size = (refl, refl)

-- Document 01: a Holder uses at most 867 bits.
holder_size : (slots holder ≡ 111) × (widest holder ≡ 867)
unfolding holder
holder_size = (refl, refl)

-- 28 elements; without the one that never fits they are 373 bits behind date, minute and bitmap.
event_size : (slots event ≡ 36) × (widest event ≡ 53 + 240 + 373)
unfolding event
event_size = (refl, refl)

special_size : (slots special_list ≡ 21) × (widest special_list ≡ 4 + 43 + 43 + 43 + 43)
unfolding special_list
special_size = (refl, refl)

-- An entry with a network is 48 bits, so that four take 196 bits and five, 244, do not fit.
list_size : (n : ℕ) → (slots (contract_list n) ≡ 49) × (widest (contract_list n) ≡ 244 + 48 + 48 + 48)
unfolding contract_list
list_size n = (refl, refl)

-- 004: a carnet with every field is 208 bits.
carnet_size : (slots contract42 ≡ 18) × (widest contract42 ≡ 208)
unfolding head data42 contract42
carnet_size = (refl, refl)

urban_size : slots contract50 ≡ 45
unfolding head data50 contract50
urban_size = refl

-- Document 02, Q-2: the ranks of the fields are 0 to 9, 40, 35, 20, 32, 8 in a contract's head, 17 and 44.
pub environment_rows : length environment ≡ 10
unfolding environment
environment_rows = refl

pub holder_rows : length holder ≡ 41
unfolding holder
holder_rows = refl

pub event_rows : length event ≡ 36
unfolding event
event_rows = refl

pub special_rows : length special_list ≡ 21
unfolding special_list
special_rows = refl

pub list_rows : (n : ℕ) → length (contract_list n) ≡ 33
unfolding contract_list
list_rows n = refl

pub head_rows : length head ≡ 9
unfolding head
head_rows = refl

pub carnet_rows : length contract42 ≡ 18
unfolding head data42 contract42
carnet_rows = refl

pub urban_rows : length contract50 ≡ 45
unfolding head data50 contract50
urban_rows = refl

-- EnvData is field 8; a Holder's profile count 11 and data bitmap 28; an Event's element [17] 20 and [27]'s bitmap 30.
environment_ranks : take 1 (drop 8 environment) ≡ record { boxes = 2 ∷ []; cond = bit 1 6; rule = NoSecond } ∷ []
unfolding environment
environment_ranks = refl

holder_ranks : (take 1 (drop 11 holder) ≡ box_most 4 4 (bit 0 6) ∷ []) × (take 1 (drop 28 holder) ≡ box 12 (bit 0 7) ∷ [])
unfolding holder
holder_ranks = (refl, refl)

event_ranks : (take 1 (drop 20 event) ≡ box 240 (bit 2 17) ∷ []) × (take 1 (drop 30 event) ≡ box 5 (bit 2 27) ∷ [])
unfolding event
event_ranks = (refl, refl)

-- What a gate must not touch in a contract: the bitmaps of the head, of the validity and of the 50h groups.
carnet_bitmaps : named contract42 ≡ replicate 5 0 ++ (5 ∷ 5 ∷ replicate 10 0)
unfolding head data42 contract42
carnet_bitmaps = refl

urban_bitmaps : named contract50 ≡ replicate 5 0 ++ (5 ∷ 5 ∷ (replicate 6 0 ++ replicate 31 13))
unfolding head data50 contract50
urban_bitmaps = refl
