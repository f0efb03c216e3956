-- Environment: what was read, written onto any record, is the same bytes; what was written, read again, is the same value.
use Prim.Native.Nat.{ℕ, ◌^◌, ◌<◌}
use mathlib.Core.List.{List, [], ◌∷◌}
use mathlib.Core.Path.{◌≡◌, refl}
use native.Mathlib.Omega.{arith}
use lib.ListN.{length, get_or}
use Rattle.rows.specs.Margin.{words_of}
use Rattle.rows.specs.Table.Environment.{environment}
use Rattle.rows.proofs.RoundTrip.{read_slots}
use Rattle.records.specs.Answer.{accepted}
use Rattle.records.specs.Environment.{EnvironmentRead, numbers_of, environment_of, environment_read, environment_written}
use Rattle.records.specs.Answer.{Answer}
use Rattle.records.specs.declared.environment.Environment.{Environment}
use Rattle.std.specs.Prelude.{Ok, Err}
use Rattle.records.proofs.Inverse.{View, from_all, record_read_write, record_write_read}
use Rattle.records.proofs.Coming.{ComesTo, unwritten, comes_within, record_comes, record_write_comes}

-- The words of its margin.
abbrev words_in : Environment → List ℕ
words_in e = words_of e.margin

view : View environment 232 4 numbers_of words_in environment_of
unfolding environment
view =
    record {
      sized = λ e. refl;
      margins = λ e. refl;
      back = λ e. refl;
      forth = λ bs margin long h. from_all 10 _ (read_slots environment bs h);
      kept = λ vals margin long. from_all 4 margin long;
    }

same : (a b : Environment) → ◌≡◌ {A = EnvironmentRead} (Ok a) (Ok b) → a ≡ b
same a b h = cc

apart : (r : Answer) (e : Environment) → Err r ≡ Ok e → ⊥
apart r e h = let z : ◌≡◌ {A = ℕ} 0 1 = cc in omega arith

pub environment_read_write : (bytes onto : List ℕ) (e : Environment) → ((i : ℕ) → get_or bytes i 0 < 2 ^ 8) → length onto ≡ 29
    → environment_read bytes ≡ Ok e
    → environment_written onto e ≡ accepted bytes
environment_read_write bytes onto e small long h = record_read_write Ok Err same apart view bytes onto e small long h

pub environment_write_read : (before after : List ℕ) (e : Environment) → ((i : ℕ) → get_or (words_of e.margin) i 0 < 2 ^ 64)
    → environment_written before e ≡ accepted after
    → environment_read after ≡ Ok e
environment_write_read before after e small h = record_write_read Ok Err same apart view before after e small h

-- The refusals of a reading and of a writing.
pub environment_comes : (bytes : List ℕ) → ComesTo Ok Err (1 ∷ 3 ∷ []) (environment_read bytes)
unfolding environment
environment_comes bytes = comes_within (record_comes environment_of environment bytes) refl

pub environment_write_comes : (before : List ℕ) (e : Environment) → ComesTo accepted (unwritten before) (1 ∷ 3 ∷ 7 ∷ []) (environment_written before e)
unfolding environment
environment_write_comes before e = comes_within (record_write_comes environment (numbers_of e) (words_of e.margin) before) refl
