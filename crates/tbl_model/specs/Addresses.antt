-- Addresses of tables: got, read through, and given back.
use Rattle.std.specs.Prelude.{ℕ, List, false, Result, Ok, Err}
use Rattle.tbl_model.specs.State.{State}
use Rattle.tbl_model.specs.AddressSteps.{Step, get_address, release, read}
use Rattle.tbl_model.specs.Effects.{Effect, answered}
use Rattle.tbl_model.specs.Subjects.{if_handle}
use Rattle.tbl_kinds.specs.declared.status.Status.{Status}
use Rattle.tbl_kinds.specs.declared.status.TheConstants.Status.{SUCCESS}

abbrev pub stepped : State → Step → Effect
stepped s step = record (answered s step.status 0) { next = record s { tables = step.tables } }

unfoldable pub get_effect : State → ℕ → ℕ → Effect
get_effect s app handle = if_handle s app handle false (λ row. stepped s (get_address handle s.tables))

unfoldable pub release_effect : State → ℕ → ℕ → Effect
release_effect s app handle = if_handle s app handle false (λ row. stepped s (release handle s.tables))

abbrev pub read_answer : State → Result (List ℕ) Status → Effect
read_answer s (Ok bytes) = record (answered s SUCCESS 0) { bytes = bytes }
read_answer s (Err status) = answered s status 0

unfoldable pub read_effect : State → ℕ → ℕ → ℕ → ℕ → Effect
read_effect s app handle offset len = if_handle s app handle false (λ row. read_answer s (read handle offset len s.tables))
