-- Activations that the ground asks for, and updates that the owners of tables make.
use Rattle.std.specs.Prelude.{◌≡◌, ℕ, List, [], ◌∷◌, ◌++◌, if◌then◌else◌, Option, IsSome, is_some}
use Rattle.std.specs.Option.{ForSome}
use Rattle.tbl_kinds.specs.declared.entry.Answer.{Answer}
use Rattle.tbl_model.specs.Tables.{table_at}
use Rattle.tbl_model.specs.Telemetry.{activated}
use Rattle.tbl_model.specs.Refusals.{update_refusal}
use Rattle.request_effects.specs.Reports.{Reported}
use Rattle.tbl_model.specs.TableSteps.{activate, set_time}
use Rattle.tbl_model.specs.Activations.{activation_of, activate_command_effect, update_of}
use Rattle.desk.specs.Requests.{Meaning, for_row, command}
use Rattle.desk.specs.Rooms.{copy_room}
use Rattle.desk.specs.declared.desk.Desk.{Desk}

-- of the load of the table of this name
abbrev pub activation : List ℕ → Meaning
activation name = command (λ s. activate_command_effect s name) 0

-- of the load of the table in this row
abbrev pub activation_in : ℕ → Meaning
activation_in row = for_row row (λ s given t. activation_of s row t) 0 (λ tables. 24)

abbrev pub update_in : ℕ → Meaning
update_in row = for_row row (λ s given t. update_of s row t) 1 (λ tables. copy_room (table_at tables row))

-- the load is active, at the service's time
abbrev pub with_update : {C : Type 0} → ℕ → Desk C → Desk C
with_update row desk = record desk { tables = set_time row desk.clock.seconds desk.clock.sub (activate row desk.tables) }

-- the load was made active and that is reported, unless something was in its way
pub record Updates {C : Type 0} (row : ℕ) (why : Option Answer) (old new : Desk C) (before after : Reported) : Type 0 where
  pub refusal : ForSome (table_at old.tables row) (λ t. why ≡ update_refusal old.tables row t)
  pub desk : new ≡ (if is_some why then old else with_update row old)
  pub report : ForSome (table_at old.tables row) (λ t. after ≡ (if is_some why then before else record before { events = before.events ++ activated row t ∷ [] }))
  pub table : IsSome (table_at new.tables row)
