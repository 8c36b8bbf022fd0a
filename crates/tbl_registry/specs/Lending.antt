-- Images that handles pin, and that are lent.
use Rattle.std.specs.Prelude.{◌≡◌, ◌<◌, ◌≤◌, ℕ, List, [], length, Bool, false, Option, is_some, option_and_then, Result, Ok, Err, IfOk, IfErr, OnOk, OnSome}
use Rattle.std.specs.Option.{option_map, option_map_or}
use Rattle.std.specs.Borrow.{Bor}
use Rattle.tbl_kinds.specs.Limits.{table_limit}
use Rattle.tbl_kinds.specs.declared.bytes.Memory.{Memory}
use Rattle.tbl_kinds.specs.declared.entry.Answer.{Answer}
use Rattle.tbl_kinds.specs.declared.status.Status.{Status}
use Rattle.tbl_model.specs.State.{Tables}
use Rattle.tbl_model.specs.AddressSteps.{Step, read}
use Rattle.tbl_model.specs.TableSteps.{Access, access_of, image_of}
use Rattle.tbl_registry.specs.declared.pin.Pin.{Pin}

-- whether a handle that leads to a table pins an image of it
abbrev pub pins_image : ℕ → Tables → Bool
pins_image handle tables = option_map_or (λ (a : Access). is_some a.handle.pin) (access_of tables handle) false

-- the image that it pins
abbrev pub pinned_by : Access → Option (List ℕ)
pinned_by a = option_and_then (image_of a.table) a.handle.pin

abbrev pub pinned_image : ℕ → Tables → Option (List ℕ)
pinned_image handle tables = option_and_then pinned_by (access_of tables handle)

-- the full name of the table that the handle leads to
abbrev pub name_by : ℕ → Tables → List ℕ
name_by handle tables = option_map_or (λ (a : Access). a.table.name) (access_of tables handle) []

-- that image, lent with this place and the table's name
abbrev pub lent_at : ℕ → ℕ → Tables → Option Pin
lent_at handle place tables = option_map (λ image. record { bytes = image; handle = handle; place = place; name = name_by handle tables }) (pinned_image handle tables)

-- it is lent, if the handle pins one
pub record LendsImage (handle place : ℕ) (tables : Tables) (result : Result (Option Pin) Memory) : Type 0 where
  pub lent : IfOk result (λ lent. lent ≡ lent_at handle place tables)
  pub none : IfOk result (λ lent. is_some lent ≡ pins_image handle tables)
  pub within : IfOk result (λ lent. OnSome lent (handle < 256))

-- the stated bytes of it, or why they aren't read
pub record Reads (handle offset len : ℕ) (tables : Tables) (result : Result (Bor (List ℕ)) Status) : Type 0 where
  pub ok : IfOk result (λ bytes. read handle offset len tables ≡ Ok bytes.now)
  pub err : IfErr result (λ status. read handle offset len tables ≡ Err status)
  pub length : IfOk result (λ bytes. length bytes.now ≡ len)
  pub within : OnOk result (len ≤ table_limit)

-- a call of the model's was made, and answered so
pub record IsMade (step : Step) (answer : Answer) (new : Tables) : Type 0 where
  pub status : answer.status ≡ step.status
  pub detail : answer.detail ≡ 0
  pub tables : new ≡ step.tables
