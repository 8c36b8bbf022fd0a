-- Images that are lent to an actor, and what it reads of them.
use Rattle.std.specs.Prelude.{◌≡◌, ◌⊎◌, ℕ, ◌+◌, ◌-◌, ◌<◌, ◌==◌, List, [], ◌∷◌, ◌++◌, length, position, Bool, true, Option, Some, None, option_and_then, slice_get, slice_set}
use Rattle.table_watch.specs.Watching.{handle_got}
use Rattle.tbl_registry.specs.Lending.{pins_image, pinned_image, name_by}
use Rattle.tbl_registry.specs.declared.pin.Pin.{Pin}
use Rattle.tbl_core.specs.Pins.{handle_limit, place_in, IsSliceOf}
use Rattle.tbl_core.specs.Service.{CoreView, IsOfPin}
use Rattle.tbl_crew.specs.declared.held.ReadPlan.{ReadPlan}
use Rattle.tbl_crew.specs.declared.held.Turn.{Turn}
use Rattle.tbl_crew.specs.declared.held.Turn.TheVariants.{Played, Pinned, PinMemory, Ended, Done}
use Rattle.tbl_kinds.specs.Numbers.{piece}
use Rattle.tbl_kinds.specs.declared.entry.Entry.{Entry}
use Rattle.tbl_kinds.specs.declared.request.Request.{Request}
use Rattle.tbl_kinds.specs.declared.request.Request.TheVariants as ask

-- ---- the next request

abbrev pub plan_by : Request → Option ReadPlan
plan_by (ask.Read handle offset len) = Some (record { handle = handle; offset = offset; len = len })
plan_by _ = None

-- what a script reads first, if it begins with a Read
abbrev pub plan_of : List Request → Option ReadPlan
plan_of [] = None
plan_of (request ∷ requests) = plan_by request

-- these are the bytes that it asks for, of the lent image
abbrev pub IsNextSlice : Pin → List Request → List ℕ → Type 0
IsNextSlice pin [] slice = ⊥
IsNextSlice pin (request ∷ requests) slice = IsSliceOf pin request slice

-- ---- what is taken of an image before a Read

abbrev pub is_of : ℕ → Pin → Bool
is_of handle pin = pin.handle == handle

-- the first of these images that was lent by a handle
abbrev pub lent_by : List Pin → ℕ → Option Pin
lent_by pins handle = option_and_then (slice_get pins) (position (is_of handle) pins)

-- the planned Read has no image here, or doesn't lie inside it
abbrev pub IsBeyond : ReadPlan → Option Pin → Type 0
IsBeyond read None = Unit {0}
IsBeyond read (Some pin) = length pin.bytes < read.offset + read.len

-- these are the bytes of a planned Read, of the image that was lent by its handle
pub record IsTakenOf (pins : List Pin) (read : ReadPlan) (pin : Pin) (slice : List ℕ) : Type 0 where
  pub lent : lent_by pins read.handle ≡ Some pin
  pub slice_is : slice ≡ piece read.offset read.len pin.bytes

-- ---- the last entry

-- the handle by which the last entry got an address
abbrev pub last_got : List Entry → Option ℕ
last_got entries = option_and_then handle_got (slice_get entries (length entries - 1))

-- if the last entry got an address, its handle pins by that entry
abbrev pub PinsLast : {B C : Type 0} → CoreView B C → Type 0
PinsLast core = (handle : ℕ) → last_got core.entries ≡ Some handle → (pins_image handle core.state.tables ≡ true) × (handle < handle_limit → place_in core.gets handle + 1 ≡ length core.entries)

-- the pin has the handle and the place of the last entry, the full name of its table, and the image that the handle pins
pub record IsLent {B C : Type 0} (core : CoreView B C) (pin : Pin) : Type 0 where
  pub handle : last_got core.entries ≡ Some pin.handle
  pub place : pin.place + 1 ≡ length core.entries
  pub name : name_by pin.handle core.state.tables ≡ pin.name
  pub image : pinned_image pin.handle core.state.tables ≡ Some pin.bytes
  pub pin_is : IsOfPin pin core

-- which image is lent after a request that was played
abbrev pub Lends : {B C : Type 0} → CoreView B C → Turn → Type 0
Lends core Played = last_got core.entries ≡ None
Lends core (Pinned pin) = IsLent core pin
Lends core PinMemory = (handle : ℕ) × (last_got core.entries ≡ Some handle)
Lends core Ended = ⊥
Lends core Done = ⊥

-- ---- a worker's pins

-- one is kept last, or instead of another, or not at all
abbrev pub Keeps : List Pin → List Pin → Pin → Type 0
Keeps old new pin = (new ≡ old) ⊎ ((new ≡ old ++ pin ∷ []) ⊎ ((n : ℕ) × (new ≡ slice_set old n pin)))
