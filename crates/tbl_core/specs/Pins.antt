-- How the pins of handles go on from entry to entry, and what a pin that was lent says of the core.
use Rattle.std.specs.Prelude.{◌≡◌, ◌≢◌, ◌⊎◌, ℕ, ◌+◌, List, length, Bool, true, ◌&&◌, Some, IsSome, if◌then◌else◌, slice_get, slice_index_or, slice_set}
use Rattle.tbl_model.specs.State.{Load, Table, Handle, Tables}
use Rattle.tbl_model.specs.Tables.{table_at}
use Rattle.tbl_model.specs.TableSteps.{handle_at, image_of}
use Rattle.tbl_model.specs.Whole.{is_done, asks_address}
use Rattle.tbl_registry.specs.Lending.{pins_image, pinned_image}
use Rattle.tbl_registry.specs.declared.pin.Pin.{Pin}
use Rattle.address_requests.specs.Reads.{AreRead}
use Rattle.tbl_kinds.specs.Numbers.{piece}
use Rattle.tbl_kinds.specs.declared.entry.Entry.{Entry}
use Rattle.tbl_kinds.specs.declared.request.Request.{Request}
use Rattle.tbl_kinds.specs.declared.request.Request.TheVariants as ask
use Rattle.tbl_kinds.specs.declared.status.Status.{Status}

-- ---- the places of the calls that got an address

-- how many handles there can be
abbrev pub handle_limit : ℕ
handle_limit = 256

-- the place of the latest call that got an address by this handle
abbrev pub place_in : List ℕ → ℕ → ℕ
place_in gets handle = slice_index_or gets handle 0

-- after an entry at this place
abbrev pub gets_by : List ℕ → ℕ → Status → Request → List ℕ
gets_by gets place status (ask.Get handle) = if is_done status then slice_set gets handle place else gets
gets_by gets place status _ = gets

abbrev pub gets_after : List ℕ → ℕ → Entry → List ℕ
gets_after gets place e = gets_by gets place e.reply.status e.request

-- ---- pins of the tables

-- the handle pins an image under this number: the table that it leads to has it as the last one, or as the one before
pub record IsHeld (tables : Tables) (h : Handle) (p : ℕ) : Type 0 where
  pub row : ℕ
  pub row_is : h.row ≡ Some row
  pub table : Table
  pub there : table_at tables row ≡ Some table
  pub near : (p ≡ table.count) ⊎ (p + 1 ≡ table.count)
  pub image : List ℕ
  pub image_is : image_of table p ≡ Some image

-- a table that has had an image has a last one, of its size, and so is that of its open load
pub record IsFilled (t : Table) : Type 0 where
  pub some : t.count ≢ 0 → IsSome t.last
  pub sized : (image : List ℕ) → t.last ≡ Some image → length image ≡ t.size
  pub load_sized : (load : Load) → t.load ≡ Some load → length load.image ≡ t.size

-- this holds of each pin and of each table
pub record HaveImages (tables : Tables) : Type 0 where
  pub held : (handle : ℕ) (h : Handle) (p : ℕ) → handle_at tables handle ≡ Some h → h.pin ≡ Some p → IsHeld tables h p
  pub filled : (row : ℕ) (t : Table) → table_at tables row ≡ Some t → IsFilled t

-- whether a request that was answered so got an address by this handle
abbrev pub gets_address : ℕ → Request → Status → Bool
gets_address handle request status = asks_address handle request && is_done status

-- a handle that pins an image after the request pinned it before, or the request got the address by it; then it pins
pub record PinsGoOn (old new : Tables) (request : Request) (status : Status) : Type 0 where
  pub each : (handle : ℕ) (h : Handle) (p : ℕ) → handle_at new handle ≡ Some h → h.pin ≡ Some p
      → ((handle_at old handle ≡ Some h) × (pinned_image handle new ≡ pinned_image handle old)) ⊎ (gets_address handle request status ≡ true)
  pub got : (handle : ℕ) → gets_address handle request status ≡ true → pins_image handle new ≡ true

-- ---- lent images

-- the entry at this place got the address by this handle
abbrev pub IsGetAt : List Entry → ℕ → ℕ → Type 0
IsGetAt entries place handle = (e : Entry) × (slice_get entries place ≡ Some e) × (gets_address handle e.request e.reply.status ≡ true)

-- the request is a Read, and these bytes may be its answer
abbrev pub MayBeLent : Request → Tables → List ℕ → Type 0
MayBeLent (ask.Read handle offset len) tables slice = AreRead handle offset len tables slice
MayBeLent _ tables slice = ⊥

-- the bytes that a Read asks for, of the image that was lent by its handle
abbrev pub IsSliceOf : Pin → Request → List ℕ → Type 0
IsSliceOf pin (ask.Read handle offset len) slice = (handle ≡ pin.handle) × (slice ≡ piece offset len pin.bytes)
IsSliceOf pin _ slice = ⊥
