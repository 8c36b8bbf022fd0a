-- Every read of a pinned image gives the stated bytes of one whole image: the one that was the last when the address was got.
use Rattle.std.specs.Prelude.{◌≡◌, ℕ, ◌+◌, ◌≤◌, ◌==◌, List, ◌∷◌, ◌++◌, length, Bool, true, false, ◌&&◌, ◌||◌, Some}
use Rattle.std.specs.List.{list_any}
use Rattle.tbl_kinds.specs.Numbers.{piece}
use Rattle.tbl_model.specs.State.{State, Table}
use Rattle.tbl_model.specs.TableSteps.{Access, access_of}
use Rattle.tbl_model.specs.Counts.{is_reset}
use Rattle.tbl_model.specs.History.{begins_at, run_from}
use Rattle.tbl_kinds.specs.declared.entry.Entry.{Entry}
use Rattle.tbl_kinds.specs.declared.request.Actor.{Actor}
use Rattle.tbl_kinds.specs.declared.request.Actor.TheVariants.{Ground, App}
use Rattle.tbl_kinds.specs.declared.request.Request.{Request}
use Rattle.tbl_kinds.specs.declared.request.Request.TheVariants as ask
use Rattle.tbl_kinds.specs.declared.status.Status.{Status}
use Rattle.tbl_kinds.specs.declared.status.TheConstants.Status.{SUCCESS, INFO_UPDATED, INFO_STOPPED}

-- ---- what an entry is

abbrev pub is_by : ℕ → Actor → Bool
is_by app Ground = false
is_by app (App number) = number == app

-- the call did what was requested
abbrev pub is_done : Status → Bool
is_done status = (status.0 == SUCCESS.0) || (status.0 == INFO_UPDATED.0)

abbrev pub asks_address : ℕ → Request → Bool
asks_address handle (ask.Get number) = number == handle
asks_address handle _ = false

-- the application got the address of its handle's table
abbrev pub is_get : ℕ → ℕ → Entry → Bool
is_get app handle e = is_by app e.actor && asks_address handle e.request && is_done e.reply.status

-- ---- what ends a pin

abbrev pub asks_end : ℕ → Request → Bool
asks_end handle (ask.Release number) = number == handle
asks_end handle (ask.Unregister number) = number == handle
asks_end handle _ = false

abbrev pub is_exit : Request → Bool
is_exit ask.Exit = true
is_exit _ = false

-- the application gave the address or the handle back, or ended
abbrev pub gives_back : ℕ → ℕ → Entry → Bool
gives_back app handle e = is_by app e.actor && is_done e.reply.status && (asks_end handle e.request || is_exit e.request)

abbrev pub asks_removal : ℕ → Request → Bool
asks_removal handle (ask.Unregister number) = number == handle
asks_removal handle _ = false

-- the table's owner took it away, or ended
abbrev pub takes_away : Table → Entry → Bool
takes_away t e = is_by t.owner e.actor && is_done e.reply.status && (asks_removal t.handle e.request || is_exit e.request)

-- the service began anew: a reset, or a stop inside the request
abbrev pub begins_anew : Entry → Bool
begins_anew e = is_reset e.request || (e.reply.status.0 == INFO_STOPPED.0)

-- the entry ends the pin of this application's handle on the table
abbrev pub ends_pin : ℕ → ℕ → Table → Entry → Bool
ends_pin app handle t e = gives_back app handle e || takes_away t e || begins_anew e

-- ---- whole histories

-- before a read of the application by the handle, the latest call that got an address by it, and the table's last image then
pub record IsWholeRead (opening : State) (before : List Entry) (app handle offset len : ℕ) (bytes : List ℕ) : Type 0 where
  pub earlier : List Entry
  pub get : Entry
  pub between : List Entry
  pub split : before ≡ earlier ++ get ∷ between
  pub got : is_get app handle get ≡ true
  pub latest : list_any (is_get app handle) between ≡ false
  pub found : Access
  pub leads : access_of (run_from (begins_at opening) earlier).state.tables handle ≡ Some found
  pub stands : list_any (ends_pin app handle found.table) between ≡ false
  pub image : List ℕ
  pub is_last : found.table.last ≡ Some image
  pub sized : length image ≡ found.table.size
  pub within : offset + len ≤ found.table.size
  pub bytes_are : bytes ≡ piece offset len image

abbrev pub IsWholeBy : State → List Entry → Actor → Request → List ℕ → Type 0
IsWholeBy opening before (App app) (ask.Read handle offset len) bytes = IsWholeRead opening before app handle offset len bytes
IsWholeBy opening before _ _ bytes = Unit {0}

abbrev pub IsWholeEntry : State → List Entry → Entry → Type 0
IsWholeEntry opening before e = e.reply.status ≡ SUCCESS → IsWholeBy opening before e.actor e.request e.reply.bytes.list

-- this holds of each read in it that was answered with bytes
abbrev pub IsWhole : State → List Entry → Type 0
IsWhole opening entries = (before after : List Entry) (e : Entry) → entries ≡ before ++ e ∷ after → IsWholeEntry opening before e
