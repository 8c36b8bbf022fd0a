-- Addresses of images: what Get, Release and Read do to a handle.
use Rattle.std.specs.Prelude.{ℕ, ◌+◌, ◌==◌, List, [], not, nat_lt, if◌then◌else◌, Some, None, is_some, unwrap_or, Result, Ok, Err}
use Rattle.std.specs.Option.{option_map_or}
use Rattle.tbl_kinds.specs.Numbers.{piece}
use Rattle.tbl_model.specs.State.{Table, Handle, Tables}
use Rattle.tbl_kinds.specs.declared.status.Status.{Status}
use Rattle.tbl_kinds.specs.declared.status.TheConstants.Status.{SUCCESS, INFO_UPDATED, ERR_INVALID_HANDLE, ERR_ALREADY_PINNED, ERR_NEVER_LOADED, ERR_NOT_PINNED, ERR_OUT_OF_RANGE}
use Rattle.tbl_model.specs.TableSteps.{Access, access_of, drop_before, image_of, with_handle, with_table}

-- what a call answers, and the tables that it leaves
pub record Step : Type 0 where
  pub status : Status
  pub tables : Tables

abbrev pub stays : Tables → Status → Step
stays tables status = record { status = status; tables = tables }

-- a handle pins the last image, and is told of it
abbrev pub pin_last : Tables → ℕ → Handle → Table → Step
pin_last tables number h t = record {
  status = if nat_lt h.told t.count then INFO_UPDATED else SUCCESS;
  tables = with_handle number (record h { pin = Some t.count; told = t.count }) tables;
}

abbrev pub get_address_of : Tables → ℕ → Handle → Table → Step
get_address_of tables number h t =
    if is_some h.pin then stays tables ERR_ALREADY_PINNED
    else (if t.count == 0 then stays tables ERR_NEVER_LOADED
    else pin_last tables number h t)

abbrev pub get_address : ℕ → Tables → Step
get_address number tables =
    option_map_or (λ (a : Access). get_address_of tables number a.handle a.table) (access_of tables number) (stays tables ERR_INVALID_HANDLE)

-- the pin ends
abbrev pub release_of : Tables → ℕ → Handle → ℕ → Table → Step
release_of tables number h row t =
    if not (is_some h.pin) then stays tables ERR_NOT_PINNED
    else (let freed = with_handle number (record h { pin = None }) tables in record {
      status = if nat_lt h.told t.count then INFO_UPDATED else SUCCESS;
      tables = with_table row (drop_before freed.handles row t) freed;
    })

abbrev pub release : ℕ → Tables → Step
release number tables =
    option_map_or (λ (a : Access). release_of tables number a.handle a.row a.table) (access_of tables number) (stays tables ERR_INVALID_HANDLE)

-- the stated bytes of the pinned image
abbrev pub read_of : Handle → Table → ℕ → ℕ → Result (List ℕ) Status
read_of h t offset len =
    if not (is_some h.pin) then Err ERR_NOT_PINNED
    else (if nat_lt t.size (offset + len) then Err ERR_OUT_OF_RANGE
    else Ok (piece offset len (unwrap_or (image_of t (unwrap_or h.pin 0)) [])))

abbrev pub read : ℕ → ℕ → ℕ → Tables → Result (List ℕ) Status
read number offset len tables =
    option_map_or (λ (a : Access). read_of a.handle a.table offset len) (access_of tables number) (Err ERR_INVALID_HANDLE)
