-- Why a request isn't taken: the first refusal that holds, in the order in which the table services test them, or none.
use Rattle.std.specs.Prelude.{ℕ, ◌+◌, ◌==◌, List, [], length, Bool, true, false, not, ◌&&◌, ◌||◌, nat_lt, if◌then◌else◌, Option, Some, None, is_some, option_and_then, slice_get}
use Rattle.std.specs.Option.{option_map, option_or}
use Rattle.std.specs.Str.{bytes_eq}
use Rattle.tbl_kinds.specs.Names.{is_name}
use Rattle.tbl_kinds.specs.Limits.{table_limit}
use Rattle.tbl_kinds.specs.TableFiles.{TableFile}
use Rattle.tbl_model.specs.State.{State, Table, Tables}
use Rattle.tbl_model.specs.Tables.{is_double, is_dump_only, in_use}
use Rattle.tbl_model.specs.TableSteps.{is_that, locker, is_checked}
use Rattle.tbl_model.specs.Pending.{is_pending}
use Rattle.tbl_model.specs.Effects.{Effect, answered}
use Rattle.tbl_kinds.specs.declared.entry.Answer.{Answer}
use Rattle.tbl_kinds.specs.declared.status.Status.{Status}
use Rattle.tbl_kinds.specs.declared.status.TheConstants.Status.{INFO_TABLE_LOCKED, INFO_NO_UPDATE_PENDING, ERR_INVALID_NAME, ERR_INVALID_SIZE, ERR_INVALID_OPTIONS, ERR_NO_VALIDATOR, ERR_DUMP_ONLY, ERR_LOAD_IN_PROGRESS, ERR_IMAGE_SIZE, ERR_PARTIAL_LOAD, ERR_ZERO_LOAD, ERR_PAST_END, ERR_UPDATE_PENDING, ERR_NO_BUFFER_AVAIL, ERR_FILE_FOR_WRONG_TABLE, ERR_NEVER_LOADED, ERR_NO_LOAD, ERR_NOT_VALIDATED, ERR_VALIDATION_PENDING, ERR_VALIDATIONS_FULL}

-- a refusal that names nothing
abbrev pub refusal : Status → Option Answer
refusal status = Some (record { status = status; detail = 0 })

-- it is answered so, where there is a refusal
abbrev pub by_answer : State → Option Answer → Effect → Effect
by_answer s None effect = effect
by_answer s (Some answer) effect = answered s answer.status answer.detail

-- the same of a load: where no shared buffer is free, the reply gives the rows that use them
abbrev pub by_refusal : State → Option Answer → Effect → Effect
by_refusal s None effect = effect
by_refusal s (Some answer) effect = record (answered s answer.status answer.detail) {
  bytes = if answer.status.0 == ERR_NO_BUFFER_AVAIL.0 then in_use s.tables else [];
}

-- ---- registration

-- the options that can be asked for: none, two buffers, critical, both, or dump-only
abbrev pub are_options : ℕ → Bool
are_options flags = flags == 0 || flags == 1 || flags == 2 || flags == 8 || flags == 9

-- whether the application may use this validation function of the kit
abbrev pub may_use : List (Option ℕ) → ℕ → Option ℕ → Bool
may_use kit app None = true
may_use kit app (Some number) = is_that app (option_and_then (λ found. found) (slice_get kit number))

-- why a table of this short name isn't registered, before the registered tables are looked at
abbrev pub plan_refusal : List (Option ℕ) → ℕ → List ℕ → ℕ → ℕ → Option ℕ → Option Answer
plan_refusal kit app short size flags validator =
    if not (is_name short) then refusal ERR_INVALID_NAME
    else (if size == 0 || nat_lt table_limit size then refusal ERR_INVALID_SIZE
    else (if not (are_options flags) then refusal ERR_INVALID_OPTIONS
    else (if not (may_use kit app validator) then refusal ERR_NO_VALIDATOR
    else None)))

-- ---- loads

-- the table is locked, by this handle
abbrev pub lock_refusal : Option ℕ → Option Answer
lock_refusal lock = option_map (λ handle. record { status = INFO_TABLE_LOCKED; detail = handle }) lock

-- no shared buffer is free for a single-buffered table
abbrev pub buffer_refusal : Tables → Table → Option Answer
buffer_refusal tables t = if not (is_double t) && length (in_use tables) == 4 then refusal ERR_NO_BUFFER_AVAIL else None

-- why its owner loads nothing into the table now
abbrev pub closed_refusal : Table → Option Answer
closed_refusal t =
    if is_dump_only t then refusal ERR_DUMP_ONLY
    else (if is_some t.load then refusal ERR_LOAD_IN_PROGRESS
    else None)

-- why no image goes active now as the next one of the table in this row
abbrev pub busy_refusal : Tables → ℕ → Table → Option Answer
busy_refusal tables row t = option_or (lock_refusal (locker tables row t)) (buffer_refusal tables t)

-- why an image of so many bytes isn't taken as the next one of the table in this row
abbrev pub image_refusal : Tables → ℕ → Table → ℕ → Option Answer
image_refusal tables row t len =
    option_or (closed_refusal t)
    (if not (len == t.size) then refusal ERR_IMAGE_SIZE
    else busy_refusal tables row t)

-- why so many bytes from this offset on are no part of an image of the table
abbrev pub part_refusal : Table → ℕ → ℕ → Option Answer
part_refusal t offset len =
    if len == 0 then refusal ERR_ZERO_LOAD
    else (if nat_lt t.size (offset + len) then refusal ERR_PAST_END
    else (if (t.count == 0) && not (offset == 0 && len == t.size) then refusal ERR_PARTIAL_LOAD
    else None))

-- why a file isn't taken by the owner of the table in this row, into which a load may go
abbrev pub file_refusal : Tables → ℕ → Table → TableFile → Option Answer
file_refusal tables row t file =
    if not (bytes_eq file.name t.name) then refusal ERR_FILE_FOR_WRONG_TABLE
    else option_or (part_refusal t file.offset (length file.image)) (busy_refusal tables row t)

-- why no load is opened: it needs a buffer, of a double-buffered table the inactive one, which no handle may pin, of a
-- single-buffered one a shared one
abbrev pub open_refusal : Tables → ℕ → Table → Option Answer
open_refusal tables row t = option_or (lock_refusal (if is_double t then locker tables row t else None)) (buffer_refusal tables t)

-- why so many bytes from this offset on don't go into the load of the table in this row, which is opened where none is open
abbrev pub load_refusal : Tables → ℕ → Table → ℕ → ℕ → Option Answer
load_refusal tables row t offset len =
    if is_dump_only t then refusal ERR_DUMP_ONLY
    else (if t.activation then refusal ERR_UPDATE_PENDING
    else option_or (part_refusal t offset len)
    (if is_some t.load then None
    else open_refusal tables row t))

-- ---- validation and activation

-- why the validation of the last image of the table in this row, or of its load's, isn't requested
abbrev pub validation_refusal : List (ℕ × Bool) → ℕ → Table → Bool → Option Answer
validation_refusal pending row t active =
    if active && (t.count == 0) then refusal ERR_NEVER_LOADED
    else (if not active && not (is_some t.load) then refusal ERR_NO_LOAD
    else (if not active && t.activation then refusal ERR_UPDATE_PENDING
    else (if not (is_some t.validator) then None
    else (if is_pending row active pending then refusal ERR_VALIDATION_PENDING
    else (if length pending == 10 then refusal ERR_VALIDATIONS_FULL
    else None)))))

-- why the activation of its load isn't requested
abbrev pub activation_refusal : List (ℕ × Bool) → ℕ → Table → Option Answer
activation_refusal pending row t =
    if is_dump_only t then refusal ERR_DUMP_ONLY
    else (if not (is_some t.load) then refusal ERR_NO_LOAD
    else (if t.activation then refusal ERR_UPDATE_PENDING
    else (if is_pending row false pending then refusal ERR_VALIDATION_PENDING
    else (if not (is_checked t) then refusal ERR_NOT_VALIDATED
    else None))))

-- why the load of the table in this row doesn't go active
abbrev pub update_refusal : Tables → ℕ → Table → Option Answer
update_refusal tables row t = if not t.activation then refusal INFO_NO_UPDATE_PENDING else lock_refusal (locker tables row t)
