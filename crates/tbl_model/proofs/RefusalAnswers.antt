-- What a ladder answers is a refusal.
use Rattle.std.proofs.Common.{◌≡◌, ℕ, ◌+◌, ◌==◌, List, Bool, true, false, not, ◌&&◌, ◌||◌, cond, nat_lt, length, Option, Some, None, is_some, is_none, refl}
use Rattle.std.specs.Option.{option_map, option_or}
use Rattle.tbl_kinds.specs.Names.{is_name}
use Rattle.tbl_kinds.specs.Limits.{table_limit}
use Rattle.tbl_kinds.specs.Free.{least_free}
use Rattle.tbl_model.specs.State.{State, Table, Tables}
use Rattle.tbl_model.specs.Tables.{table_at, is_double, is_dump_only, is_quiet, in_use}
use Rattle.tbl_model.specs.Dumps.{dump_refusal, edit_refusal}
use Rattle.tbl_model.specs.TableSteps.{find, locker, is_checked}
use Rattle.tbl_model.specs.Pending.{is_pending}
use Rattle.tbl_kinds.specs.TableFiles.{TableFile}
use Rattle.std.specs.Str.{bytes_eq}
use Rattle.tbl_model.specs.Refusals.{are_options, may_use, plan_refusal, lock_refusal, buffer_refusal, open_refusal, closed_refusal, busy_refusal, image_refusal, part_refusal, file_refusal, load_refusal, validation_refusal, activation_refusal, update_refusal}
use Rattle.tbl_model.specs.Registration.{duplicate_answer, name_refusal, registration_refusal}
use Rattle.tbl_model.specs.Whole.{is_done}
use Rattle.tbl_model.specs.BankCounts.{tells_trouble}
use Rattle.tbl_kinds.specs.declared.entry.Answer.{Answer}
use Rattle.tbl_kinds.specs.declared.status.Status.{Status}
use Rattle.tbl_kinds.specs.declared.status.TheConstants.Status.{WARN_DUPLICATE, ERR_DUPLICATE_NOT_OWNED, ERR_DUPLICATE_DIFF_SIZE}

-- a status that refuses: nothing was done, nothing begins anew, and the bank didn't fail
abbrev pub is_refusal : Status → Bool
is_refusal status = not (is_done status || tells_trouble status)

-- so does the answer, if there is one
abbrev pub Refuses : Option Answer → Type 0
Refuses None = Unit {0}
Refuses (Some answer) = is_refusal answer.status ≡ true

here : (b : Bool) (r rest : Option Answer) → Refuses r → Refuses rest → Refuses (cond b r rest)
here true r rest first later = first
here false r rest first later = later

first_of : (a b : Option Answer) → Refuses a → Refuses b → Refuses (option_or a b)
first_of None b first later = later
first_of (Some x) b first later = first

by_lock : (lock : Option ℕ) → Refuses (lock_refusal lock)
by_lock None = tt
by_lock (Some handle) = refl

by_buffers : (tables : Tables) (t : Table) → Refuses (buffer_refusal tables t)
by_buffers tables t = here (not (is_double t) && length (in_use tables) == 4) _ None refl tt

pub plan_refused : (kit : List (Option ℕ)) (app : ℕ) (short : List ℕ) (size flags : ℕ) (validator : Option ℕ) → Refuses (plan_refusal kit app short size flags validator)
plan_refused kit app short size flags validator =
    here (not (is_name short)) _ _ refl
    (here (size == 0 || nat_lt table_limit size) _ _ refl
    (here (not (are_options flags)) _ _ refl
    (here (not (may_use kit app validator)) _ None refl tt)))

pub registration_refused : (s : State) (app : ℕ) (name short : List ℕ) (size flags : ℕ) (validator : Option ℕ) → Refuses (registration_refusal s app name short size flags validator)
registration_refused s app name short size flags validator =
    first_of (plan_refusal s.kit app short size flags validator) _ (plan_refused s.kit app short size flags validator)
    (first_of (name_refusal s.tables app size name) _ (by_name (find name s.tables))
    (here (is_none (least_free s.tables.rows)) _ _ refl
    (here (is_none (least_free s.tables.handles)) _ None refl tt)))
  where
    twice : (owned sized : Bool) (handle : ℕ) → Refuses (Some (cond {A = Answer} owned (record { status = ERR_DUPLICATE_NOT_OWNED; detail = 0 }) (cond sized (record { status = ERR_DUPLICATE_DIFF_SIZE; detail = 0 }) (record { status = WARN_DUPLICATE; detail = handle }))))
    twice true sized handle = refl
    twice false true handle = refl
    twice false false handle = refl

    by_table : (found : Option Table) → Refuses (Some (duplicate_answer app size found))
    by_table None = refl
    by_table (Some t) = twice (not (t.owner == app)) (not (t.size == size)) t.handle

    by_name : (row : Option ℕ) → Refuses (option_map (λ row. duplicate_answer app size (table_at s.tables row)) row)
    by_name None = tt
    by_name (Some row) = by_table (table_at s.tables row)

pub closed_refused : (t : Table) → Refuses (closed_refusal t)
closed_refused t = here (is_dump_only t) _ _ refl (here (is_some t.load) _ None refl tt)

pub busy_refused : (tables : Tables) (row : ℕ) (t : Table) → Refuses (busy_refusal tables row t)
busy_refused tables row t = first_of (lock_refusal (locker tables row t)) (buffer_refusal tables t) (by_lock (locker tables row t)) (by_buffers tables t)

pub image_refused : (tables : Tables) (row : ℕ) (t : Table) (len : ℕ) → Refuses (image_refusal tables row t len)
image_refused tables row t len = first_of (closed_refusal t) _ (closed_refused t) (here (not (len == t.size)) _ _ refl (busy_refused tables row t))

part_refused : (t : Table) (offset len : ℕ) → Refuses (part_refusal t offset len)
part_refused t offset len =
    here (len == 0) _ _ refl
    (here (nat_lt t.size (offset + len)) _ _ refl
    (here ((t.count == 0) && not (offset == 0 && len == t.size)) _ None refl tt))

pub file_refused : (tables : Tables) (row : ℕ) (t : Table) (file : TableFile) → Refuses (file_refusal tables row t file)
file_refused tables row t file =
    here (not (bytes_eq file.name t.name)) _ _ refl
    (first_of (part_refusal t file.offset (length file.image)) _ (part_refused t file.offset (length file.image)) (busy_refused tables row t))

open_refused : (tables : Tables) (row : ℕ) (t : Table) → Refuses (open_refusal tables row t)
open_refused tables row t = first_of (lock_refusal (cond (is_double t) (locker tables row t) None)) (buffer_refusal tables t) (by_lock (cond (is_double t) (locker tables row t) None)) (by_buffers tables t)

pub load_refused : (tables : Tables) (row : ℕ) (t : Table) (offset len : ℕ) → Refuses (load_refusal tables row t offset len)
load_refused tables row t offset len =
    here (is_dump_only t) _ _ refl
    (here t.activation _ _ refl
    (first_of (part_refusal t offset len) _ (part_refused t offset len) (here (is_some t.load) None _ tt (open_refused tables row t))))

pub validation_refused : (pending : List (ℕ × Bool)) (row : ℕ) (t : Table) (active : Bool) → Refuses (validation_refusal pending row t active)
validation_refused pending row t active =
    here (active && (t.count == 0)) _ _ refl
    (here (not active && not (is_some t.load)) _ _ refl
    (here (not active && t.activation) _ _ refl
    (here (not (is_some t.validator)) None _ tt
    (here (is_pending row active pending) _ _ refl
    (here (length pending == 10) _ None refl tt)))))

pub activation_refused : (pending : List (ℕ × Bool)) (row : ℕ) (t : Table) → Refuses (activation_refusal pending row t)
activation_refused pending row t =
    here (is_dump_only t) _ _ refl
    (here (not (is_some t.load)) _ _ refl
    (here t.activation _ _ refl
    (here (is_pending row false pending) _ _ refl
    (here (not (is_checked t)) _ None refl tt))))

pub update_refused : (tables : Tables) (row : ℕ) (t : Table) → Refuses (update_refusal tables row t)
update_refused tables row t = here (not t.activation) _ _ refl (by_lock (locker tables row t))

pub dump_refused : (tables : Tables) (t : Table) → Refuses (dump_refusal tables t)
dump_refused tables t = here (not (is_quiet t.dump)) _ _ refl (by_buffers tables t)

pub edit_refused : (tables : Tables) (row : ℕ) (t : Table) (offset len : ℕ) → Refuses (edit_refusal tables row t offset len)
edit_refused tables row t offset len =
    here (not (is_dump_only t)) _ _ refl
    (here (len == 0 || nat_lt t.size (offset + len)) _ _ refl
    (by_lock (locker tables row t)))
