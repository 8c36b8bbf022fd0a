-- What is excluded once no rung of a ladder has refused.
use Rattle.std.proofs.Common.{◌≡◌, ℕ, ◌+◌, ◌<◌, ◌≤◌, ◌==◌, List, Bool, true, false, not, ◌&&◌, ◌||◌, cond, nat_lt, length, Option, Some, None, is_some, is_none, refl, arith}
use Rattle.std.specs.Option.{option_map, option_or}
use Rattle.std.proofs.lemmas.Bool.Decides.{nat_tests}
use Rattle.tbl_kinds.specs.Names.{is_name}
use Rattle.tbl_kinds.specs.Limits.{table_limit}
use Rattle.tbl_kinds.specs.Free.{least_free}
use Rattle.tbl_model.specs.State.{State, Table, Tables}
use Rattle.tbl_model.specs.Tables.{table_at, is_double, is_dump_only, in_use}
use Rattle.tbl_model.specs.Dumps.{edit_refusal}
use Rattle.tbl_model.specs.TableSteps.{find, locker, is_checked}
use Rattle.tbl_model.specs.Pending.{is_pending}
use Rattle.tbl_kinds.specs.TableFiles.{TableFile}
use Rattle.std.specs.Str.{bytes_eq}
use Rattle.tbl_model.specs.Refusals.{are_options, may_use, plan_refusal, lock_refusal, buffer_refusal, open_refusal, closed_refusal, busy_refusal, image_refusal, part_refusal, file_refusal, load_refusal, validation_refusal, activation_refusal, update_refusal}
use Rattle.tbl_model.specs.Registration.{duplicate_answer, name_refusal, registration_refusal}
use Rattle.tbl_kinds.specs.declared.entry.Answer.{Answer}

passed : (b : Bool) (a : Answer) (rest : Option Answer) → cond b (Some a) rest ≡ None → (b ≡ false) × (rest ≡ None)
passed true a rest none = absurd (cc none)
passed false a rest none = (refl, none)

neither : (a b : Option Answer) → option_or a b ≡ None → (a ≡ None) × (b ≡ None)
neither None b none = (refl, none)
neither (Some x) b none = absurd (cc none)

unlocked : (lock : Option ℕ) → lock_refusal lock ≡ None → lock ≡ None
unlocked None none = refl
unlocked (Some handle) none = absurd (cc none)

not_false : (b : Bool) → not b ≡ false → b ≡ true
not_false true is = refl
not_false false is = absurd (cc is)

none_open : {X : Type 0} (load : Option X) → is_some load ≡ false → load ≡ None
none_open None is = refl
none_open (Some x) is = absurd (cc is)

-- a table into which its owner may load
pub may_take : (t : Table) → closed_refusal t ≡ None → (is_dump_only t ≡ false) × (t.load ≡ None)
may_take t none =
    let a = passed (is_dump_only t) _ _ none in
    let b = passed (is_some t.load) _ _ a.1 in
    (a.0, none_open t.load b.0)

-- and of which a new image may go active
pub not_busy : (tables : Tables) (row : ℕ) (t : Table) → busy_refusal tables row t ≡ None → locker tables row t ≡ None
not_busy tables row t none = unlocked _ (neither (lock_refusal (locker tables row t)) (buffer_refusal tables t) none).0

-- an image that is taken as the next one of its table
pub record TakesImage (tables : Tables) (row : ℕ) (t : Table) (len : ℕ) : Type 0 where
  pub dump_only : is_dump_only t ≡ false
  pub no_load : t.load ≡ None
  pub size : len ≡ t.size
  pub unlocked : locker tables row t ≡ None

pub image_taken : (tables : Tables) (row : ℕ) (t : Table) (len : ℕ) → image_refusal tables row t len ≡ None → TakesImage tables row t len
image_taken tables row t len none =
    let parts = neither (closed_refusal t) _ none in
    let open_to = may_take t parts.0 in
    let c = passed (not (len == t.size)) _ _ parts.1 in
    let same : (len == t.size) ≡ true = not_false _ c.0 in record {
      dump_only = open_to.0;
      no_load = open_to.1;
      size = grind (arith, nat_tests);
      unlocked = not_busy tables row t c.1;
    }

-- a load that may open
pub record MayOpen (tables : Tables) (row : ℕ) (t : Table) : Type 0 where
  pub unlocked : is_double t ≡ true → locker tables row t ≡ None
  pub buffer : is_double t ≡ false → (length (in_use tables) == 4) ≡ false

pub may_open : (tables : Tables) (row : ℕ) (t : Table) → open_refusal tables row t ≡ None → MayOpen tables row t
may_open tables row t none =
    let d = neither (lock_refusal (cond (is_double t) (locker tables row t) None)) (buffer_refusal tables t) none in
    let lock = unlocked _ d.0 in
    let full = passed (not (is_double t) && length (in_use tables) == 4) _ _ d.1 in record {
      unlocked = λ double. rw double at lock;
      buffer = λ single. rw single at full.0;
    }

-- bytes that are a part of an image of their table
pub part_taken : (t : Table) (offset len : ℕ) → part_refusal t offset len ≡ None → (offset + len ≤ t.size) × ((t.count == 0) ≡ true → (offset == 0 && len == t.size) ≡ true)
part_taken t offset len none =
    let c = passed (len == 0) _ _ none in
    let d = passed (nat_lt t.size (offset + len)) _ _ c.1 in
    let e = passed ((t.count == 0) && not (offset == 0 && len == t.size)) _ None d.1 in
    (let past = d.0 in grind (arith, nat_tests), λ never. not_false _ (rw never at e.0))

-- bytes that go into the load of their table
pub record TakesLoad (tables : Tables) (row : ℕ) (t : Table) (offset len : ℕ) : Type 0 where
  pub dump_only : is_dump_only t ≡ false
  pub no_activation : t.activation ≡ false
  pub within : offset + len ≤ t.size
  pub whole : (t.count == 0) ≡ true → (offset == 0 && len == t.size) ≡ true
  pub opens : t.load ≡ None → open_refusal tables row t ≡ None

pub load_taken : (tables : Tables) (row : ℕ) (t : Table) (offset len : ℕ) → load_refusal tables row t offset len ≡ None → TakesLoad tables row t offset len
load_taken tables row t offset len none =
    let a = passed (is_dump_only t) _ _ none in
    let b = passed t.activation _ _ a.1 in
    let c = neither (part_refusal t offset len) _ b.1 in
    let part = part_taken t offset len c.0 in record {
      dump_only = a.0;
      no_activation = b.0;
      within = part.0;
      whole = part.1;
      opens = λ closed. rw closed at c.1;
    }

-- a file that its table's owner may load
pub file_taken : (tables : Tables) (row : ℕ) (t : Table) (file : TableFile) → file_refusal tables row t file ≡ None
    → (file.offset + length file.image ≤ t.size) × (locker tables row t ≡ None)
file_taken tables row t file none =
    let a = passed (not (bytes_eq file.name t.name)) _ _ none in
    let parts = neither (part_refusal t file.offset (length file.image)) _ a.1 in
    ((part_taken t file.offset (length file.image) parts.0).0, not_busy tables row t parts.1)

-- a validation that may be requested
pub record TakesValidation (pending : List (ℕ × Bool)) (row : ℕ) (t : Table) (active : Bool) : Type 0 where
  pub loaded : active ≡ true → (t.count == 0) ≡ false
  pub open_load : active ≡ false → is_some t.load ≡ true
  pub no_activation : active ≡ false → t.activation ≡ false
  pub new : is_some t.validator ≡ true → is_pending row active pending ≡ false
  pub room : is_some t.validator ≡ true → (length pending == 10) ≡ false

pub validation_taken : (pending : List (ℕ × Bool)) (row : ℕ) (t : Table) (active : Bool) → validation_refusal pending row t active ≡ None → TakesValidation pending row t active
validation_taken pending row t active none =
    let a = passed (active && (t.count == 0)) _ _ none in
    let b = passed (not active && not (is_some t.load)) _ _ a.1 in
    let c = passed (not active && t.activation) _ _ b.1 in
    let rest = c.1 in record {
      loaded = λ is. rw is at a.0;
      open_load = λ is. not_false _ (rw is at b.0);
      no_activation = λ is. rw is at c.0;
      new = λ function. (passed (is_pending row active pending) _ _ (rw function at rest)).0;
      room = λ function. (passed (length pending == 10) _ None (passed (is_pending row active pending) _ _ (rw function at rest)).1).0;
    }

-- an activation that may be requested
pub record TakesActivation (pending : List (ℕ × Bool)) (row : ℕ) (t : Table) : Type 0 where
  pub dump_only : is_dump_only t ≡ false
  pub open_load : is_some t.load ≡ true
  pub no_activation : t.activation ≡ false
  pub none_pending : is_pending row false pending ≡ false
  pub checked : is_checked t ≡ true

pub activation_taken : (pending : List (ℕ × Bool)) (row : ℕ) (t : Table) → activation_refusal pending row t ≡ None → TakesActivation pending row t
activation_taken pending row t none =
    let a = passed (is_dump_only t) _ _ none in
    let b = passed (not (is_some t.load)) _ _ a.1 in
    let c = passed t.activation _ _ b.1 in
    let d = passed (is_pending row false pending) _ _ c.1 in
    let e = passed (not (is_checked t)) _ None d.1 in record {
      dump_only = a.0;
      open_load = not_false _ b.0;
      no_activation = c.0;
      none_pending = d.0;
      checked = not_false _ e.0;
    }

-- an update that is made
pub update_taken : (tables : Tables) (row : ℕ) (t : Table) → update_refusal tables row t ≡ None → (t.activation ≡ true) × (locker tables row t ≡ None)
update_taken tables row t none =
    let a = passed (not t.activation) _ _ none in
    (not_false _ a.0, unlocked _ a.1)

-- an edit that is made
pub edit_taken : (tables : Tables) (row : ℕ) (t : Table) (offset len : ℕ) → edit_refusal tables row t offset len ≡ None → (is_dump_only t ≡ true) × (offset + len ≤ t.size) × (locker tables row t ≡ None)
edit_taken tables row t offset len none =
    let a = passed (not (is_dump_only t)) _ _ none in
    let b = passed (len == 0 || nat_lt t.size (offset + len)) _ _ a.1 in
    (not_false _ a.0, let past = b.0 in grind (arith, nat_tests), unlocked _ b.1)

-- a registration that may look at the registered tables
pub record TakesPlan (kit : List (Option ℕ)) (app size flags : ℕ) (validator : Option ℕ) : Type 0 where
  pub some_bytes : 0 < size
  pub within : size ≤ table_limit
  pub may : may_use kit app validator ≡ true

pub plan_taken : (kit : List (Option ℕ)) (app : ℕ) (short : List ℕ) (size flags : ℕ) (validator : Option ℕ) → plan_refusal kit app short size flags validator ≡ None → TakesPlan kit app size flags validator
plan_taken kit app short size flags validator none =
    let a = passed (not (is_name short)) _ _ none in
    let b = passed (size == 0 || nat_lt table_limit size) _ _ a.1 in
    let c = passed (not (are_options flags)) _ _ b.1 in
    let d = passed (not (may_use kit app validator)) _ None c.1 in
    let sized = b.0 in
    record {
      some_bytes = grind (arith, nat_tests);
      within = grind (arith, nat_tests);
      may = not_false _ d.0;
    }

-- a registration that nothing refuses
pub record TakesName (s : State) (app : ℕ) (name short : List ℕ) (size flags : ℕ) (validator : Option ℕ) : Type 0 where
  pub plan : plan_refusal s.kit app short size flags validator ≡ None
  pub new : find name s.tables ≡ None
  pub row : (row : ℕ) × (least_free s.tables.rows ≡ Some row)
  pub handle : (handle : ℕ) × (least_free s.tables.handles ≡ Some handle)

pub registration_taken : (s : State) (app : ℕ) (name short : List ℕ) (size flags : ℕ) (validator : Option ℕ) → registration_refusal s app name short size flags validator ≡ None → TakesName s app name short size flags validator
registration_taken s app name short size flags validator none =
    let plan = neither (plan_refusal s.kit app short size flags validator) _ none in
    let new = neither (name_refusal s.tables app size name) _ plan.1 in
    let row = passed (is_none (least_free s.tables.rows)) _ _ new.1 in
    let handle = passed (is_none (least_free s.tables.handles)) _ None row.1 in
    record {
      plan = plan.0;
      new = unmapped (find name s.tables) new.0;
      row = there (least_free s.tables.rows) row.0;
      handle = there (least_free s.tables.handles) handle.0;
    }
  where
    there : (found : Option ℕ) → is_none found ≡ false → (n : ℕ) × (found ≡ Some n)
    there None is = absurd (cc is)
    there (Some n) is = (n, refl)

    unmapped : (found : Option ℕ) → option_map (λ row. duplicate_answer app size (table_at s.tables row)) found ≡ None → found ≡ None
    unmapped None is = refl
    unmapped (Some row) is = absurd (cc is)
