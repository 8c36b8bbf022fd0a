-- What each request's effect says of marks and of images that go active: each has a verdict 0 in the effect, or the mark was there.
use Rattle.std.proofs.Common.{◌≡◌, ◌≢◌, ℕ, suc, zero, ◌<◌, ◌≤◌, List, [], ◌∷◌, ◌++◌, length, Bool, true, false, Option, Some, None, is_some, refl, ap, sym, ◌∙◌, inl, inr, ◌⊎◌, arith, ℤ, cond}
use Rattle.std.specs.Prelude.{slice_get, slice_index_or, slice_set, option_and_then}
use Rattle.std.proofs.lemmas.Bool.{cases_eq}
use Rattle.std.proofs.lemmas.Option.{same_Some}
use Rattle.tbl_model.specs.State.{State, Load, Table, Tables, Handle}
use Rattle.tbl_model.specs.Tables.{table_at}
use Rattle.tbl_model.specs.Effects.{Effect}
use Rattle.tbl_model.specs.Telemetry.{is_good}
use Rattle.tbl_model.specs.Vouched.{verdict_for}
use Rattle.tbl_model.specs.declared.telemetry.TelemetryEvent.{TelemetryEvent}
use Rattle.tbl_model.specs.declared.telemetry.TelemetryEvent.TheVariants.{Activated}
use Rattle.tbl_laws.proofs.Rows.{OneRow, set_row}
use Rattle.std.specs.List.{fold, range_with_len}
use Rattle.std.proofs.lemmas.List.{get_or-set_other}
use Rattle.tbl_model.specs.TableSteps.{handle_at, load_image, drop_before, with_image, put, put_in, set_time, set_time_in, set_file, activate, changed, changed_in, without_handle, give_back_by, remove, registered_by, with_table, with_handle}
use Rattle.tbl_model.specs.Sharing.{give_up, give_up_by, give_up_if, is_handle_of, without_handles_of}

-- ---- events and their images

pub record TellsIn (events : List TelemetryEvent) (images : List (Option (List ℕ))) (place : ℕ) (event : TelemetryEvent) (image : List ℕ) : Type 0 where
  pub event_is : slice_get events place ≡ Some event
  pub image_is : slice_index_or images place None ≡ Some image

-- one of the first so many events reports verdict 0 on this image for the table in this row
pub record PassesIn (events : List TelemetryEvent) (images : List (Option (List ℕ))) (row : ℕ) (image : List ℕ) (most : ℕ) : Type 0 where
  pub place : ℕ
  pub first : place < most
  pub event : TelemetryEvent
  pub tells : TellsIn events images place event image
  pub verdict : ℤ
  pub is : verdict_for row event ≡ Some verdict
  pub good : is_good verdict ≡ true

abbrev pub is_activated : TelemetryEvent → Bool
is_activated (Activated row count name) = true
is_activated _ = false

-- none of them reports an image that goes active
abbrev pub NoneActive : List TelemetryEvent → Type 0
NoneActive events = (place row count : ℕ) (name : List ℕ) → slice_get events place ≢ Some (Activated row count name)

-- ---- marks

-- each mark of a load was there before, on the same image of a table with the same function
abbrev pub Inherits : Tables → Tables → Type 0
Inherits old new = (row : ℕ) (u : Table) (l : Load) → table_at new row ≡ Some u → u.load ≡ Some l → l.checked ≡ true → (t : Table) × (table_at old row ≡ Some t) × (t.load ≡ Some l) × (t.validator ≡ u.validator)

pub inherits_same : (old new : Tables) → new.rows ≡ old.rows → Inherits old new
inherits_same old new same row u l there load checked = (u, ap (λ (rows : List (Option Table)). slice_index_or rows row None) (sym same) ∙ there, load, refl)

pub then_inherits : (old mid new : Tables) → Inherits old mid → Inherits mid new → Inherits old new
then_inherits old mid new first second row u l there load checked =
    let later = second row u l there load checked in
    let sooner = first row later.0 l later.1 later.2 checked in
    (sooner.0, sooner.1, sooner.2, sooner.3 ∙ later.3)

-- one row changes, and its load is as it was, or has no mark
pub inherits_row : (old new : Tables) (row : ℕ) (t u : Table) → table_at old row ≡ Some t → OneRow old new row (Some u) → u.validator ≡ t.validator → ((l : Load) → u.load ≡ Some l → l.checked ≡ true → t.load ≡ Some l) → Inherits old new
inherits_row old new row t u there one validator keeps k v l at load checked = elim (cases_eq k row) [
  | inl same ↦
      let is : u ≡ v = same_Some u v (sym one.here ∙ ap (λ (j : ℕ). table_at new j) (sym same) ∙ at) in
      (t, ap (λ (j : ℕ). table_at old j) same ∙ there, keeps l (ap (λ (x : Table). x.load) is ∙ load) checked, sym validator ∙ ap (λ (x : Table). x.validator) is)
  | inr other ↦ (v, sym (one.others k other) ∙ at, load, refl)
]

-- one row changes, and has no table then, or one without a load
pub inherits_none : (old new : Tables) (row : ℕ) (found : Option Table) → OneRow old new row found → ((u : Table) → found ≡ Some u → u.load ≡ None) → Inherits old new
inherits_none old new row found one none k v l at load checked = elim (cases_eq k row) [
  | inl same ↦ absurd (cc (none v (sym one.here ∙ ap (λ (j : ℕ). table_at new j) (sym same) ∙ at), load))
  | inr other ↦ (v, sym (one.others k other) ∙ at, load, refl)
]

-- ---- effects

-- each image that goes active on a table with a function has verdict 0 in an earlier event, or was marked; and so has each mark
pub record IsHonest (s : State) (e : Effect) : Type 0 where
  pub active : (place row count : ℕ) (name image : List ℕ) (t : Table) → TellsIn e.events e.images place (Activated row count name) image → table_at s.tables row ≡ Some t → is_some t.validator ≡ true
      → PassesIn e.events e.images row image place ⊎ ((l : Load) × (t.load ≡ Some l) × (l.checked ≡ true) × (l.image ≡ image))
  pub marks : (row : ℕ) (u : Table) (l : Load) → table_at e.next.tables row ≡ Some u → u.load ≡ Some l → l.checked ≡ true → is_some u.validator ≡ true
      → PassesIn e.events e.images row l.image (length e.events) ⊎ ((t : Table) × (table_at s.tables row ≡ Some t) × (t.load ≡ Some l) × (t.validator ≡ u.validator))

-- nothing goes active, and each mark was there
pub honest_plain : (s : State) (e : Effect) → NoneActive e.events → Inherits s.tables e.next.tables → IsHonest s e
honest_plain s e none inherits = record {
  active = λ place row count name image t tells there function. absurd (none place row count name tells.event_is);
  marks = λ row u l there load checked function. inr (inherits row u l there load checked);
}

pub none_active_nil : (events : List TelemetryEvent) → events ≡ [] → NoneActive events
none_active_nil [] empty zero row count name is = cc is
none_active_nil [] empty (suc place) row count name is = cc is
none_active_nil (d ∷ ds) empty place row count name is = cc empty

-- one event, which is none of an image that goes active
pub none_active_one : (d : TelemetryEvent) → is_activated d ≡ false → NoneActive (d ∷ [])
none_active_one d not_active zero row count name is = cc (ap is_activated (same_Some d (Activated row count name) is), not_active)
none_active_one d not_active (suc zero) row count name is = cc is
none_active_one d not_active (suc (suc place)) row count name is = cc is

-- more of them, at the end
pub slice_get_more : {X : Type 0} (xs : List X) (x y : X) (place : ℕ) → slice_get (xs ++ x ∷ []) place ≡ Some y → (slice_get xs place ≡ Some y) ⊎ ((place ≡ length xs) × (x ≡ y))
slice_get_more [] x y zero is = inr (refl, same_Some x y is)
slice_get_more [] x y (suc zero) is = absurd (cc is)
slice_get_more [] x y (suc (suc place)) is = absurd (cc is)
slice_get_more (z ∷ zs) x y zero is = inl is
slice_get_more (z ∷ zs) x y (suc place) is = elim (slice_get_more zs x y place is) [ inl there ↦ inl there | inr last ↦ inr (ap suc last.0, last.1) ]

pub none_active_more : (events : List TelemetryEvent) (d : TelemetryEvent) → NoneActive events → is_activated d ≡ false → NoneActive (events ++ d ∷ [])
none_active_more events d none not_active place row count name is = elim (slice_get_more events d (Activated row count name) place is) [
  | inl there ↦ none place row count name there
  | inr last ↦ cc (ap is_activated last.1, not_active)
]

-- what is reported goes on to be reported if more is
pub get_before : {X : Type 0} (xs ys : List X) (place : ℕ) (x : X) → slice_get xs place ≡ Some x → slice_get (xs ++ ys) place ≡ Some x
get_before [] ys zero x is = absurd (cc is)
get_before [] ys (suc place) x is = absurd (cc is)
get_before (z ∷ zs) ys zero x is = is
get_before (z ∷ zs) ys (suc place) x is = get_before zs ys place x is

pub index_before : {X : Type 0} (xs ys : List (Option X)) (place : ℕ) (x : X) → slice_index_or xs place None ≡ Some x → slice_index_or (xs ++ ys) place None ≡ Some x
index_before [] ys zero x is = absurd (cc is)
index_before [] ys (suc place) x is = absurd (cc is)
index_before (z ∷ zs) ys zero x is = is
index_before (z ∷ zs) ys (suc place) x is = index_before zs ys place x is

-- what comes before nothing
pub index_none : {X : Type 0} (xs : List (Option X)) (place : ℕ) (x : X) → slice_index_or (xs ++ None ∷ []) place None ≡ Some x → slice_index_or xs place None ≡ Some x
index_none [] zero x is = absurd (cc is)
index_none [] (suc place) x is = absurd (cc is)
index_none (z ∷ zs) zero x is = is
index_none (z ∷ zs) (suc place) x is = index_none zs place x is

pub passes_more : (events more : List TelemetryEvent) (images others : List (Option (List ℕ))) (row : ℕ) (image : List ℕ) (most least : ℕ) → most ≤ least → PassesIn events images row image most → PassesIn (events ++ more) (images ++ others) row image least
passes_more events more images others row image most least low p = record {
  place = p.place;
  first = let first = p.first in omega (arith, first, low);
  event = p.event;
  tells = record { event_is = get_before events more p.place p.event p.tells.event_is; image_is = index_before images others p.place image p.tells.image_is };
  verdict = p.verdict;
  is = p.is;
  good = p.good;
}

-- the last one reports it
pub last_tells : (events : List TelemetryEvent) (images : List (Option (List ℕ))) (d : TelemetryEvent) (image : List ℕ) → length events ≡ length images → TellsIn (events ++ d ∷ []) (images ++ Some image ∷ []) (length events) d image
last_tells events images d image long = record { event_is = get_last events d; image_is = ap (λ (k : ℕ). slice_index_or (images ++ Some image ∷ []) k None) long ∙ index_last images image } where
  get_last : {X : Type 0} (xs : List X) (x : X) → slice_get (xs ++ x ∷ []) (length xs) ≡ Some x
  get_last [] x = refl
  get_last (z ∷ zs) x = get_last zs x

  index_last : {X : Type 0} (xs : List (Option X)) (x : X) → slice_index_or (xs ++ Some x ∷ []) (length xs) None ≡ Some x
  index_last [] x = refl
  index_last (z ∷ zs) x = index_last zs x

-- ---- Changes of the tables that make no mark.

-- of a table, whose load keeps its mark, or has none
pub inherits_changed : (tables : Tables) (row : ℕ) (change : Table → Table) → ((t : Table) → (change t).validator ≡ t.validator) → ((t : Table) (l : Load) → (change t).load ≡ Some l → l.checked ≡ true → t.load ≡ Some l) → Inherits tables (changed row change tables)
inherits_changed tables row change validator load = by (table_at tables row) refl where
  by : (found : Option Table) → table_at tables row ≡ found → Inherits tables (changed_in tables row change found)
  by None there = inherits_same tables tables refl
  by (Some t) there = inherits_row tables (with_table row (change t) tables) row t (change t) there (set_row tables row t (change t) there) (validator t) (load t)

-- whose load stays
pub inherits_unseen : (tables : Tables) (row : ℕ) (change : Table → Table) → ((t : Table) → (change t).validator ≡ t.validator) → ((t : Table) → (change t).load ≡ t.load) → Inherits tables (changed row change tables)
inherits_unseen tables row change validator load = inherits_changed tables row change validator (λ t l is checked. sym (load t) ∙ is)

pub inherits_put : (tables : Tables) (row : ℕ) (image : List ℕ) → Inherits tables (put row image tables)
inherits_put tables row image = by (table_at tables row) refl where
  by : (found : Option Table) → table_at tables row ≡ found → Inherits tables (put_in tables row image found)
  by None there = inherits_same tables tables refl
  by (Some t) there = inherits_row tables _ row t (with_image tables.handles row image t) there (set_row tables row t (with_image tables.handles row image t) there) refl (λ l is checked. is)

inherits_time : (tables : Tables) (row seconds sub : ℕ) → Inherits tables (set_time row seconds sub tables)
inherits_time tables row seconds sub = by (table_at tables row) refl where
  by : (found : Option Table) → table_at tables row ≡ found → Inherits tables (set_time_in tables row seconds sub found)
  by None there = inherits_same tables tables refl
  by (Some t) there = inherits_row tables _ row t (record t { seconds = seconds; sub = sub }) there (set_row tables row t (record t { seconds = seconds; sub = sub }) there) refl (λ l is checked. is)

pub inherits_imaged : (tables : Tables) (row : ℕ) (image : List ℕ) (seconds sub : ℕ) → Inherits tables (set_time row seconds sub (put row image tables))
inherits_imaged tables row image seconds sub = then_inherits tables (put row image tables) (set_time row seconds sub (put row image tables)) (inherits_put tables row image) (inherits_time (put row image tables) row seconds sub)

pub inherits_file : (tables : Tables) (row : ℕ) (name : List ℕ) → Inherits tables (set_file row name tables)
inherits_file tables row name = inherits_unseen tables row (λ u. record u { file = name }) (λ u. refl) (λ u. refl)

pub inherits_updated : (tables : Tables) (row seconds sub : ℕ) → Inherits tables (set_time row seconds sub (activate row tables))
inherits_updated tables row seconds sub =
    then_inherits tables (activate row tables) (set_time row seconds sub (activate row tables)) (inherits_changed tables row (λ u. record (with_image tables.handles row (load_image u) u) { load = None; activation = false }) (λ u. refl) (λ u l is checked. absurd (cc is))) (inherits_time (activate row tables) row seconds sub)

-- a pin ends
pub inherits_released : (tables : Tables) (m : ℕ) (h : Handle) (row : ℕ) (t : Table) → table_at tables row ≡ Some t
    → Inherits tables (with_table row (drop_before (slice_set tables.handles m (Some (record h { pin = None }))) row t) (with_handle m (record h { pin = None }) tables))
inherits_released tables m h row t there =
    let freed : Tables = with_handle m (record h { pin = None }) tables in
    let u : Table = drop_before (slice_set tables.handles m (Some (record h { pin = None }))) row t in
    then_inherits tables freed (with_table row u freed) (inherits_same tables freed refl) (inherits_row freed (with_table row u freed) row t u there (set_row freed row t u there) refl (λ l is checked. is))

-- handles and tables that are given up
inherits_back : (tables : Tables) (m : ℕ) (row : Option ℕ) → Inherits tables (give_back_by m tables row)
inherits_back tables m None = inherits_same tables (without_handle m tables) refl
inherits_back tables m (Some row) = then_inherits tables (without_handle m tables) (changed row (drop_before (slice_set tables.handles m None) row) (without_handle m tables)) (inherits_same tables (without_handle m tables) refl) (inherits_unseen (without_handle m tables) row (drop_before (slice_set tables.handles m None) row) (λ u. refl) (λ u. refl))

gone_row : {X : Type 0} (xs : List (Option X)) (n : ℕ) → slice_index_or (slice_set xs n None) n None ≡ None
gone_row [] zero = refl
gone_row [] (suc n) = refl
gone_row (x ∷ xs) zero = refl
gone_row (x ∷ xs) (suc n) = gone_row xs n

inherits_removed : (tables : Tables) (row : ℕ) → Inherits tables (remove row tables)
inherits_removed tables row = inherits_none tables (remove row tables) row None (record { here = gone_row tables.rows row; others = λ k other. get_or-set_other tables.rows row k None None other }) (λ u is. absurd (cc is))

pub inherits_given_up : (m : ℕ) (s : State) → Inherits s.tables (give_up m s).tables
inherits_given_up m s = by (registered_by s.tables m) where
  by : (row : Option ℕ) → Inherits s.tables (give_up_by m s row).tables
  by None = inherits_back s.tables m (option_and_then (λ (h : Handle). h.row) (handle_at s.tables m))
  by (Some row) = then_inherits s.tables (remove row s.tables) (without_handle m (remove row s.tables)) (inherits_removed s.tables row) (inherits_same (remove row s.tables) (without_handle m (remove row s.tables)) refl)

inherits_left : (app : ℕ) (numbers : List ℕ) (s : State) → Inherits s.tables (fold (give_up_if app) s numbers).tables
inherits_left app [] s = inherits_same s.tables s.tables refl
inherits_left app (m ∷ numbers) s = then_inherits s.tables (give_up_if app s m).tables (fold (give_up_if app) (give_up_if app s m) numbers).tables (one (is_handle_of app (handle_at s.tables m))) (inherits_left app numbers (give_up_if app s m)) where
  one : (b : Bool) → Inherits s.tables (cond b (give_up m s) s).tables
  one true = inherits_given_up m s
  one false = inherits_same s.tables s.tables refl

pub inherits_without : (app : ℕ) (s : State) → Inherits s.tables (without_handles_of app s).tables
unfolding without_handles_of
inherits_without app s = inherits_left app (range_with_len 0 (length s.tables.handles)) s
