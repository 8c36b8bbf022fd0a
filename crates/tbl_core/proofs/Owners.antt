-- A call that the owner of a table alone may make is what is done to the table of its handle, or why that isn't done.
use Rattle.std.proofs.Common.{◌≡◌, ◌∙◌, ℕ, List, [], ◌∷◌, true, false, ◌≤◌, Option, Some, None, Result, Ok, Err, refl, sym, ap, subst, arith}
use Rattle.std.specs.Prelude.{OnOk, IfOk}
use Rattle.std.specs.Result.{is_err}
use Rattle.std.proofs.lemmas.Option.{same_Some}
use Rattle.tbl_model.specs.State.{State, Table, Tables}
use Rattle.tbl_model.specs.Tables.{table_at}
use Rattle.tbl_model.specs.Effects.{Effect, answered, answered_left}
use Rattle.tbl_model.specs.Telemetry.{Question}
use Rattle.tbl_model.specs.Given.{Given, nothing_given}
use Rattle.tbl_model.specs.Refusals.{by_answer, closed_refusal, update_refusal}
use Rattle.tbl_model.specs.Subjects.{by_table, if_handle, if_owner, if_file}
use Rattle.tbl_model.specs.AppLoads.{load_image_of, load_image_effect, load_file_of, app_file_effect}
use Rattle.tbl_model.specs.Activations.{updated_effect, update_effect}
use Rattle.tbl_model.specs.Validations.{first_pending, do_validation, app_validate_effect}
use Rattle.tbl_model.specs.Management.{managed_effect, manage_answer, all_done, manage_effect}
use Rattle.tbl_model.specs.Sharing.{notify_effect, noticed_effect}
use Rattle.tbl_model.specs.Dumps.{dump_to_buffer_effect, edit_effect, filled_effect, edited_effect}
use Rattle.tbl_model.specs.Dispatch.{app_effect, effect_of}
use Rattle.tbl_kinds.specs.declared.status.Status.{Status}
use Rattle.tbl_kinds.specs.declared.status.TheConstants.Status.{ERR_UNREGISTERED}
use Rattle.tbl_kinds.specs.declared.request.Request.{Request}
use Rattle.tbl_kinds.specs.declared.request.Request.TheVariants as ask
use Rattle.tbl_kinds.specs.Blocks.{Store as Blocks}
use Rattle.std.specs.Option.{option_map}
use Rattle.tbl_model.specs.Copies.{then_copy}
use Rattle.tbl_kinds.specs.declared.note.BankNote.{BankNote}
use Rattle.tbl_kinds.specs.Notes.{untouched}
use Rattle.tbl_kinds.specs.declared.entry.Answer.{Answer}
use Rattle.tbl_kinds.specs.declared.request.Actor.{Actor}
use Rattle.tbl_kinds.specs.declared.request.Actor.TheVariants.{App}
use Rattle.request_effects.specs.Requests.{owners_handle}
use Rattle.tbl_core.specs.Requests.{activates, told_handle}
use Rattle.request_effects.specs.Effects.{IsEffect, IsWithin, given_of, quiet_effect}
use Rattle.tbl_core.specs.Service.{PartsView, IsStateOf, owned_in, Leaves, IsJudged, Does, LeadsTo}
use Rattle.tbl_core.proofs.Doing.{answered as does_answer}
use Rattle.tbl_core.proofs.Verdicts.{none_judged}
use Rattle.request_effects.specs.Effects.{Effect as Done}
use Rattle.tbl_core.specs.Owned.{owned_effect, owned_at, copied_at}
use Rattle.tbl_outside.specs.declared.validator.Validator.{Ghosts as ValidatorGhosts}

module _ (s : State) (app handle : ℕ) (given : Given) where
  module _ (status : Status) (no : (effect : ℕ → Effect) → if_handle s app handle true effect ≡ answered s status 0) where
    not_done : (h : ℕ) → Some h ≡ Some handle → (effect : ℕ → Table → Effect) → Some (if_owner s app h effect) ≡ Some (answered s status 0)
    not_done h is effect = ap (λ n. Some (if_owner s app n effect)) (same_Some h handle is) ∙ ap (λ (e : Effect). Some e) (no (λ row. by_table s ERR_UNREGISTERED (table_at s.tables row) (effect row)))

    -- the handle may not be used so
    pub refused : (request : Request) → owners_handle request ≡ Some handle → app_effect s app request given ≡ Some (answered s status 0)
    unfolding load_image_effect app_file_effect update_effect app_validate_effect manage_effect notify_effect dump_to_buffer_effect edit_effect
    refused (ask.LoadImage h image) is = not_done h is (λ row t. then_copy row given.note (load_image_of s image.list given row t))
    refused (ask.LoadFile h name) is = not_done h is (λ row t. then_copy row given.note (by_answer s (closed_refusal t) (if_file s name (load_file_of s name given row t))))
    refused (ask.Update h) is = not_done h is (λ row t. then_copy row given.note (by_answer s (update_refusal s.tables row t) (updated_effect s row t)))
    refused (ask.Validate h) is = not_done h is (λ row t. do_validation s given row t (first_pending s.pending row))
    refused (ask.Manage h) is = not_done h is (λ row t. then_copy row given.note (managed_effect s (manage_answer s.tables row t) (all_done s given row)))
    refused (ask.DumpToBuffer h) is = not_done h is (filled_effect s)
    refused (ask.Edit h offset bytes) is = not_done h is (λ row t. edited_effect s row t offset bytes.list)
    refused (ask.Notify h msg code parameter) is = not_done h is (λ row t. noticed_effect s row msg code parameter)
    refused request is = absurd (cc is)

  module _ (row : ℕ) (t : Table) (may : (effect : ℕ → Effect) → if_handle s app handle true effect ≡ effect row) (there : table_at s.tables row ≡ Some t) where
    done_to : (h : ℕ) → Some h ≡ Some handle → (effect : ℕ → Table → Effect) → Some (if_owner s app h effect) ≡ Some (effect row t)
    done_to h is effect =
        ap (λ n. Some (if_owner s app n effect)) (same_Some h handle is) ∙ ap (λ (e : Effect). Some e) (may (λ r. by_table s ERR_UNREGISTERED (table_at s.tables r) (effect r)))
        ∙ ap (λ (found : Option Table). Some (by_table s ERR_UNREGISTERED found (effect row))) there

    -- it leads to this table
    pub taken : (request : Request) → owners_handle request ≡ Some handle → app_effect s app request given ≡ copied_at request row given.note (owned_at (table_at s.tables row) s row request given)
    unfolding load_image_effect app_file_effect update_effect app_validate_effect manage_effect notify_effect dump_to_buffer_effect edit_effect
    taken request is = by request is ∙ ap (λ (found : Option Table). copied_at request row given.note (owned_at found s row request given)) (sym there)
      where
        by : (request : Request) → owners_handle request ≡ Some handle → app_effect s app request given ≡ copied_at request row given.note (owned_effect s row t request given)
        by (ask.LoadImage h image) is = done_to h is (λ row t. then_copy row given.note (load_image_of s image.list given row t))
        by (ask.LoadFile h name) is = done_to h is (λ row t. then_copy row given.note (by_answer s (closed_refusal t) (if_file s name (load_file_of s name given row t))))
        by (ask.Update h) is = done_to h is (λ row t. then_copy row given.note (by_answer s (update_refusal s.tables row t) (updated_effect s row t)))
        by (ask.Validate h) is = done_to h is (λ row t. do_validation s given row t (first_pending s.pending row))
        by (ask.Manage h) is = done_to h is (λ row t. then_copy row given.note (managed_effect s (manage_answer s.tables row t) (all_done s given row)))
        by (ask.DumpToBuffer h) is = done_to h is (filled_effect s)
        by (ask.Edit h offset bytes) is = done_to h is (λ row t. edited_effect s row t offset bytes.list)
        by (ask.Notify h msg code parameter) is = done_to h is (λ row t. noticed_effect s row msg code parameter)
        by request is = absurd (cc is)

-- which call it is decides whether anything is copied after it
pub not_copied : (request : Request) (row : ℕ) (note : BankNote) (o : Option Effect) → activates request ≡ false → copied_at request row note o ≡ o
not_copied (ask.LoadImage h image) row note o never = absurd (cc never)
not_copied (ask.LoadFile h name) row note o never = absurd (cc never)
not_copied (ask.Update h) row note o never = absurd (cc never)
not_copied (ask.Manage h) row note o never = absurd (cc never)
not_copied request row note o never = refl

pub is_copied : (request : Request) (row : ℕ) (note : BankNote) (o : Option Effect) → activates request ≡ true → copied_at request row note o ≡ option_map (then_copy row note) o
is_copied (ask.LoadImage h image) row note o can = refl
is_copied (ask.LoadFile h name) row note o can = refl
is_copied (ask.Update h) row note o can = refl
is_copied (ask.Manage h) row note o can = refl
is_copied request row note o can = absurd (cc can)

-- an effect that leaves a state which the parts represent
pub leaves_of : {B C : Type 0} (blocks : Blocks) (done : Done) (new : PartsView B C) (questions : List Question) (e : Effect) (after : State) → IsEffect done questions after e → IsStateOf blocks new after → Leaves blocks done new (Some e)
leaves_of blocks done new questions e after is stands = (
  record {
    status = is.status;
    detail = is.detail;
    bytes = is.bytes;
    table = is.table;
    events = is.events;
    shown = is.shown;
    questions = refl;
    calls = is.calls;
    notice = is.notice;
    next = refl;
  },
  subst (IsStateOf blocks new) (sym is.next) stands,
)

-- an owner's call that is answered so, leaves this state, and that no packet reports
module _ {B C : Type 0} (v : ValidatorGhosts C) (old new : PartsView B C) (app handle row : ℕ) (request : Request) (owners : owners_handle request ≡ Some handle) (plain : activates request ≡ false)
    (t : Table) (there : table_at old.tables row ≡ Some t) (may : (s : State) → IsStateOf s.store old s → (effect : ℕ → Effect) → if_handle s app handle true effect ≡ effect row)
    (answer : Answer) (after : State → State) (is : (s : State) → IsStateOf s.store old s → owned_effect s row t request nothing_given ≡ Some (answered_left s answer (after s)))
    (stands : (s : State) → IsStateOf s.store old s → IsStateOf s.store new (after s)) (kit : new.kit ≡ old.kit) (store : new.store ≡ old.store) where
  pub owner_answered : Does v 0 old new (λ s given. app_effect s app request given) (quiet_effect answer [])
  owner_answered = does_answer v old new (λ s given. app_effect s app request given) answer after
      (λ s stood. let found = ap (λ (tables : Tables). table_at tables row) stood.tables ∙ there in
      taken s app handle nothing_given row t (may s stood) found request owners
      ∙ not_copied request row untouched (owned_at (table_at s.tables row) s row request nothing_given) plain
      ∙ ap (λ (o : Option Table). owned_at o s row request nothing_given) found ∙ is s stood)
      stands (rw kit (none_judged v old.kit [] untouched (None ∷ None ∷ []) refl refl)) store

-- and one that is refused
pub owner_refused : {B C : Type 0} (v : ValidatorGhosts C) (old : PartsView B C) (app handle : ℕ) (request : Request) → owners_handle request ≡ Some handle → (status : Status) (answer : Answer)
    → answer.status ≡ status → answer.detail ≡ 0 → ((s : State) → IsStateOf s.store old s → (effect : ℕ → Effect) → if_handle s app handle true effect ≡ answered s status 0)
    → Does v 0 old old (λ s given. app_effect s app request given) (quiet_effect answer [])
owner_refused v old app handle request owners status answer same plain never = does_answer v old old (λ s given. app_effect s app request given) answer (λ s. s)
    (λ s stood. refused s app handle nothing_given status (never s stood) request owners ∙ (λ i. Some (answered s (sym same i) (sym plain i))))
    (λ s stood. stood) (none_judged v old.kit [] untouched (None ∷ None ∷ []) refl refl) refl

-- what was done to the table of a handle that leads there is what the application requested, if nothing is copied after it
pub leads_plainly : {B C : Type 0} (v : ValidatorGhosts C) (most : ℕ) (old new : PartsView B C) (actor : Actor) (row : ℕ) (request : Request) (done : Done) → LeadsTo old actor request row → activates request ≡ false
    → Does v most old new (owned_in row request) done → Does v most old new (λ s given. effect_of s actor request given) done
leads_plainly v most old new actor row request done leads plain does = record {
  effect = λ s stands. subst (Leaves s.store done new) (sym (same s stands)) (does.effect s stands);
  judged = λ s stands. subst (IsJudged v old.kit new.kit done.verdicts) (sym (same s stands)) (does.judged s stands);
  store = does.store;
  note = does.note;
  two = does.two;
  within = does.within;
} where
  same : (s : State) → IsStateOf s.store old s → effect_of s actor request (given_of done) ≡ owned_in row request s (given_of done)
  same s stands = leads.means s stands (given_of done) ∙ not_copied request row done.note (owned_in row request s (given_of done)) plain

-- where a handle leads
pub leads_to : {B C : Type 0} (old : PartsView B C) (app handle row : ℕ) (request : Request) → owners_handle request ≡ Some handle → (t : Table) → table_at old.tables row ≡ Some t
    → ((s : State) → IsStateOf s.store old s → (effect : ℕ → Effect) → if_handle s app handle true effect ≡ effect row) → LeadsTo old (App app) request row
leads_to old app handle row request owners t there may = record {
  table = rw there cc;
  means = λ s stood given. taken s app handle given row t (may s stood) (ap (λ (tables : Tables). table_at tables row) stood.tables ∙ there) request owners;
}

-- whoever asks for what packets report is an owner
pub told_owners : (request : Request) (handle : ℕ) → told_handle request ≡ Some handle → owners_handle request ≡ Some handle
told_owners (ask.LoadImage h image) handle is = is
told_owners (ask.LoadFile h name) handle is = is
told_owners (ask.Update h) handle is = is
told_owners (ask.Validate h) handle is = is
told_owners (ask.Manage h) handle is = is
told_owners request handle is = absurd (cc is)

-- ---- results

-- what holds if a call was done holds of what it gave
pub on_ok : {X Y : Type 0} (P : Type 0) (r : Result X Y) → OnOk r P → IfOk r (λ x. P)
on_ok P (Ok x) p = p
on_ok P (Err y) p = tt

-- what a result that is Ok ensures, as an argument
pub by_ok : {X Y P Q : Type 0} (r : Result X Y) → false ≡ is_err r → OnOk r P → (P → Q) → Q
by_ok (Ok x) is p next = next p
by_ok (Err y) is p next = absurd (cc is)

-- fewer events than that
pub at_most : (least most : ℕ) (done : Done) → least ≤ most → IsWithin least done → IsWithin most done
at_most least most done less within = let few = within.events in record { events = omega (arith, less, few); notice = within.notice; bytes = within.bytes }
