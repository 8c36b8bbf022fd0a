-- What a request does, by cases: it is refused, or it does what it asks. The cases of each kind of request are in a file of their own, and a law of
-- all requests cites a case for each.
use Rattle.std.proofs.Common.{◌≡◌, ℕ, eqb, List, [], ◌∷◌, length, Bool, true, false, not, ◌&&◌, cond, Option, Some, None, is_some, Result, Ok, Err, refl, sym, subst, ◌⊎◌, inl, inr}
use Rattle.std.specs.Option.{option_map, option_map_or}
use Rattle.std.specs.Prelude.{IfSome}
use Rattle.std.proofs.lemmas.Bool.{eqb-true, not-false, cond_both}
use Rattle.tbl_kinds.specs.Blocks.{Store}
use Rattle.tbl_kinds.specs.StoreSteps.{stored_at}
use Rattle.tbl_kinds.specs.StoreCalls.{StoreCall, copy, restore}
use Rattle.tbl_kinds.specs.Notes.{restored_image}
use Rattle.tbl_kinds.specs.Drawer.{contents_of}
use Rattle.tbl_kinds.specs.TableFiles.{TableFile, FileFlaw, no_std_header, bad_content, bad_subtype, bad_spacecraft, bad_processor, no_table_header, incomplete, too_big, file_flaw, file_status, file_detail, table_file_in}
use Rattle.tbl_model.specs.State.{State, Table, Handle, Tables}
use Rattle.tbl_model.specs.Tables.{table_at, is_critical}
use Rattle.tbl_model.specs.TableSteps.{handle_at, access_of, Access, is_that, check_row, check_handle}
use Rattle.tbl_model.specs.Effects.{Effect, answered}
use Rattle.tbl_model.specs.Subjects.{name_of, by_app, by_check, if_handle, by_table, if_its_table, by_flaw, by_contents, if_file}
use Rattle.tbl_model.specs.Copies.{went_active, block_of, copy_failed, copied_to, copied_of, then_copy}
use Rattle.tbl_model.specs.Refusals.{by_answer, by_refusal}
use Rattle.tbl_model.specs.BankCounts.{tells_trouble}
use Rattle.tbl_model.specs.Boots.{boot, stopped}
use Rattle.tbl_model.specs.StoreUse.{with_calls, by_outcome}
use Rattle.tbl_model.specs.AppBlocks.{has_size}
use Rattle.tbl_kinds.specs.declared.entry.Answer.{Answer}
use Rattle.tbl_kinds.specs.declared.note.BankNote.{BankNote}
use Rattle.tbl_kinds.specs.declared.note.Outcome.{Outcome}
use Rattle.tbl_kinds.specs.declared.note.Outcome.TheVariants.{Untouched, Done, Failed, Stopped}
use Rattle.tbl_kinds.specs.declared.request.ResetKind.TheVariants.{Processor}
use Rattle.tbl_kinds.specs.declared.status.Status.{Status}
use Rattle.tbl_kinds.specs.declared.status.TheConstants.Status.{ERR_BAD_APP, ERR_INVALID_HANDLE, ERR_NO_ACCESS, ERR_UNREGISTERED, ERR_FILE_NOT_FOUND, INFO_STOPPED, ERR_CDS_FAULT}
use Rattle.tbl_model.proofs.RefusalAnswers.{is_refusal, Refuses}

-- this holds of the effect, if the request has one
abbrev pub OfEffect : (Effect → Type 0) → Option Effect → Type 0
OfEffect P None = Unit {0}
OfEffect P (Some e) = P e

-- and so what follows of it
pub part : {P Q : Effect → Type 0} → ((e : Effect) → P e → Q e) → (o : Option Effect) → OfEffect P o → OfEffect Q o
part follows None is = is
part follows (Some e) is = follows e is

-- a handle of the application, with the table that it leads to
pub record Leads (tables : Tables) (app m : ℕ) (a : Access) : Type 0 where
  pub place : handle_at tables m ≡ Some a.handle
  pub own : a.handle.app ≡ app
  pub row_is : a.handle.row ≡ Some a.row
  pub there : table_at tables a.row ≡ Some a.table

-- the table in this row, to which this handle leads
abbrev pub access_at : Handle → ℕ → Table → Access
access_at h row t = record { handle = h; row = row; table = t }

-- what a handle leads to
pub access_is : (tables : Tables) (m : ℕ) (h : Handle) (row : ℕ) → handle_at tables m ≡ Some h → h.row ≡ Some row → access_of tables m ≡ option_map (access_at h row) (table_at tables row)
access_is tables m h row place of = rw (place, of) refl

pub is_some_or : {X : Type 0} (o : Option X) → (is_some o ≡ true) ⊎ (is_some o ≡ false)
is_some_or None = inr refl
is_some_or (Some x) = inl refl

flaw_refuses : (flaw : FileFlaw) → is_refusal (file_status flaw) ≡ true
flaw_refuses no_std_header = refl
flaw_refuses bad_content = refl
flaw_refuses bad_subtype = refl
flaw_refuses (bad_spacecraft id) = refl
flaw_refuses (bad_processor id) = refl
flaw_refuses no_table_header = refl
flaw_refuses incomplete = refl
flaw_refuses too_big = refl

-- what calls of the store make of a request that does nothing else: other blocks and an answer, be it that the bank failed, or the service
-- begins again
pub record CallsStore (s : State) (note : BankNote) (P : Effect → Type 0) : Type 0 where
  pub answers : (store : Store) (e : Effect) → e.next ≡ record s { store = store } → e.events ≡ [] → tells_trouble e.status ≡ false → P e
  pub fails : (store : Store) (e : Effect) → note.outcome ≡ Failed → e.next ≡ record s { store = store } → e.events ≡ [] → e.status ≡ ERR_CDS_FAULT → P e
  pub restarts : (store : Store) (e : Effect) → note.outcome ≡ Stopped → e.next ≡ boot Processor note (record s { store = store }) → e.events ≡ [] → e.status ≡ INFO_STOPPED → P e

-- what the copy of an image that went active makes of an effect: other blocks, that the bank failed, which is reported, or the service
-- begins again
pub record Copies (note : BankNote) (P : Effect → Type 0) : Type 0 where
  pub left : (slot : ℕ) (image : List ℕ) (e : Effect) → P e → P (with_calls (copy slot image ∷ []) note e)
  pub fails : (row slot : ℕ) (e : Effect) → note.outcome ≡ Failed → P e → P (copy_failed row slot e)
  pub stops : (e : Effect) → note.outcome ≡ Stopped → P e → P (stopped note e)

-- a property of effects that copies keep is one of the effect with its copy
module _ (note : BankNote) (P : Effect → Type 0) (copies : Copies note P) where
  pub by_copy : (row : ℕ) (e : Effect) → P e → P (then_copy row note e)
  by_copy row e p = cond_both (went_active e) _ _ P (λ _. of (table_at e.next.tables row)) (λ _. p) where
    calls : (slot : ℕ) (image : List ℕ) (outcome : Outcome) → note.outcome ≡ outcome
        → P (by_outcome outcome (with_calls (copy slot image ∷ []) note e) (copy_failed row slot (with_calls (copy slot image ∷ []) note e)) (stopped note (with_calls (copy slot image ∷ []) note e)))
    calls slot image Untouched is = copies.left slot image e p
    calls slot image Done is = copies.left slot image e p
    calls slot image Failed is = copies.fails row slot _ is (copies.left slot image e p)
    calls slot image Stopped is = copies.stops _ is (copies.left slot image e p)

    to : (slot : Option ℕ) (image : Option (List ℕ)) → P (copied_to row note e slot image)
    to None image = p
    to (Some slot) None = p
    to (Some slot) (Some image) = calls slot image note.outcome refl

    of : (t : Option Table) → P (copied_of row note e t)
    of None = p
    of (Some t) = cond_both (is_critical t) _ _ P (λ _. to (block_of t e.next.store) t.last) (λ _. p)

-- what a new table begins with has its size, or it is what its block gave, which has
abbrev pub Begins : Store → BankNote → ℕ → List StoreCall → Option (List ℕ) → Type 0
Begins store note size calls first =
    IfSome first (λ image. length image ≡ size)
    ⊎ ((slot : ℕ) × (calls ≡ restore slot first ∷ []) × (has_size size (stored_at store slot) ≡ true) × (first ≡ restored_image note))

-- an effect with these calls, which left these blocks
abbrev pub with_blocks : List StoreCall → Store → Effect → Effect
with_blocks calls store e = record e { calls = calls; next = record e.next { store = store } }

-- each refusal has this property of effects
abbrev pub HasRefusals : State → (Effect → Type 0) → Type 0
HasRefusals s P = (e : Effect) → e.next ≡ s → e.events ≡ [] → e.calls ≡ [] → is_refusal e.status ≡ true → P e

-- a property of effects that each refusal has, and what is done if nothing is refused, is one of the request's effect
module _ (s : State) (P : Effect → Type 0) (refusal : HasRefusals s P) where
  pub no : (status : Status) (detail : ℕ) → is_refusal status ≡ true → P (answered s status detail)
  no status detail is = refusal (answered s status detail) refl refl refl is

  -- a test that refuses comes before the rest
  pub unless : (b : Bool) (status : Status) (detail : ℕ) (rest : Effect) → is_refusal status ≡ true → P rest → P (cond b (answered s status detail) rest)
  unless true status detail rest is p = no status detail is
  unless false status detail rest is p = p

  -- the same, if the rest needs to know that it didn't
  pub unless_then : (b : Bool) (status : Status) (detail : ℕ) (rest : Effect) → is_refusal status ≡ true → (b ≡ false → P rest) → P (cond b (answered s status detail) rest)
  unless_then true status detail rest is p = no status detail is
  unless_then false status detail rest is p = p refl

  -- a ladder of refusals comes before it
  pub by_ladder : (r : Option Answer) (effect : Effect) → Refuses r → (r ≡ None → P effect) → P (by_answer s r effect)
  by_ladder None effect refuses done = done refl
  by_ladder (Some answer) effect refuses done = no answer.status answer.detail refuses

  pub by_load_ladder : (r : Option Answer) (effect : Effect) → Refuses r → (r ≡ None → P effect) → P (by_refusal s r effect)
  by_load_ladder None effect refuses done = done refl
  by_load_ladder (Some answer) effect refuses done = refusal _ refl refl refl refuses

  -- ---- a running application, its handle and its table

  pub by_name : (name : Option (List ℕ)) (effect : List ℕ → Effect) → ((name : List ℕ) → P (effect name)) → P (by_app s name effect)
  by_name None effect done = no ERR_BAD_APP 0 refl
  by_name (Some name) effect done = done name

  -- the handle has a table, which the caller owns if only the owner may call
  by_handle_row : (app : ℕ) (owner_only : Bool) (of : Option ℕ) (effect : ℕ → Effect) → ((row : ℕ) → of ≡ Some row → P (effect row)) → P (by_check s (check_row s.tables app owner_only of) effect)
  by_handle_row app owner_only None effect done = no ERR_UNREGISTERED 0 refl
  by_handle_row app owner_only (Some row) effect done =
      cond_both (owner_only && not (is_that app (option_map (λ (t : Table). t.owner) (table_at s.tables row)))) (Err ERR_NO_ACCESS) (Ok row) (λ (r : Result ℕ Status). P (by_check s r effect))
      (λ _. no ERR_NO_ACCESS 0 refl) (λ _. done row refl)

  -- the handle is given, and it is the caller's
  by_place : (app : ℕ) (owner_only : Bool) (place : Option Handle) (effect : ℕ → Effect) → ((h : Handle) (row : ℕ) → place ≡ Some h → h.app ≡ app → h.row ≡ Some row → P (effect row))
      → P (by_check s (check_handle s.tables app owner_only place) effect)
  by_place app owner_only None effect done = no ERR_INVALID_HANDLE 0 refl
  by_place app owner_only (Some h) effect done =
      cond_both (not (eqb h.app app)) (Err ERR_NO_ACCESS) (check_row s.tables app owner_only h.row) (λ (r : Result ℕ Status). P (by_check s r effect))
      (λ _. no ERR_NO_ACCESS 0 refl) (λ own. by_handle_row app owner_only h.row effect (λ row of. done h row refl (eqb-true h.app app (not-false (eqb h.app app) own)) of))

  by_handle : (app m : ℕ) (owner_only : Bool) (effect : ℕ → Effect) → ((h : Handle) (row : ℕ) → handle_at s.tables m ≡ Some h → h.app ≡ app → h.row ≡ Some row → P (effect row)) → P (if_handle s app m owner_only effect)
  by_handle app m owner_only effect done = by_name (name_of s app) _ (λ name. by_place app owner_only (handle_at s.tables m) effect done)

  pub by_found : (missing : Status) (found : Option Table) (effect : Table → Effect) → is_refusal missing ≡ true → ((t : Table) → found ≡ Some t → P (effect t)) → P (by_table s missing found effect)
  by_found missing None effect is done = no missing 0 is
  by_found missing (Some t) effect is done = done t refl

  pub by_its_table : (app m : ℕ) (owner_only : Bool) (effect : ℕ → Table → Effect) → ((row : ℕ) (t : Table) → table_at s.tables row ≡ Some t → P (effect row t)) → P (if_its_table s app m owner_only effect)
  by_its_table app m owner_only effect done = by_handle app m owner_only _ (λ h row place own of. by_found ERR_UNREGISTERED (table_at s.tables row) (effect row) refl (done row))

  -- the table of this handle is there, or the handle leads to none
  by_access_table : {Y : Type 0} (f : Access → Y) (gone : Y) (answer : Y → Effect) (h : Handle) (row : ℕ) (o : Option Table) → P (answer gone) → ((t : Table) → o ≡ Some t → P (answer (f (access_at h row t))))
      → P (answer (option_map_or f (option_map (access_at h row) o) gone))
  by_access_table f gone answer h row None none some = none
  by_access_table f gone answer h row (Some t) none some = some t refl

  -- a call by a handle, with its table
  pub by_access : {Y : Type 0} (app m : ℕ) (f : Access → Y) (gone : Y) (answer : Y → Effect) → P (answer gone) → ((a : Access) → Leads s.tables app m a → P (answer (f a)))
      → P (if_handle s app m false (λ row. answer (option_map_or f (access_of s.tables m) gone)))
  by_access app m f gone answer none some = by_handle app m false _ (λ h row place own of.
      subst (λ (o : Option Access). P (answer (option_map_or f o gone))) (sym (access_is s.tables m h row place of))
      (by_access_table f gone answer h row (table_at s.tables row) none (λ t there. some (access_at h row t) (record { place = place; own = own; row_is = of; there = there }))))

  -- ---- an uplinked file

  pub by_file_of : (name : List ℕ) (effect : TableFile → Effect) → ((file : TableFile) → P (effect file)) → P (if_file s name effect)
  by_file_of name effect done = there (contents_of s.drawer name) where
    read : (contents : List ℕ) (flaw : Option FileFlaw) → P (by_flaw s contents flaw effect)
    read contents (Some flaw) = no (file_status flaw) (file_detail flaw) (flaw_refuses flaw)
    read contents None = done (table_file_in contents)

    there : (contents : Option (List ℕ)) → P (by_contents s contents effect)
    there None = no ERR_FILE_NOT_FOUND 0 refl
    there (Some contents) = read contents (file_flaw s.admit contents)
