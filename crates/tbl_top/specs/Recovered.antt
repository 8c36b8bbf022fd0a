-- Recovery over two histories: what the second, over an image that a reset in the first one or after it left, has of the first one's tables.
use Rattle.std.specs.Prelude.{◌≡◌, ◌⊎◌, ℕ, ◌≤◌, List, [], ◌∷◌, length, Bool, true, Option, Some, None, slice_get, IsSome}
use Rattle.tbl_kinds.specs.Admitted.{Admitted}
use Rattle.tbl_kinds.specs.Blocks.{Stored, Store}
use Rattle.tbl_model.specs.State.{State, Table}
use Rattle.tbl_model.specs.Tables.{table_at, has_option, is_critical}
use Rattle.tbl_model.specs.Applications.{full_name}
use Rattle.tbl_model.specs.Refusals.{plan_refusal}
use Rattle.tbl_model.specs.History.{Run, begins_at, onward, run_from}
use Rattle.tbl_session.specs.Crashes.{AfterCrash}
use Rattle.tbl_session.specs.Completed.{HasCompleted}
use Rattle.tbl_session.specs.Recovery.{blocks_at, IsBlockOf, IsShown, WasCopied, Registration, request_of, Registers}
use Rattle.cds_layout.specs.Images.{store_of}
use Rattle.tbl_kinds.specs.declared.block.Block.{Block}
use Rattle.tbl_kinds.specs.declared.entry.Entry.{Entry}
use Rattle.tbl_kinds.specs.declared.note.Outcome.TheVariants.{Done}
use Rattle.tbl_kinds.specs.declared.request.Actor.TheVariants.{App}
use Rattle.tbl_kinds.specs.declared.request.Request.TheVariants as ask
use Rattle.tbl_kinds.specs.declared.status.Status.{Status}
use Rattle.tbl_kinds.specs.declared.status.TheConstants.Status.{SUCCESS, INFO_RECOVERED_TBL}
use Rattle.validation.specs.Kits.{owners}
use Rattle.tbl_outside.specs.declared.validator.KitEntry.{KitEntry}
use Rattle.tbl_session.specs.Moments.{run_at}
use Rattle.tbl_session.specs.Session.{given_of, state_from}
use Rattle.tbl_session.specs.Trouble.{EndsInBoot}

-- ---- the registration in the second session

-- this entry asks for it
pub record Asks (e : Entry) (r : Registration) : Type 0 where
  pub actor : e.actor ≡ App r.app
  pub request : e.request ≡ request_of r
  pub note : e.given.note ≡ r.note

-- at this place of a history over the blocks that a reset left, a critical table of this full name is registered
pub record RegistersAt (left : Store) (opening : State) (entries : List Entry) (place : ℕ) (e : Entry) (name : List ℕ) (r : Registration) : Type 0 where
  pub at : slice_get entries place ≡ Some e
  pub asks : Asks e r
  pub over : Registers left (run_at opening entries place).state name r

-- the history begins with the start of an application, which then registers a critical table: nothing of what it asks for is wrong,
-- and its calls of the store are done
pub record RegistersFirst (kit : List (Option ℕ)) (entries : List Entry) (first e : Entry) (app_name : List ℕ) (r : Registration) : Type 0 where
  pub behind : List Entry
  pub parts : entries ≡ first ∷ e ∷ behind
  pub actor : first.actor ≡ App r.app
  pub starts : first.request ≡ ask.Start app_name
  pub runs : first.reply.status ≡ SUCCESS
  pub asks : Asks e r
  pub taken : plan_refusal kit r.app r.short r.size r.flags r.validator ≡ None
  pub critical : has_option 0x0008 r.flags ≡ true
  pub done : r.note.outcome ≡ Done

-- ---- what it is answered, and what the table begins with

-- this status, and after the entry the table of this full name has this image, or none
pub record TableBegins (r : Run) (e : Entry) (name : List ℕ) (status : Status) (first : Option (List ℕ)) : Type 0 where
  pub answered : e.reply.status ≡ status
  pub row : ℕ
  pub table : Table
  pub there : table_at (onward r e).state.tables row ≡ Some table
  pub named : table.name ≡ name
  pub critical : is_critical table ≡ true
  pub image : table.last ≡ first

-- it is reported as recovered, with this image
abbrev pub IsRecovered : Run → Entry → List ℕ → List ℕ → Type 0
IsRecovered r e name image = TableBegins r e name INFO_RECOVERED_TBL (Some image)

-- or as a new one, without an image
abbrev pub IsEmpty : Run → Entry → List ℕ → Type 0
IsEmpty r e name = TableBegins r e name SUCCESS None

-- with such an image, or without one
abbrev pub IsRecoveredOrEmpty : (List ℕ → Type 0) → Run → Entry → List ℕ → Type 0
IsRecoveredOrEmpty IsSuch r e name = ((image : List ℕ) × IsSuch image × IsRecovered r e name image) ⊎ IsEmpty r e name

-- as what a block holds: with its image, or as a new one if it holds none
abbrev pub IsGivenBack : Option (List ℕ) → Run → Entry → List ℕ → Type 0
IsGivenBack None r e name = IsEmpty r e name
IsGivenBack (Some image) r e name = IsRecovered r e name image

-- ---- what comes back of the blocks that a reset came over

-- A table whose last copy was completed, in a block whose gate is sure, always comes back with its image. For each block that the reset
-- left: if no copy broke off since the last completed one, the table comes back with what the block holds; else with that, or with an image
-- whose copy broke off since. It begins with none only if the block holds none.
pub record GivesBack (blocks : Store) (image : List ℕ) (r : Run) (e : Entry) (name : List ℕ) (size : ℕ) : Type 0 where
  pub completed : (slot : ℕ) (block : Block) (copied : List ℕ) → IsBlockOf name size block → HasCompleted blocks slot block copied → IsRecovered r e name copied
  pub sure : (slot : ℕ) (b : Stored) → IsBlockOf name size b.block → IsShown blocks (store_of image) slot b → b.trying ≡ [] → IsGivenBack b.held r e name
  pub copied : (slot : ℕ) (b : Stored) → IsBlockOf name size b.block → IsShown blocks (store_of image) slot b → IsRecoveredOrEmpty (WasCopied b) r e name
  pub never_lost : (slot : ℕ) (b : Stored) → IsBlockOf name size b.block → IsShown blocks (store_of image) slot b → IsSome b.held → (copied : List ℕ) × WasCopied b copied × IsRecovered r e name copied

-- The reset came at a place of the first history: after so many entries, or in the one under way there.
pub record RecoversFrom (opening : State) (entries : List Entry) (image : List ℕ) (r : Run) (e : Entry) (name : List ℕ) (size : ℕ) : Type 0 where
  pub place : ℕ
  pub within : place ≤ length entries
  pub crash : AfterCrash opening entries place (store_of image)
  pub back : GivesBack (blocks_at opening entries place (store_of image) crash) image r e name size

-- ---- two histories

-- Any critical table that the second history registers over the blocks of the image comes back so, whether an application that runs there
-- registers it or one that was just started.
pub record AllComeBack {C : Type 0} (ComesBackSo : Run → Entry → List ℕ → ℕ → Type 0) (image : List ℕ) (kit : List (KitEntry C)) (admit : Admitted) (next : List Entry) : Type 0 where
  pub recovered : (place : ℕ) (e : Entry) (name : List ℕ) (r : Registration) → RegistersAt (store_of image) (state_from image kit admit) next place e name r
      → ComesBackSo (run_at (state_from image kit admit) next place) e name r.size
  pub recovered_first : (start e : Entry) (app_name : List ℕ) (r : Registration) → RegistersFirst (owners (given_of kit)) next start e app_name r
      → ComesBackSo (run_at (state_from image kit admit) next 1) e (full_name app_name r.short) r.size

-- The image was left at some moment since the first history began: each table comes back from the place where that was.
abbrev pub RecoversBoth : {C : Type 0} → State → List Entry → List ℕ → List (KitEntry C) → Admitted → List Entry → Type 0
RecoversBoth first entries image kit admit next = AllComeBack (RecoversFrom first entries image) image kit admit next

-- The image was left once the first history had ended: each table comes back from the blocks as they were after all its entries.
abbrev pub RecoversLast : {C : Type 0} → State → List Entry → List ℕ → List (KitEntry C) → Admitted → List Entry → Type 0
RecoversLast first entries image kit admit next = AllComeBack (GivesBack (run_from (begins_at first) entries).state.store image) image kit admit next

-- no boot in the last entry ended the service
abbrev pub StaysUp : List Entry → Type 0
StaysUp entries = (stopped : Bool) → ¬ EndsInBoot stopped entries
