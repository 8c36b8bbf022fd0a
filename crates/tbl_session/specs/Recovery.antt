-- Recovery: what the registration of a critical table has of the blocks that a reset left.
use Rattle.std.specs.Prelude.{◌≡◌, ◌⊎◌, ℕ, ◌-◌, ◌<◌, List, [], take, replicate, Contains, true, Option, Some, None, IsSome, IfSome, slice_set}
use Rattle.std.proofs.Common.{inl, inr}
use Rattle.tbl_kinds.specs.Admitted.{Admitted}
use Rattle.tbl_kinds.specs.Blocks.{Stored, Store, empty_store}
use Rattle.tbl_kinds.specs.StoreSteps.{stored_at, Shows}
use Rattle.tbl_kinds.specs.StoreCalls.{StoreCall, broken}
use Rattle.tbl_model.specs.State.{State, Table, no_tables, first_state}
use Rattle.tbl_model.specs.Tables.{table_at, has_option, is_critical, critical_count}
use Rattle.tbl_model.specs.Effects.{Effect}
use Rattle.tbl_model.specs.Subjects.{name_of}
use Rattle.tbl_model.specs.Applications.{full_name}
use Rattle.tbl_model.specs.Registration.{registration_refusal, register_effect}
use Rattle.tbl_model.specs.CriticalTables.{critical_limit}
use Rattle.tbl_model.specs.StoreNotes.{IsNoteOf}
use Rattle.tbl_model.specs.History.{Run, begins_at, run_from, AreAnswered}
use Rattle.tbl_session.specs.Crashes.{BreaksTo, DuringCalls, UnderWay, AfterCrash}
use Rattle.tbl_kinds.specs.declared.block.Block.{Block}
use Rattle.tbl_kinds.specs.declared.block.BlockKind.TheVariants as kind
use Rattle.tbl_kinds.specs.declared.entry.Entry.{Entry}
use Rattle.tbl_kinds.specs.declared.note.BankNote.{BankNote}
use Rattle.tbl_kinds.specs.declared.note.Outcome.TheVariants.{Done}
use Rattle.tbl_kinds.specs.declared.request.Request.{Request}
use Rattle.tbl_kinds.specs.declared.request.Request.TheVariants as ask
use Rattle.tbl_kinds.specs.declared.status.TheConstants.Status.{SUCCESS, INFO_RECOVERED_TBL}
use Rattle.tbl_session.specs.Backed.{AreSingle}

-- ---- a history, and the blocks that a reset came over in it

-- entries that were answered, from a state without tables on, over blocks that all differ in kind or name
pub record IsHistory (opening : State) (entries : List Entry) : Type 0 where
  pub tables : opening.tables ≡ no_tables
  pub single : AreSingle opening.store
  pub answered : AreAnswered (begins_at opening) entries

-- those that the calls before it had made; or what the next one made of them, if it broke off
abbrev pub blocks_by : {blocks left : Store} {IsNext : StoreCall → Type 0} → Shows blocks left ⊎ (call : StoreCall) × IsNext call × BreaksTo call blocks left → Store
blocks_by {blocks} (inl shows) = blocks
blocks_by {blocks} (inr broke) = broken broke.2.gate broke.2.old broke.0 blocks

-- those that calls under way had made
abbrev pub blocks_during : {calls : List StoreCall} {store left : Store} → DuringCalls calls store left → Store
blocks_during during = blocks_by during.leaves

-- those that the entry under way had made so far; of a power-on none
abbrev pub blocks_under : (r : Run) (e : Entry) (left : Store) → UnderWay r e left → Store
blocks_under r e left (inl during) = blocks_during during
blocks_under r e left (inr power_on) = empty_store

-- those between two entries; or those of the entry under way
abbrev pub blocks_at : (opening : State) (entries : List Entry) (place : ℕ) (left : Store) → AfterCrash opening entries place left → Store
blocks_at opening entries place left (inl shows) = (run_from (begins_at opening) (take place entries)).state.store
blocks_at opening entries place left (inr next) = blocks_under (run_from (begins_at opening) (take place entries)) next.0 left next.2

-- ---- a table's block

-- of a table of this full name and size
pub record IsBlockOf (name : List ℕ) (size : ℕ) (block : Block) : Type 0 where
  pub is_table : block.kind ≡ kind.Table
  pub named : block.name ≡ name
  pub sized : block.size ≡ size

-- what the reset left shows the block in this slot: each open one, and one with a doubtful gate, if it came out open
pub record IsShown (store left : Store) (slot : ℕ) (b : Stored) : Type 0 where
  pub there : stored_at store slot ≡ Some b
  pub shown : IsSome (stored_at left slot)

-- an image whose copy was completed last, or broke off since then
abbrev pub WasCopied : Stored → List ℕ → Type 0
WasCopied b image = (b.held ≡ Some image) ⊎ Contains b.trying image

-- ---- a registration

-- who registers which table, and how its calls of the store went
pub record Registration : Type 0 where
  pub app : ℕ
  pub short : List ℕ
  pub size : ℕ
  pub flags : ℕ
  pub validator : Option ℕ
  pub note : BankNote

abbrev pub registering : State → Registration → Effect
registering s r = register_effect s r.app r.short r.size r.flags r.validator r.note

abbrev pub request_of : Registration → Request
request_of r = ask.Register r.short r.size r.flags r.validator

-- over the blocks that a reset left, a running application registers a critical table under this full name: nothing refuses it, not too
-- many tables are critical, and its calls of the store are done
pub record Registers (left : Store) (s : State) (name : List ℕ) (r : Registration) : Type 0 where
  pub store : s.store ≡ left
  pub app_name : List ℕ
  pub runs : name_of s r.app ≡ Some app_name
  pub full : full_name app_name r.short ≡ name
  pub taken : registration_refusal s r.app name r.short r.size r.flags r.validator ≡ None
  pub critical : has_option 0x0008 r.flags ≡ true
  pub few : critical_count s.tables < critical_limit
  pub noted : IsNoteOf (request_of r) (registering s r).calls s.store r.note
  pub done : r.note.outcome ≡ Done

-- the table of this full name begins with this image, or with none; and the blocks are as a reset left them
pub record Begins (left : Store) (e : Effect) (name : List ℕ) (first : Option (List ℕ)) : Type 0 where
  pub row : ℕ
  pub table : Table
  pub there : table_at e.next.tables row ≡ Some table
  pub named : table.name ≡ name
  pub critical : is_critical table ≡ true
  pub image : table.last ≡ first
  pub store : e.next.store ≡ left

-- it is reported as recovered, with this image
pub record Recovers (left : Store) (e : Effect) (name image : List ℕ) : Type 0 where
  pub status : e.status ≡ INFO_RECOVERED_TBL
  pub begins : Begins left e name (Some image)

-- or as a new one, without an image
pub record BeginsEmpty (left : Store) (e : Effect) (name : List ℕ) : Type 0 where
  pub status : e.status ≡ SUCCESS
  pub begins : Begins left e name None

-- the table comes back with such an image, or without one
abbrev pub ComesBack : (List ℕ → Type 0) → Store → Effect → List ℕ → Type 0
ComesBack IsSuch left e name = ((image : List ℕ) × IsSuch image × Recovers left e name image) ⊎ BeginsEmpty left e name

-- ---- a start

-- the service as it starts over these blocks, once one application runs
abbrev pub started : Store → List (Option ℕ) → Admitted → ℕ → List ℕ → State
started left kit admit app app_name = record (first_state left kit admit) { apps = slice_set (replicate 16 None) (app - 1) (Some app_name) }
