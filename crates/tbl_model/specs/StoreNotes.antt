-- Which notes a request may leave: how the calls of the store went that it makes, and the boot after them.
use Rattle.std.specs.Prelude.{◌≡◌, ◌≢◌, ℕ, List, [], ◌∷◌, length, take, Bool, true, false, ◌&&◌, Option, Some, None, IsSome, IfSome, slice_get}
use Rattle.std.specs.List.{filter, range_with_len}
use Rattle.std.specs.Option.{ForSome, option_map_or}
use Rattle.tbl_kinds.specs.Blocks.{Stored, Store}
use Rattle.tbl_kinds.specs.StoreSteps.{stored_at, MayGive}
use Rattle.tbl_kinds.specs.StoreCalls.{StoreCall, restore, after, after_first, CanBreak}
use Rattle.tbl_kinds.specs.Notes.{restored_image}
use Rattle.tbl_model.specs.StoreUse.{left_by}
use Rattle.tbl_kinds.specs.declared.note.BankNote.{BankNote}
use Rattle.tbl_kinds.specs.declared.note.Outcome.{Outcome}
use Rattle.tbl_kinds.specs.declared.note.Outcome.TheVariants.{Untouched, Done, Failed, Stopped}
use Rattle.tbl_kinds.specs.declared.request.Request.{Request}
use Rattle.tbl_kinds.specs.declared.request.Request.TheVariants as ask
use Rattle.tbl_kinds.specs.declared.request.ResetKind.{ResetKind}
use Rattle.tbl_kinds.specs.declared.request.ResetKind.TheVariants.{Processor}

-- ---- calls

-- no write of a gate broke off
abbrev pub NoGate : BankNote → Type 0
NoGate note = (note.gate ≡ false) × (note.old ≡ false)

-- the call after those that are done broke off, over the blocks that these left
pub record BrokeOff (calls : List StoreCall) (store : Store) (note : BankNote) : Type 0 where
  pub call : StoreCall
  pub next : slice_get calls note.done ≡ Some call
  pub breaks : CanBreak note.gate note.old call (after_first note.done calls store)

-- a restore reads, and only a write is stopped
abbrev pub is_restore : StoreCall → Bool
is_restore (restore slot given) = true
is_restore _ = false

-- there were no calls; or all were done; or the bank failed in one; or one was stopped
abbrev pub Ends : Outcome → List StoreCall → Store → BankNote → Type 0
Ends Untouched calls store note = (calls ≡ []) × (note.done ≡ 0) × NoGate note
Ends Done calls store note = (calls ≢ []) × (note.done ≡ length calls) × NoGate note
Ends Failed calls store note = BrokeOff calls store note
Ends Stopped calls store note = (broke : BrokeOff calls store note) × (is_restore broke.call ≡ false)

-- what a call that is done may give: a restore what its block may hold, with as many bytes as the block has
abbrev pub MayGo : StoreCall → Store → Type 0
MayGo (restore slot given) store = ForSome (stored_at store slot) (λ b. MayGive b given × IfSome given (λ image. length image ≡ b.block.size))
MayGo _ store = Unit {0}

-- the same of several, each over the blocks that those before it left
abbrev pub MayGoOn : List StoreCall → Store → Type 0
MayGoOn [] store = Unit {0}
MayGoOn (call ∷ calls) store = MayGo call store × MayGoOn calls (after call store)

-- the note tells what the restore among them gave, and of a torn block its check words; without a restore it tells neither
abbrev pub Tells : List StoreCall → BankNote → Type 0
Tells [] note = (note.restored ≡ None) × (note.torn ≡ 0)
Tells (restore slot given ∷ calls) note = (restored_image note ≡ given) × (IsSome given → note.torn ≡ 0)
Tells (call ∷ calls) note = Tells calls note

-- ---- the boot after them

-- a Reset boots as it says, and a stopped request as after a reset of the processor
abbrev pub boot_in : Request → Outcome → Option ResetKind
boot_in (ask.Reset kind) outcome = Some kind
boot_in request Stopped = Some Processor
boot_in request outcome = None

abbrev pub is_doubtful_at : Store → ℕ → Bool
is_doubtful_at store slot = option_map_or (λ (b : Stored). b.doubtful) (stored_at store slot) false

-- some of the doubtful slots, ascending
pub record AreDoubtful (store : Store) (found : List ℕ) : Type 0 where
  pub which : ℕ → Bool
  pub are : found ≡ filter (λ slot. is_doubtful_at store slot && which slot) (range_with_len 0 128)

-- a boot of the processor finds some of the doubtful blocks open. A power-on finds none, nor does a boot that ends the service
abbrev pub Finds : ResetKind → Bool → Store → List ℕ → Type 0
Finds Processor false store found = AreDoubtful store found
Finds _ _ store found = found ≡ []

abbrev pub Boots : Option ResetKind → Store → BankNote → Type 0
Boots None store note = (note.found ≡ []) × (note.ended ≡ false) × (note.stopped ≡ false)
Boots (Some kind) store note = Finds kind note.ended store note.found × (note.stopped ≡ true → note.ended ≡ true)

-- ---- the note

-- of a request that makes these calls over these blocks
pub record IsNoteOf (request : Request) (calls : List StoreCall) (store : Store) (note : BankNote) : Type 0 where
  pub ends : Ends note.outcome calls store note
  pub gave : MayGoOn (take note.done calls) store
  pub tells : Tells (take note.done calls) note
  pub boots : Boots (boot_in request note.outcome) (left_by calls note store) note
