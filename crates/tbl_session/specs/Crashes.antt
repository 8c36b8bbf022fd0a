-- What a reset at any moment leaves of the store: what it was between two entries, or what an entry that was under way made of it.
use Rattle.std.specs.Prelude.{◌≡◌, ◌⊎◌, ℕ, ◌≤◌, List, [], length, take, filter, Bool, not, Some, slice_get}
use Rattle.std.specs.Option.{option_map_or}
use Rattle.tbl_kinds.specs.Blocks.{Store, empty_store}
use Rattle.tbl_kinds.specs.StoreCalls.{StoreCall, after_first, broken, CanBreak}
use Rattle.tbl_kinds.specs.StoreSteps.{Shows}
use Rattle.tbl_model.specs.State.{State}
use Rattle.tbl_model.specs.Effects.{Effect}
use Rattle.tbl_model.specs.StoreNotes.{is_restore}
use Rattle.tbl_model.specs.History.{Run, begins_at, run_from, effect_in}
use Rattle.tbl_kinds.specs.declared.entry.Entry.{Entry}
use Rattle.tbl_kinds.specs.declared.request.Request.TheVariants as ask
use Rattle.tbl_kinds.specs.declared.request.ResetKind.TheVariants.{PowerOn}

-- ---- the calls of one entry

-- a call broke off over these blocks, in whichever write
pub record BreaksTo (call : StoreCall) (store left : Store) : Type 0 where
  pub gate : Bool
  pub old : Bool
  pub can : CanBreak gate old call store
  pub shows : Shows (broken gate old call store) left

-- so many of the calls are done; and the next one, if there is one, may have broken off
pub record DuringCalls (calls : List StoreCall) (store left : Store) : Type 0 where
  pub done : ℕ
  pub within : done ≤ length calls
  pub leaves : Shows (after_first done calls store) left ⊎ (call : StoreCall) × (slice_get calls done ≡ Some call) × BreaksTo call (after_first done calls store) left

-- ---- an entry under way

-- those of several calls that write to the bank. A restore reads, and a reset inside it leaves what was there before
abbrev pub writes : List StoreCall → List StoreCall
writes calls = filter (λ call. not (is_restore call)) calls

-- the calls of the store that the request of an entry makes
abbrev pub all_calls_in : Run → Entry → List StoreCall
all_calls_in r e = option_map_or (λ (effect : Effect). effect.calls) (effect_in r e) []

-- those of them that write
abbrev pub calls_in : Run → Entry → List StoreCall
calls_in r e = option_map_or (λ (effect : Effect). writes effect.calls) (effect_in r e) []

-- its calls are under way; or it is a power-on, which empties the store
abbrev pub UnderWay : Run → Entry → Store → Type 0
UnderWay r e left = DuringCalls (calls_in r e) r.state.store left ⊎ ((e.request ≡ ask.Reset PowerOn) × Shows empty_store left)

-- ---- a history

-- a reset after the first so many entries leaves their store, or what the next one, if there is one, made of it so far
abbrev pub AfterCrash : State → List Entry → ℕ → Store → Type 0
AfterCrash opening entries place left =
    let r = run_from (begins_at opening) (take place entries) in
    Shows r.state.store left ⊎ (e : Entry) × (slice_get entries place ≡ Some e) × UnderWay r e left
