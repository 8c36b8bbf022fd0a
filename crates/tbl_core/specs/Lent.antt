-- A Read whose bytes were taken of a lent image before its step.
use Rattle.std.specs.Prelude.{◌≡◌, ◌≢◌, ℕ, List, [], ◌∷◌, ◌++◌, Some}
use Rattle.tbl_kinds.specs.Buffers.{Buffer}
use Rattle.tbl_kinds.specs.declared.entry.Entry.{Entry}
use Rattle.tbl_model.specs.State.{State}
use Rattle.tbl_model.specs.Dispatch.{effect_of}
use Rattle.tbl_model.specs.Effects as model
use Rattle.tbl_registry.specs.declared.pin.Pin.{Pin}
use Rattle.tbl_core.specs.Pins.{place_in}
use Rattle.tbl_core.specs.Service.{PartsView, IsStateOf}

-- if the handle of the image pins any, it pins by the call that the image was lent for
abbrev pub StillPins : Pin → List ℕ → Type 0
StillPins pin gets = place_in gets pin.handle ≡ pin.place

-- so the model answers the entry's request in this state
pub record IsAnsweredIn (s : State) (e : Entry) : Type 0 where
  pub effect : model.Effect
  pub effect_is : effect_of s e.actor e.request e.given ≡ Some effect
  pub status : e.reply.status ≡ effect.status
  pub bytes : e.reply.bytes.list ≡ effect.bytes

-- A Read was answered as the model answers it in each state with these parts, whatever the bank shows. If it was given bytes, they are the
-- very buffer that was handed in, with its spare room.
pub record GivesLent {B C : Type 0} (held : PartsView B C) (slice : Buffer) (e : Entry) : Type 0 where
  pub answered : (s : State) → IsStateOf s.store held s → IsAnsweredIn s e
  pub lent : e.reply.bytes.list ≢ [] → e.reply.bytes ≡ slice

-- this was the entry that the log has more
abbrev pub LastGives : {B C : Type 0} → PartsView B C → List Entry → List Entry → Buffer → Type 0
LastGives held log entries slice = (e : Entry) × (entries ≡ log ++ e ∷ []) × GivesLent held slice e
