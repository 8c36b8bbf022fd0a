-- Images that the core lends, and bytes that were taken of them.
use Rattle.std.proofs.Common.{◌≡◌, ◌<◌, ℕ, List, ◌∷◌, [], ◌++◌, length, Option, Some, None, Result, Ok, Err, refl, sym, ap, ◌∙◌, subst, inl, inr, arith}
use Rattle.std.specs.Prelude.{slice_get, IfOk, IfSome, OnSome}
use Rattle.std.specs.Option.{option_map}
use Rattle.std.proofs.lemmas.Option.{same_Some, slice_get_within}
use Rattle.tbl_model.specs.AddressSteps.{read}
use Rattle.tbl_kinds.specs.Numbers.{piece}
use Rattle.tbl_kinds.specs.declared.entry.Entry.{Entry}
use Rattle.tbl_kinds.specs.declared.request.Request.{Request}
use Rattle.tbl_kinds.specs.declared.request.Request.TheVariants as ask
use Rattle.tbl_registry.specs.Lending.{pinned_image, name_by, lent_at}
use Rattle.tbl_registry.specs.declared.pin.Pin.{Pin}
use Rattle.tbl_core.specs.Pins.{handle_limit, place_in, MayBeLent, IsSliceOf}
use Rattle.tbl_core.specs.Engine.{MayStillPin}
use Rattle.tbl_core.specs.Service.{CoreView, EngineView, core_of, IsReady, IsAfter, PinsOnward, IsOfPin}
use Rattle.tbl_core.proofs.Pinning.{IsPinnedBy, pinned_by_handle}
use Rattle.tbl_core.proofs.Places.{earlier_at, read_is_piece, IsPiece}
use Rattle.tbl_outside.specs.declared.validator.Validator.{Ghosts as ValidatorGhosts}

-- an image that is lent by a handle that pins it
pub lent_is : {B C : Type 0} (engine : EngineView B C) (past : List Entry) (handle : ℕ) (pin : Pin) → IsAfter past engine → handle < handle_limit → lent_at handle (place_in engine.gets handle) engine.state.tables ≡ Some pin → IsOfPin pin (core_of past engine)
lent_is engine past handle pin after within is = by (pinned_image handle engine.state.tables) refl is where
  by : (found : Option (List ℕ)) → pinned_image handle engine.state.tables ≡ found → option_map (λ (image : List ℕ). let lent : Pin = record { bytes = image; handle = handle; place = place_in engine.gets handle; name = name_by handle engine.state.tables } in lent) found ≡ Some pin → IsOfPin pin (core_of past engine)
  by None at none = absurd (cc none)
  by (Some image) at some =
      let who : IsPinnedBy engine.state.tables handle image = pinned_by_handle engine.state.tables handle image at in
      subst (λ (p : Pin). IsOfPin p (core_of past engine)) (same_Some _ pin some) (record {
        within = within;
        got = after.gets handle who.handle who.number within who.at who.pin;
        image = λ other there by_it. same_Some other image (sym there ∙ at);
      })

-- bytes that were taken of it are what a read gives, if the handle still pins by the call that it was lent for
pub slice_is : {B C : Type 0} (v : ValidatorGhosts C) (engine : EngineView B C) (pin : Pin) (request : Request) (slice : List ℕ) → IsReady v engine → MayStillPin pin engine → place_in engine.gets pin.handle ≡ pin.place → IsSliceOf pin request slice → MayBeLent request engine.state.tables slice
slice_is v engine pin (ask.Read handle offset len) slice ready is same of = λ bytes gives.
    let gives' : read pin.handle offset len engine.state.tables ≡ Ok bytes = subst (λ (n : ℕ). read n offset len engine.state.tables ≡ Ok bytes) of.0 gives in
    let got : IsPiece engine.state.tables pin.handle offset len bytes = read_is_piece engine.state.tables ready.images pin.handle offset len bytes gives' in
    of.1 ∙ ap (piece offset len) (sym (is.image got.0 got.1 same)) ∙ sym got.2
slice_is v engine pin request slice ready is same of = absurd of

-- each image that is lent
pub lent_each : {B C : Type 0} (engine : EngineView B C) (handle : ℕ) (lent : Option Pin) → lent ≡ lent_at handle (place_in engine.gets handle) engine.state.tables → OnSome lent (handle < handle_limit) → IfSome lent (λ (pin : Pin). (past : List Entry) → IsAfter past engine → IsOfPin pin (core_of past engine))
lent_each engine handle None is within = tt
lent_each engine handle (Some pin) is within = λ past after. lent_is engine past handle pin after within (sym is)

-- and so after the history that a core keeps
pub lent_behind : {B C : Type 0} (engine : EngineView B C) (past : List Entry) (lent : Option Pin) → IsAfter past engine → IfSome lent (λ (pin : Pin). (past : List Entry) → IsAfter past engine → IsOfPin pin (core_of past engine)) → IfSome lent (λ (pin : Pin). IsOfPin pin (core_of past engine))
lent_behind engine past None after is = tt
lent_behind engine past (Some pin) after is = is past after

pub lent_in : {B C E : Type 0} (engine : EngineView B C) (past : List Entry) (r : Result (Option Pin) E) → IsAfter past engine
    → IfOk r (λ lent. IfSome lent (λ (pin : Pin). (before : List Entry) → IsAfter before engine → IsOfPin pin (core_of before engine))) → IfOk r (λ lent. IfSome lent (λ (pin : Pin). IsOfPin pin (core_of past engine)))
lent_in engine past (Ok lent) after is = lent_behind engine past lent after is
lent_in engine past (Err e) after is = tt

-- what was lent stays so over one more entry
pub pin_stays : {B C : Type 0} (old new : CoreView B C) (e : Entry) → new.entries ≡ old.entries ++ e ∷ [] → PinsOnward old new → (pin : Pin) → IsOfPin pin old → IsOfPin pin new
pin_stays old new e added onward pin is = record {
  within = is.within;
  got = (is.got.0, ap (λ (es : List Entry). slice_get es pin.place) added ∙ earlier_at old.entries (e ∷ []) pin.place is.got.0 is.got.1, is.got.2);
  image = λ image there at. elim (onward.each pin.handle image is.within there) [
    | inl fresh ↦ let past : pin.place < length old.entries = slice_get_within old.entries pin.place is.got.0 is.got.1 in absurd (omega (arith, fresh, at, past))
    | inr was ↦ is.image image was.1 (sym was.0 ∙ at)
  ];
}
