-- Which image is lent after a turn, and what a worker keeps of it.
use Rattle.std.proofs.Common.{◌≡◌, ℕ, ◌+◌, ◌-◌, ◌<◌, eqb, List, [], ◌∷◌, ◌++◌, length, length-append, Bool, true, false, Option, Some, None, Result, Ok, Err, ◌&&◌, refl, sym, ap, ◌∙◌, subst, arith}
use Rattle.std.specs.Prelude.{option_and_then, slice_get, if◌then◌else◌}
use Rattle.std.specs.Option.{option_map}
use Rattle.std.proofs.lemmas.Bool.{eq-eqb}
use Rattle.std.proofs.lemmas.Option.{same_Some}
use Rattle.tbl_model.specs.Whole.{is_done}
use Rattle.tbl_kinds.specs.declared.entry.Entry.{Entry}
use Rattle.tbl_kinds.specs.declared.request.Request.{Request}
use Rattle.tbl_kinds.specs.declared.request.Request.TheVariants as ask
use Rattle.tbl_kinds.specs.declared.status.Status.{Status}
use Rattle.tbl_registry.specs.Lending.{pinned_image, name_by, lent_at}
use Rattle.tbl_registry.specs.declared.pin.Pin.{Pin}
use Rattle.tbl_session.specs.Actors.{actor_of}
use Rattle.tbl_core.specs.Ended.{OnPlayed}
use Rattle.tbl_core.specs.Pins.{handle_limit, place_in, gets_address}
use Rattle.tbl_core.specs.Service.{CoreView, PinsOnward, IsOfPin, AddsOne}
use Rattle.tbl_core.specs.declared.service.StepFault.{StepFault}
use Rattle.tbl_core.specs.declared.service.StepFault.TheVariants.{Memory, BootFault, BootStopped}
use Rattle.tbl_core.proofs.Places.{last_at}
use Rattle.tbl_core.proofs.Lending.{pin_stays}
use Rattle.tbl_outside.specs.declared.bank.Bank.{Ghosts}
use Rattle.tbl_crew.specs.CrewView.{CrewView}
use Rattle.table_watch.specs.Watching.{handle_by, handle_got}
use Rattle.tbl_crew.specs.Reads.{last_got, PinsLast, IsLent, Lends}
use Rattle.tbl_kinds.specs.Buffers.{Buffer}
use Rattle.tbl_core.specs.Lent.{LastGives}
use Rattle.tbl_crew.specs.Turns.{Takes, Turns, ReadsLent}
use Rattle.tbl_crew.specs.declared.held.Turn.{Turn}
use Rattle.tbl_crew.specs.declared.held.Turn.TheVariants.{Played, Pinned, PinMemory, Ended, Done}

-- ---- the last entry

-- an entry that got an address by this handle
got_is : (request : Request) (status : Status) (handle : ℕ) → handle_by request status ≡ Some handle → gets_address handle request status ≡ true
got_is (ask.Get m) status handle is = by (is_done status) is where
  by : (done : Bool) → (if done then Some m else None) ≡ Some handle → (eqb m handle && done) ≡ true
  by true is = ap (λ (b : Bool). b && true) (eq-eqb m handle (same_Some m handle is))
  by false is = absurd (cc is)
got_is request status handle is = absurd (cc is)

pub last_of : (old new : List Entry) (e : Entry) → new ≡ old ++ e ∷ [] → last_got new ≡ handle_got e
last_of old new e added =
    let long : length new ≡ length old + 1 = ap length added ∙ omega (arith, length-append old (e ∷ [])) in
    let at : length new - 1 ≡ length old = omega (arith, long) in
    let there : slice_get new (length old) ≡ Some e = ap (λ (es : List Entry). slice_get es (length old)) added ∙ last_at old e in
    ap (option_and_then handle_got) (ap (slice_get new) at ∙ there)

module _ {B C : Type 0} where
  -- if it got one, the handle pins by it
  pub pins_last : (old new : CoreView B C) (e : Entry) → new.entries ≡ old.entries ++ e ∷ [] → PinsOnward old new → PinsLast new
  pins_last old new e added onward handle is =
      let long : length new.entries ≡ length old.entries + 1 = ap length added ∙ omega (arith, length-append old.entries (e ∷ [])) in
      let there : slice_get new.entries (length old.entries) ≡ Some e = ap (λ (es : List Entry). slice_get es (length old.entries)) added ∙ last_at old.entries e in
      let got : handle_got e ≡ Some handle = sym (last_of old.entries new.entries e added) ∙ is in
      let on = onward.got handle e there (got_is e.request e.reply.status handle got) in
      (on.0, λ within. ap (λ (n : ℕ). n + 1) (on.1 within) ∙ sym long)

  -- an image that is lent by it
  pub lent_last : (core : CoreView B C) (handle : ℕ) (pin : Pin) → PinsLast core → last_got core.entries ≡ Some handle → Some pin ≡ lent_at handle (place_in core.gets handle) core.state.tables → IsOfPin pin core → IsLent core pin
  lent_last core handle pin last got is of = by (pinned_image handle core.state.tables) refl is where
    by : (found : Option (List ℕ)) → pinned_image handle core.state.tables ≡ found → Some pin ≡ option_map (λ (image : List ℕ). let lent : Pin = record { bytes = image; handle = handle; place = place_in core.gets handle; name = name_by handle core.state.tables } in lent) found → IsLent core pin
    by None at none = absurd (cc none)
    by (Some image) at some =
        let same = same_Some pin _ some in
        let named : pin.handle ≡ handle = ap (λ (p : Pin). p.handle) same in record {
          handle = got ∙ ap (λ (n : ℕ). Some n) (sym named);
          place = ap (λ (p : Pin). p.place + 1) same ∙ (last handle got).1 (subst (λ (n : ℕ). n < handle_limit) named of.within);
          name = ap (λ (n : ℕ). name_by n core.state.tables) named ∙ sym (ap (λ (p : Pin). p.name) same);
          image = ap (λ (n : ℕ). pinned_image n core.state.tables) named ∙ at ∙ ap (λ (p : Pin). Some p.bytes) (sym same);
          pin_is = of;
        }

-- a turn that played a request
pub plays_next : {B C : Type 0} (g : Ghosts B) (old new : CrewView B C) (actor : ℕ) (turn : Turn) (request : Request) → Takes old new actor request → old.fault ≡ None → new.fault ≡ None
    → AddsOne g old.core new.core (actor_of actor) request (Ok tt) → Lends new.core turn → Turns g old new actor turn
plays_next g old new actor Played request takes went goes adds lends = record { request = request; takes = takes; went = went; goes_on = goes; adds = adds; lends = lends }
plays_next g old new actor (Pinned pin) request takes went goes adds lends = record { request = request; takes = takes; went = went; goes_on = goes; adds = adds; lends = lends }
plays_next g old new actor PinMemory request takes went goes adds lends = record { request = request; takes = takes; went = went; goes_on = goes; adds = adds; lends = lends }
plays_next g old new actor Ended request takes went goes adds lends = absurd lends
plays_next g old new actor Done request takes went goes adds lends = absurd lends

-- a step that answered this
abbrev pub failed : StepFault → Result Unit StepFault
failed fault = Err fault

-- what was lent stays so, also if a step answered a fault
pub pins_broken : {B C : Type 0} (g : Ghosts B) (old new : CoreView B C) (actor : ℕ) (request : Request) (fault : StepFault) → OnPlayed (Err fault) (AddsOne g old new (actor_of actor) request (Err fault)) → OnPlayed (Err fault) (PinsOnward old new)
    → (failed fault ≡ Err Memory → new ≡ old) → (pin : Pin) → IsOfPin pin old → IsOfPin pin new
pins_broken g old new actor request Memory adds onward same pin is = subst (λ (core : CoreView _ _). IsOfPin pin core) (sym (same refl)) is
pins_broken g old new actor request BootFault adds onward same pin is = pin_stays old new adds.entry adds.added onward pin is
pins_broken g old new actor request BootStopped adds onward same pin is = pin_stays old new adds.entry adds.added onward pin is

-- a Read that was played with bytes that were taken before
pub reads_lent : {B C : Type 0} (old new : CoreView B C) (slice : Buffer) (turn : Turn) → LastGives old.state old.entries new.entries slice → ReadsLent old new slice turn
reads_lent old new slice Played gives = gives
reads_lent old new slice (Pinned pin) gives = gives
reads_lent old new slice PinMemory gives = gives
reads_lent old new slice Ended gives = tt
reads_lent old new slice Done gives = tt
