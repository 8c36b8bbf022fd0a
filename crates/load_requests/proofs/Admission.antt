-- An image that nothing refuses, by the verdict on it.
use Rattle.std.proofs.Common.{◌≡◌, ◌∙◌, ◌≤◌, ◌*◌, ℕ, List, [], ◌∷◌, ◌++◌, length, Bool, true, false, cond, Option, Some, None, is_some, ℤ, refl, sym, ap, subst, arith}
use Rattle.std.proofs.lemmas.List.{length-append}
use Rattle.std.specs.Option.{option_map_or}
use Rattle.tbl_kinds.specs.declared.entry.Answer.{Answer}
use Rattle.tbl_kinds.specs.declared.entry.Reply.{Reply}
use Rattle.tbl_kinds.specs.declared.status.TheConstants.Status.{ERR_VALIDATION_FAILED}
use Rattle.tbl_model.specs.State.{State, Table, Tables}
use Rattle.tbl_model.specs.Tables.{table_at}
use Rattle.tbl_model.specs.Effects as model
use Rattle.tbl_model.specs.Effects.{answered, answered_with}
use Rattle.tbl_model.specs.Given.{Given}
use Rattle.tbl_model.specs.Telemetry.{is_good, verdict_bits}
use Rattle.tbl_model.specs.Refusals.{by_answer}
use Rattle.tbl_model.specs.AppLoads.{by_function, with_verdict}
use Rattle.tbl_model.specs.declared.telemetry.Named.{Named}
use Rattle.tbl_model.specs.declared.telemetry.TelemetryEvent.{TelemetryEvent}
use Rattle.tbl_outside.specs.declared.validator.Validator.{Ghosts as ValidatorGhosts}
use Rattle.tbl_outside.specs.declared.validator.KitEntry.{KitEntry}
use Rattle.validation.specs.Asked.{WasAsked, asks}
use Rattle.request_effects.specs.Reports.{Reported, nothing_reported}
use Rattle.request_effects.specs.Effects.{given_of, told_effect}
use Rattle.desk.specs.Desk.{Rest, state_at, output}
use Rattle.desk.specs.Requests.{Does, Made}
use Rattle.desk.specs.Rooms.{copy_room, event_room}
use Rattle.desk.specs.declared.desk.Desk.{Desk}
use Rattle.desk.proofs.Serving.{left_at, made_so, has_there}
use Rattle.load_requests.specs.Loads.{admission, active_effect, IsRoomy, verdict_refusal, verdict_events}
use Rattle.desk.proofs.Kits.{same_owners}

-- ---- the effect

-- before it the function of this number gave this verdict on the image, if there is one
abbrev pub after_verdict : ℕ → List ℕ → Option ℤ → Option ℕ → model.Effect → model.Effect
after_verdict row image verdict number effect = record effect {
  events = verdict_events row verdict ++ effect.events;
  images = option_map_or (λ (v : ℤ). Some image ∷ []) verdict [] ++ effect.images;
  questions = asks number image;
}

by_verdict : (s : State) (given : Given) (row : ℕ) (image : List ℕ) (verdict : Option ℤ) (number : Option ℕ) (effect : model.Effect)
    → given.verdicts ≡ verdict ∷ None ∷ [] → is_some verdict ≡ is_some number → effect.questions ≡ []
    → by_function s row image number given effect ≡ after_verdict row image verdict number (by_answer s (verdict_refusal verdict) effect)
by_verdict s given row image None None effect said told none = ap (λ qs. record effect { questions = qs }) none
by_verdict s given row image None (Some number) effect said told none = absurd (cc told)
by_verdict s given row image (Some verdict) None effect said told none = absurd (cc told)
by_verdict s given row image (Some verdict) (Some number) effect said told none = rw said (by (is_good verdict))
  where
    by : (good : Bool) → cond good (with_verdict row image number verdict effect) (with_verdict row image number verdict (answered s ERR_VALIDATION_FAILED (verdict_bits verdict)))
        ≡ after_verdict row image (Some verdict) (Some number) (by_answer s (cond good None (Some (record { status = ERR_VALIDATION_FAILED; detail = verdict_bits verdict }))) effect)
    by true = refl
    by false = refl

-- ---- how much is reported

verdict_few : (row : ℕ) (verdict : Option ℤ) → length (verdict_events row verdict) ≤ 1
verdict_few row None = omega arith
verdict_few row (Some verdict) = omega arith

verdict_room : (row : ℕ) (verdict : Option ℤ) → 24 * length (verdict_events row verdict) ≡ event_room (is_some verdict)
verdict_room row None = refl
verdict_room row (Some verdict) = refl

-- ---- the whole contract

module _ {C : Type 0} (v : ValidatorGhosts C) (old new : Desk C) (kit : List (Option (KitEntry C))) (row : ℕ) (t : Table) (image : List ℕ) (file : Option (List ℕ)) (verdict : Option ℤ)
    (there : table_at old.tables row ≡ Some t) (told : is_some verdict ≡ is_some t.validator)
    (was : WasAsked v.verdict v.asked old.kit kit (asks t.validator image) (verdict ∷ None ∷ [])) (reply : Reply) (roomy : IsRoomy old.tables row reply) where
  -- after the verdict it has this answer and leaves these tables, and this is reported
  pub admitted : (answer : Answer) (report : Reported) (tables : Tables) (table : Option Named) (events : List TelemetryEvent) (images : List (Option (List ℕ)))
      → ((rest : Rest) → by_answer (state_at rest old) (verdict_refusal verdict) (active_effect (state_at rest old) row t image file)
      ≡ record (answered_with (state_at rest old) answer tables) { table = table; events = events; images = images })
      → new ≡ record old { tables = tables; kit = kit } → report ≡ record nothing_reported { table = table; events = verdict_events row verdict ++ events; verdicts = verdict ∷ None ∷ [] }
      → length events ≤ 1 → Made v (admission row image file) old new (output reply report) answer
  admitted answer report tables table events images effect same reported one =
      let full = record nothing_reported { table = table; events = verdict_events row verdict ++ events; verdicts = verdict ∷ None ∷ [] } in
      let done = told_effect answer [] full in
      let few = verdict_few row verdict in
      let len = length-append (verdict_events row verdict) events in
      let verdict_packet = verdict_room row verdict ∙ ap event_room told in
      let copy = ap copy_room there in
      let room = roomy.room t there in
      rw same
      (made_so v (admission row image file) old (record old { tables = tables; kit = kit }) (output reply report) answer [] full roomy.bytes reported
      (λ rest. let s = state_at rest old in has_there v rest old (record old { tables = tables; kit = kit }) done (λ t. by_function s row image t.validator (given_of done) (active_effect s row t image file)) row t there
      (subst (Does v rest old (record old { tables = tables; kit = kit }) done)
      (sym (by_verdict s (given_of done) row image verdict t.validator (active_effect s row t image file) refl told refl ∙ ap (after_verdict row image verdict t.validator) (effect rest)))
      (record {
        effect = record {
          status = refl;
          detail = refl;
          bytes = refl;
          table = refl;
          events = refl;
          shown = refl;
          questions = refl;
          calls = refl;
          notice = refl;
          next = left_at rest old tables kit (same_owners v.verdict v.asked _ _ _ _ was);
        };
        asked = was;
      })))
      refl
      (record { events = omega (arith, len, few, one); notice = tt; bytes = omega arith })
      (record { none = roomy.packets; room = omega (arith, len, one, verdict_packet, copy, room) }))
