-- The verdicts of few events answer questions that were asked.
use Rattle.std.proofs.Common.{◌≡◌, ℕ, zero, suc, List, [], ◌∷◌, Bool, true, false, cond, eqb, Option, Some, None, is_some, ℤ, refl, sym, ap, ◌∙◌}
use Rattle.std.specs.Prelude.{slice_get}
use Rattle.std.proofs.lemmas.Option.{same_Some}
use Rattle.std.proofs.lemmas.Bool.{eqb-true}
use Rattle.tbl_model.specs.State.{State, Table}
use Rattle.tbl_model.specs.Tables.{table_at}
use Rattle.tbl_model.specs.Telemetry.{Question, finished}
use Rattle.tbl_model.specs.Given.{Given, verdict_at}
use Rattle.tbl_model.specs.Effects.{Effect}
use Rattle.tbl_model.specs.Validations.{questions}
use Rattle.tbl_model.specs.Vouched.{verdict_for}
use Rattle.tbl_model.specs.declared.telemetry.TelemetryEvent.{TelemetryEvent}
use Rattle.tbl_model.specs.declared.telemetry.TelemetryEvent.TheVariants.{Judged, Activated}
use Rattle.tbl_laws.proofs.Honest.{TellsIn}

-- the verdict is the answer to a question about this image, for the function of this number
pub record WasAsked (questions : List Question) (given : Given) (number : ℕ) (image : List ℕ) (v : ℤ) : Type 0 where
  pub place : ℕ
  pub question : slice_get questions place ≡ Some (record { number = number; image = image })
  pub answer : v ≡ verdict_at place given

-- so is each verdict of these events, of a table with a function
abbrev pub AreAsked : State → Given → List TelemetryEvent → List (Option (List ℕ)) → List Question → Type 0
AreAsked s given events images questions = (place row number : ℕ) (event : TelemetryEvent) (image : List ℕ) (v : ℤ) (t : Table) → TellsIn events images place event image → verdict_for row event ≡ Some v
    → table_at s.tables row ≡ Some t → t.validator ≡ Some number → WasAsked questions given number image v

abbrev pub IsKept : State → Given → Effect → Type 0
IsKept s given e = AreAsked s given e.events e.images e.questions

-- ---- few events

pub none_told : (s : State) (given : Given) (events : List TelemetryEvent) (images : List (Option (List ℕ))) (questions : List Question) → events ≡ [] → AreAsked s given events images questions
none_told s given [] images questions no_events zero row number event image v t tells is there function = absurd (cc tells.event_is)
none_told s given [] images questions no_events (suc place) row number event image v t tells is there function = absurd (cc tells.event_is)
none_told s given (d ∷ ds) images questions no_events place row number event image v t tells is there function = absurd (cc no_events)

-- an event that reports no verdict
abbrev pub IsSilent : TelemetryEvent → Type 0
IsSilent d = (row : ℕ) → verdict_for row d ≡ None

pub one_told : (s : State) (given : Given) (d : TelemetryEvent) (images : List (Option (List ℕ))) (questions : List Question) → IsSilent d → AreAsked s given (d ∷ []) images questions
one_told s given d images questions silent zero row number event image v t tells is there function = absurd (cc (silent row, ap (verdict_for row) (same_Some d event tells.event_is), is))
one_told s given d images questions silent (suc zero) row number event image v t tells is there function = absurd (cc tells.event_is)
one_told s given d images questions silent (suc (suc place)) row number event image v t tells is there function = absurd (cc tells.event_is)

-- the row whose verdict is reported
pub told_of : (b : Bool) (v w : ℤ) → cond b (Some v) None ≡ Some w → (b ≡ true) × (v ≡ w)
told_of true v w is = (refl, same_Some v w is)
told_of false v w is = absurd (cc is)

-- the only verdict is that of a table whose function was asked for it
pub judged_told : (s : State) (given : Given) (r : ℕ) (u : Table) (number : ℕ) (image : List ℕ) (verdict : ℤ) (more : List TelemetryEvent) (images : List (Option (List ℕ))) → table_at s.tables r ≡ Some u → u.validator ≡ Some number
    → verdict ≡ verdict_at 0 given → ((place : ℕ) (d : TelemetryEvent) → slice_get more place ≡ Some d → IsSilent d)
    → AreAsked s given (Judged r verdict ∷ more) (Some image ∷ images) (record { number = number; image = image } ∷ [])
judged_told s given r u number image verdict more images there function one silent zero row n event found v t tells is at has =
    let told = told_of (eqb r row) verdict v (ap (verdict_for row) (same_Some _ event tells.event_is) ∙ is) in
    let here : r ≡ row = eqb-true r row told.0 in
    let same : u ≡ t = same_Some u t (sym there ∙ ap (λ (j : ℕ). table_at s.tables j) here ∙ at) in
    let numbers : number ≡ n = same_Some number n (sym function ∙ ap (λ (x : Table). x.validator) same ∙ has) in
    record { place = 0; question = rw (numbers, same_Some image found tells.image_is) refl; answer = sym told.1 ∙ one }
judged_told s given r u number image verdict more images there function one silent (suc place) row n event found v t tells is at has = absurd (cc (silent place event tells.event_is row, is))

pub nothing_silent : (place : ℕ) (d : TelemetryEvent) → slice_get [] place ≡ Some d → IsSilent d
nothing_silent zero d is row = absurd (cc is)
nothing_silent (suc place) d is row = absurd (cc is)

pub active_silent : (r count : ℕ) (name : List ℕ) (place : ℕ) (d : TelemetryEvent) → slice_get (Activated r count name ∷ []) place ≡ Some d → IsSilent d
active_silent r count name zero d is row = ap (verdict_for row) (sym (same_Some _ d is))
active_silent r count name (suc zero) d is row = absurd (cc is)
active_silent r count name (suc (suc place)) d is row = absurd (cc is)

-- a validation that came to its end, of a table whose function was asked for it, if it has one
pub finished_told : (s : State) (given : Given) (r : ℕ) (u : Table) (active : Bool) (image : List ℕ) (verdict : ℤ) → table_at s.tables r ≡ Some u → (is_some u.validator ≡ true → verdict ≡ verdict_at 0 given)
    → AreAsked s given (finished r active u image verdict ∷ []) (Some image ∷ []) (questions u image)
finished_told s given r u active image verdict there one zero row n event found v t tells is at has =
    let told = told_of (eqb r row) verdict v (ap (verdict_for row) (same_Some _ event tells.event_is) ∙ is) in
    let here : r ≡ row = eqb-true r row told.0 in
    let same : u ≡ t = same_Some u t (sym there ∙ ap (λ (j : ℕ). table_at s.tables j) here ∙ at) in
    let function : u.validator ≡ Some n = ap (λ (x : Table). x.validator) same ∙ has in
    record { place = 0; question = rw (function, same_Some image found tells.image_is) refl; answer = sym told.1 ∙ one (rw function refl) }
finished_told s given r u active image verdict there one (suc zero) row n event found v t tells is at has = absurd (cc tells.event_is)
finished_told s given r u active image verdict there one (suc (suc place)) row n event found v t tells is at has = absurd (cc tells.event_is)
