-- What the owner of a table requested did not make the table another: it stays critical, or not.
use Rattle.std.proofs.Common.{arith, refl, false, ◌≡◌, ◌∙◌, ℕ, [], Bool, true, Option, Some, None, sym, ap, subst}
use Rattle.std.specs.Prelude.{IfSome, if◌then◌else◌}
use Rattle.std.proofs.lemmas.Option.{same_Some}
use Rattle.tbl_model.specs.State.{State, Table, Tables}
use Rattle.tbl_model.specs.Tables.{table_at, is_critical, is_critical_in, has_option}
use Rattle.tbl_model.specs.Effects as model
use Rattle.tbl_model.specs.Given.{Given}
use Rattle.tbl_laws.proofs.Options.{update_options, load_image_options, app_file_options, manage_options}
use Rattle.tbl_kinds.specs.declared.request.Request.{Request}
use Rattle.tbl_kinds.specs.declared.request.Request.TheVariants as ask
use Rattle.tbl_core.specs.Requests.{activates}
use Rattle.request_effects.specs.Effects.{given_of}
use Rattle.tbl_core.specs.Owned.{owned_effect, owned_at}
use Rattle.tbl_core.specs.Service.{PartsView, state_of, owned_in, Does}
use Rattle.request_effects.specs.Effects.{Effect, HasRoom}
use Rattle.tbl_kinds.specs.Buffers.{Buffer}
use Rattle.tbl_core.proofs.TableRequests.{stands_in, effect_left}
use Rattle.tbl_outside.specs.declared.validator.Validator.{Ghosts as ValidatorGhosts}

abbrev Stay : ℕ → Table → model.Effect → Type 0
Stay row t e = IfSome (table_at e.next.tables row) (λ (u : Table). u.options ≡ t.options)

options_stay : (s : State) (row : ℕ) (t : Table) → table_at s.tables row ≡ Some t → (request : Request) (given : Given) (e : model.Effect) → activates request ≡ true → owned_effect s row t request given ≡ Some e → Stay row t e
options_stay s row t there (ask.LoadImage h image) given e can is = subst (Stay row t) (same_Some _ e is) (load_image_options s row t there image.list given)
options_stay s row t there (ask.LoadFile h name) given e can is = subst (Stay row t) (same_Some _ e is) (app_file_options s row t there name given)
options_stay s row t there (ask.Update h) given e can is = subst (Stay row t) (same_Some _ e is) (update_options s row t there)
options_stay s row t there (ask.Manage h) given e can is = subst (Stay row t) (same_Some _ e is) (manage_options s row t there given)
options_stay s row t there request given e can is = absurd (cc can)

by_options : (t : Table) (o : Option Table) → IfSome o (λ (u : Table). u.options ≡ t.options) → is_critical_in o ≡ true → is_critical t ≡ true
by_options t None stay is = absurd (cc is)
by_options t (Some u) stay is = ap (has_option 0x0008) (sym stay) ∙ is

pub stays_critical : {B C : Type 0} (v : ValidatorGhosts C) (old new : PartsView B C) (row : ℕ) (request : Request) (done : Effect) (t : Table) → table_at old.tables row ≡ Some t → activates request ≡ true
    → Does v 3 old new (owned_in row request) done → is_critical_in (table_at new.tables row) ≡ true → is_critical_in (table_at old.tables row) ≡ true
stays_critical v old new row request done t there can does is =
    let left = effect_left [] done new _ (does.effect (state_of old) (stands_in old)) in
    let e = left.0 in
    let found : owned_effect (state_of old) row t request (given_of done) ≡ Some e = ap (λ (o : Option Table). owned_at o (state_of old) row request (given_of done)) (sym there) ∙ left.1 in
    let stay : IfSome (table_at new.tables row) (λ (u : Table). u.options ≡ t.options) = subst (λ (tables : Tables). IfSome (table_at tables row) (λ (u : Table). u.options ≡ t.options)) left.3.tables (options_stay (state_of old) row t there request (given_of done) e can found) in
    ap is_critical_in there ∙ by_options t (table_at new.tables row) stay is

-- room for the copy of an image of a table that may be critical
pub room_stays : (was is : Bool) → (is ≡ true → was ≡ true) → (packets : Buffer) (done : Effect) → HasRoom (if was then 24 else 0) packets done → HasRoom (if is then 24 else 0) packets done
room_stays true true stays packets done had = had
room_stays false true stays packets done had = absurd (cc (stays refl))
room_stays true false stays packets done had = record { none = had.none; room = let room = had.room in omega (arith, room) }
room_stays false false stays packets done had = had
