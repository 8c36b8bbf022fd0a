-- Which image is copied after a request, as the model has it.
use Rattle.std.proofs.Common.{◌≡◌, ℕ, List, length, Bool, true, false, cond, Option, Some, None, refl, sym, ◌∙◌, ap}
use Rattle.std.specs.Prelude.{◌-◌, slice_get, option_and_then}
use Rattle.std.specs.Option.{option_map}
use Rattle.std.proofs.lemmas.Option.{same_Some}
use Rattle.tbl_kinds.specs.declared.note.BankNote.{BankNote}
use Rattle.tbl_model.specs.State.{Table, Tables}
use Rattle.tbl_model.specs.Tables.{table_at, is_critical, is_critical_in}
use Rattle.tbl_model.specs.Effects as model
use Rattle.tbl_model.specs.Copies.{went_active, is_activation, block_of, copied_to, copied_of, then_copy}
use Rattle.tbl_model.specs.declared.telemetry.TelemetryEvent.{TelemetryEvent}
use Rattle.request_effects.specs.Effects.{Effect}

pub went_as : (e : model.Effect) (events : List TelemetryEvent) (b : Bool) → e.events ≡ events → b ≡ is_activation (slice_get events (length events - 1)) → went_active e ≡ b
went_as e events b same is = ap (λ (d : List TelemetryEvent). is_activation (slice_get d (length d - 1))) same ∙ sym is

chosen : {X : Type 0} (b : Bool) (x y : X) → b ≡ true → cond b x y ≡ x
chosen true x y is = refl
chosen false x y is = absurd (cc is)

left_out : {X : Type 0} (b : Bool) (x y : X) → b ≡ false → cond b x y ≡ y
left_out false x y is = refl
left_out true x y is = absurd (cc is)

module _ (row : ℕ) (n : BankNote) (e : model.Effect) (tables : Tables) (same : e.next.tables ≡ tables) where
  -- none went active
  pub none_active : went_active e ≡ false → then_copy row n e ≡ e
  none_active is = left_out (went_active e) (copied_of row n e (table_at e.next.tables row)) e is

  unless_active : (t : Option Table) → table_at tables row ≡ t → copied_of row n e t ≡ e → then_copy row n e ≡ e
  unless_active t there is = either (went_active e) where
    found : copied_of row n e (table_at e.next.tables row) ≡ e
    found = ap (λ (ts : Tables). copied_of row n e (table_at ts row)) same ∙ ap (copied_of row n e) there ∙ is

    either : (b : Bool) → cond b (copied_of row n e (table_at e.next.tables row)) e ≡ e
    either true = found
    either false = refl

  -- the table isn't critical, if there is one
  pub none_critical : false ≡ is_critical_in (table_at tables row) → then_copy row n e ≡ e
  none_critical plain = by (table_at tables row) refl plain where
    by : (t : Option Table) → table_at tables row ≡ t → false ≡ is_critical_in t → then_copy row n e ≡ e
    by None there plain = unless_active None there refl
    by (Some t) there plain = unless_active (Some t) there (left_out (is_critical t) (copied_to row n e (block_of t e.next.store) t.last) e (sym plain))

  -- it has no image
  pub none_there : None ≡ option_and_then (λ (t : Table). t.last) (table_at tables row) → then_copy row n e ≡ e
  none_there none = by (table_at tables row) refl none where
    without : (t : Table) → None ≡ t.last → (slot : Option ℕ) → copied_to row n e slot t.last ≡ e
    without t none None = refl
    without t none (Some slot) = ap (copied_to row n e (Some slot)) (sym none)

    critical : (t : Table) → None ≡ t.last → (b : Bool) → cond b (copied_to row n e (block_of t e.next.store) t.last) e ≡ e
    critical t none true = without t none (block_of t e.next.store)
    critical t none false = refl

    by : (t : Option Table) → table_at tables row ≡ t → None ≡ option_and_then (λ (t : Table). t.last) t → then_copy row n e ≡ e
    by None there none = unless_active None there refl
    by (Some t) there none = unless_active (Some t) there (critical t none (is_critical t))

  -- it is critical, and this is its image
  pub one_there : (t : Table) (image : List ℕ) → went_active e ≡ true → table_at tables row ≡ Some t → true ≡ is_critical t → Some image ≡ t.last → then_copy row n e ≡ copied_to row n e (block_of t e.next.store) (Some image)
  one_there t image is there critical last =
      chosen (went_active e) (copied_of row n e (table_at e.next.tables row)) e is ∙ ap (λ (ts : Tables). copied_of row n e (table_at ts row)) same ∙ ap (copied_of row n e) there
      ∙ chosen (is_critical t) (copied_to row n e (block_of t e.next.store) t.last) e (sym critical) ∙ ap (copied_to row n e (block_of t e.next.store)) (sym last)

  -- there is no table
  pub none_named : None ≡ option_map (λ (t : Table). t.name) (table_at tables row) → then_copy row n e ≡ e
  none_named none = by (table_at tables row) refl none where
    by : (t : Option Table) → table_at tables row ≡ t → None ≡ option_map (λ (t : Table). t.name) t → then_copy row n e ≡ e
    by None there none = unless_active None there refl
    by (Some t) there none = absurd (cc none)

-- the table of this name, and its image
pub named_there : (o : Option Table) (name : List ℕ) → Some name ≡ option_map (λ (t : Table). t.name) o → (t : Table) × (o ≡ Some t) × (t.name ≡ name)
named_there None name is = absurd (cc is)
named_there (Some t) name is = (t, refl, sym (same_Some name t.name is))
