-- A registration as the model has it, by what is found: how many tables are critical, and which block has the name.
use Rattle.std.proofs.Common.{◌≡◌, inl, inr, ℕ, [], ◌∷◌, ◌≤◌, ◌<◌, suc, arith, Bool, true, false, not, Option, Some, None, refl, sym, ◌∙◌, ap, subst}
use Rattle.std.specs.Prelude.{if◌then◌else◌, option_and_then, unwrap_or, IsSome, IfSome, nat_le, length, replicate}
use Rattle.std.specs.Option.{option_or}
use Rattle.tbl_kinds.specs.StoreCalls.{restore}
use Rattle.tbl_kinds.specs.StoreSteps.{stored_at, open_of, doubtful_of, has_room}
use Rattle.tbl_kinds.specs.Notes.{restored_image}
use Rattle.tbl_kinds.specs.declared.block.BlockKind.TheVariants.{Table as of_table}
use Rattle.tbl_kinds.specs.declared.note.BankNote.{BankNote}
use Rattle.tbl_kinds.specs.declared.status.TheConstants.Status.{SUCCESS}
use Rattle.tbl_model.specs.State.{State, Table, Tables}
use Rattle.tbl_kinds.specs.Free.{least_free}
use Rattle.tbl_model.specs.Tables.{is_critical, is_dump_only, critical_count}
use Rattle.tbl_model.specs.TableSteps.{new_table, as_registered, first_image, with_first, added}
use Rattle.tbl_model.specs.Refusals.{may_use}
use Rattle.tbl_model.specs.Registration.{new_effect}
use Rattle.tbl_model.specs.Fit.{AreFit}
use Rattle.tbl_laws.proofs.Changes.{grown}
use Rattle.tbl_laws.proofs.Ordinary.{new_row}
use Rattle.std.proofs.lemmas.Bool.Decides.{nat_tests}
use Rattle.std.proofs.lemmas.List.{length-replicate}
use Rattle.tbl_model.specs.Effects as model
use Rattle.tbl_model.specs.StoreUse.{then_call}
use Rattle.tbl_model.specs.AppBlocks.{any_of, has_size}
use Rattle.tbl_model.specs.CriticalTables.{critical_limit, registered, not_kept, recovered, instead, kept_effect, critical_effect}
use Rattle.tbl_model.specs.Copies.{block_of}
use Rattle.tbl_registry.specs.declared.row.NewTable.{NewTable}
use Rattle.sharing.specs.Registering.{next_row, next_handle, CanRegister}
use Rattle.store_requests.specs.Registering.{AtMostOne, recovery, making}
use Rattle.store_requests.proofs.Reserved.{chosen, refused}

-- ---- its block

-- the block of its name is the open one, or else the doubtful one
pub any_is : (s : State) (t : Table) (old : Option ℕ) → open_of of_table t.name s.store ≡ old → any_of of_table t.name s.store ≡ option_or old (doubtful_of of_table t.name s.store)
any_is s t old is = ap (λ o. option_or o (doubtful_of of_table t.name s.store)) is

module _ (s : State) (row : ℕ) (t : Table) (n : BankNote) (old : Option ℕ) where
  abbrev pub there : model.Effect
  there = then_call (restore (unwrap_or old 0) (restored_image n) ∷ []) n (instead (not_kept s row t)) (recovered s row t (restored_image n))

  pub kept_made : (any : Option ℕ) → any_of of_table t.name s.store ≡ any → has_size t.size (option_and_then (stored_at s.store) old) ≡ false → has_room t.size any s.store ≡ true → kept_effect s row t n old ≡ making s row t old n
  kept_made any is other room =
      chosen (has_size t.size (option_and_then (stored_at s.store) old)) (has_room t.size (any_of of_table t.name s.store) s.store) there (not_kept s row t) (making s row t old n) other (ap (λ o. has_room t.size o s.store) is ∙ room)

  pub kept_full : (any : Option ℕ) → any_of of_table t.name s.store ≡ any → has_size t.size (option_and_then (stored_at s.store) old) ≡ false → has_room t.size any s.store ≡ false → kept_effect s row t n old ≡ not_kept s row t
  kept_full any is other room =
      refused (has_size t.size (option_and_then (stored_at s.store) old)) (has_room t.size (any_of of_table t.name s.store) s.store) there (not_kept s row t) (making s row t old n) other (ap (λ o. has_room t.size o s.store) is ∙ room)

-- it has a block of its size, or none
with_block : (b : Bool) (old : Option ℕ) (slot : ℕ) → (if b then old else None) ≡ Some slot → (b ≡ true) × (old ≡ Some slot)
with_block true old slot is = (refl, is)
with_block false old slot is = absurd (cc is)

no_block : (b : Bool) (slot : ℕ) → (if b then Some slot else None) ≡ None → b ≡ false
no_block true slot is = absurd (cc is)
no_block false slot is = refl

pub kept_found : (s : State) (row : ℕ) (t : Table) (n : BankNote) (slot : ℕ) → block_of t s.store ≡ Some slot → kept_effect s row t n (open_of of_table t.name s.store) ≡ recovery s row t slot n
kept_found s row t n slot is =
    let sized = has_size t.size (option_and_then (stored_at s.store) (open_of of_table t.name s.store)) in
    let found = with_block sized (open_of of_table t.name s.store) slot is in
    ap (λ o. kept_effect s row t n o) found.1 ∙ kept_sized (has_size t.size (stored_at s.store slot)) (ap (λ o. has_size t.size (option_and_then (stored_at s.store) o)) (sym found.1) ∙ found.0)
  where
    kept_sized : (b : Bool) → b ≡ true
        → (if b then recovery s row t slot n else (if not (has_room t.size (any_of of_table t.name s.store) s.store) then not_kept s row t else making s row t (Some slot) n)) ≡ recovery s row t slot n
    kept_sized true is = refl
    kept_sized false is = absurd (cc is)

pub other_size : (s : State) (t : Table) (slot : ℕ) → open_of of_table t.name s.store ≡ Some slot → block_of t s.store ≡ None → has_size t.size (stored_at s.store slot) ≡ false
other_size s t slot found none =
    no_block (has_size t.size (stored_at s.store slot)) slot (sym (ap (λ o. if has_size t.size (option_and_then (stored_at s.store) o) then o else None) found) ∙ none)

-- ---- the whole registration

chosen_first : (b : Bool) (x y : model.Effect) → b ≡ true → (if b then x else y) ≡ x
chosen_first true x y is = refl
chosen_first false x y is = absurd (cc is)

chosen_second : (b : Bool) (x y : model.Effect) → b ≡ false → (if b then x else y) ≡ y
chosen_second false x y is = refl
chosen_second true x y is = absurd (cc is)

pub critical_new : (s : State) (row : ℕ) (t : Table) (n : BankNote) → is_critical t ≡ true → new_effect s row t n ≡ critical_effect s row t n
critical_new s row t n is = chosen_first (is_critical t) (critical_effect s row t n) (registered s row (as_registered t) SUCCESS) is

pub plain_new : (s : State) (row : ℕ) (t : Table) (n : BankNote) → is_critical t ≡ false → new_effect s row t n ≡ registered s row (as_registered t) SUCCESS
plain_new s row t n is = chosen_second (is_critical t) (critical_effect s row t n) (registered s row (as_registered t) SUCCESS) is

-- fewer are critical than can be
pub critical_kept : (s : State) (row : ℕ) (t : Table) (n : BankNote) (count : ℕ) → critical_count s.tables ≡ count → count < 32 → critical_effect s row t n ≡ kept_effect s row t n (open_of of_table t.name s.store)
critical_kept s row t n count same few =
    chosen_second (nat_le critical_limit (critical_count s.tables)) (not_kept s row t) (kept_effect s row t n (open_of of_table t.name s.store)) (ap (nat_le critical_limit) same ∙ more count few)
  where
    more : (count : ℕ) → count < 32 → nat_le 32 count ≡ false
    more count few = grind (arith, nat_tests)

-- as many are as can be
pub critical_full : (s : State) (row : ℕ) (t : Table) (n : BankNote) (count : ℕ) → critical_count s.tables ≡ count → 32 ≤ count → critical_effect s row t n ≡ not_kept s row t
critical_full s row t n count same many =
    chosen_first (nat_le critical_limit (critical_count s.tables)) (not_kept s row t) (kept_effect s row t n (open_of of_table t.name s.store)) (ap (nat_le critical_limit) same ∙ as_many count many)
  where
    as_many : (count : ℕ) → 32 ≤ count → nat_le 32 count ≡ true
    as_many count many = grind (arith, nat_tests)

-- what holds of tables still does
some_is : (o : Option ℕ) → IsSome o → o ≡ Some (unwrap_or o 0)
some_is None is = absurd (cc is)
some_is (Some n) is = refl

pub fits_one : (s : State) (n : ℕ) (old new : Tables) (app : ℕ) (plan : NewTable) → s.tables ≡ old → CanRegister old plan → may_use s.kit app plan.validator ≡ true → AreFit n s → AtMostOne old new app plan → AreFit (suc n) (record s { tables = new })
fits_one s n old new app plan same can may fit (inl is) = subst (λ (tables : Tables). AreFit (suc n) (record s { tables = tables })) (same ∙ sym is) (grown n s fit)
fits_one s n old new app plan same can may fit (inr more) =
    subst (λ (tables : Tables). AreFit (suc n) (record s { tables = tables })) (ap (added (next_row old) (with_first more.1 (new_table plan.name app plan.size more.0 plan.validator (next_handle old)))) same ∙ sym more.3)
    (new_row s n fit plan.name (next_row old) (next_handle old) app plan.size more.0 plan.validator more.1
    (ap (λ (tables : Tables). least_free tables.rows) same ∙ some_is (least_free old.rows) can.row) (ap (λ (tables : Tables). least_free tables.handles) same ∙ some_is (least_free old.handles) can.handle) may)

-- the image that a table begins with has its size
pub first_sized : (t : Table) → IfSome (first_image t) (λ image. length image ≡ t.size)
first_sized t = by (is_dump_only t) where
  by : (b : Bool) → IfSome (if b then Some (replicate {A = ℕ} t.size 0) else None) (λ image. length image ≡ t.size)
  by true = length-replicate t.size 0
  by false = tt
