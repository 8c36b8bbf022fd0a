-- The one contract, put together and carried over.
use Rattle.std.proofs.Common.{◌≡◌, ◌∙◌, ℕ, List, length, Some, Result, Ok, Err, sym, subst, ap, refl}
use Rattle.tbl_model.specs.State.{State, Table, Tables}
use Rattle.tbl_model.specs.Tables.{table_at}
use Rattle.tbl_model.specs.Effects as model
use Rattle.tbl_model.specs.Given.{Given}
use Rattle.tbl_kinds.specs.declared.entry.Answer.{Answer}
use Rattle.tbl_outside.specs.declared.validator.Validator.{Ghosts as ValidatorGhosts}
use Rattle.tbl_outside.specs.declared.validator.KitEntry.{KitEntry}
use Rattle.std.proofs.Common.{Option}
use Rattle.std.specs.Option.{option_map}
use Rattle.validation.specs.Kits.{owners}
use Rattle.request_effects.specs.Reports.{Reported}
use Rattle.request_effects.specs.Effects.{Effect, IsWithin, HasRoom, given_of, told_effect}
use Rattle.desk.specs.Desk.{Rest, state_at, Output}
use Rattle.desk.specs.Requests.{Meaning, told, for_row, Does, Has, Made, Served}
use Rattle.desk.specs.declared.desk.Desk.{Desk}

-- a request that comes to the same in the old state
pub as_meant : {C : Type 0} (v : ValidatorGhosts C) (a b : Meaning) (old new : Desk C) (out : Output) (answer : Answer)
    → ((rest : Rest) (given : Given) → a.effect (state_at rest old) given ≡ b.effect (state_at rest old) given) → a.most ≡ b.most → a.more old.tables ≡ b.more old.tables
    → Made v a old new out answer → Made v b old new out answer
as_meant v a b old new out answer same most more made = record {
  done = λ rest. subst (Has v rest old new (told answer out)) (same rest (given_of (told answer out))) (made.done rest);
  two = made.two;
  within = subst (λ (n : ℕ). IsWithin n (told answer out)) most made.within;
  room = subst (λ (n : ℕ). HasRoom n out.reply.packets (told answer out)) more made.room;
}

-- the same if memory may have run out
pub served_so : {C E : Type 0} (v : ValidatorGhosts C) (a b : Meaning) (old new : Desk C) (out : Output) (result : Result Answer E)
    → ((rest : Rest) (given : Given) → a.effect (state_at rest old) given ≡ b.effect (state_at rest old) given) → a.most ≡ b.most → a.more old.tables ≡ b.more old.tables
    → Served v a old new out result → Served v b old new out result
served_so v a b old new out (Ok answer) same most more made = as_meant v a b old new out answer same most more made
served_so v a b old new out (Err e) same most more left = left

-- it was made with these bytes and this report
pub made_so : {C : Type 0} (v : ValidatorGhosts C) (meaning : Meaning) (old new : Desk C) (out : Output) (answer : Answer) (bytes : List ℕ) (report : Reported)
    → out.reply.bytes.list ≡ bytes → out.report ≡ report
    → ((rest : Rest) → Has v rest old new (told_effect answer bytes report) (meaning.effect (state_at rest old) (given_of (told_effect answer bytes report))))
    → length report.verdicts ≡ 2 → IsWithin meaning.most (told_effect answer bytes report) → HasRoom (meaning.more old.tables) out.reply.packets (told_effect answer bytes report)
    → Made v meaning old new out answer
made_so v meaning old new out answer bytes report replied reported done two within room =
    let same : told_effect answer bytes report ≡ told answer out = λ i. told_effect answer (sym replied i) (sym reported i) in record {
      done = λ rest. subst (λ (e : Effect). Has v rest old new e (meaning.effect (state_at rest old) (given_of e))) same (done rest);
      two = ap (λ (r : Reported). length r.verdicts) reported ∙ two;
      within = subst (IsWithin meaning.most) same within;
      room = subst (HasRoom (meaning.more old.tables) out.reply.packets) same room;
    }

-- tables and a kit changed, and the functions are those of the same applications
pub left_at : {C : Type 0} (rest : Rest) (old : Desk C) (tables : Tables) (kit : List (Option (KitEntry C))) → owners kit ≡ owners old.kit
    → record (state_at rest old) { tables = tables } ≡ state_at rest (record old { tables = tables; kit = kit })
left_at rest old tables kit same = λ i. record (state_at rest old) { tables = tables; kit = sym same i }

-- a request for a row that comes to the same for the table that is there
pub serves_so : {C : Type 0} (v : ValidatorGhosts C) (row : ℕ) (e f : State → Given → Table → model.Effect) (most : ℕ) (more : Tables → ℕ) (old new : Desk C) (out : Output) (answer : Answer) (t : Table) → table_at old.tables row ≡ Some t
    → ((rest : Rest) (given : Given) → f (state_at rest old) given t ≡ e (state_at rest old) given t) → Made v (for_row row e most more) old new out answer → Made v (for_row row f most more) old new out answer
serves_so v row e f most more old new out answer t there same made =
    as_meant v (for_row row e most more) (for_row row f most more) old new out answer (λ rest given. rw there (ap (λ (x : model.Effect). Some x) (sym (same rest given)))) refl refl made

-- what only the kit changed in has the same tables
pub same_tables : {C : Type 0} (new old : Desk C) → new ≡ record old { kit = new.kit } → new.tables ≡ old.tables
same_tables {C = C} new old same = ap (λ (d : Desk C). d.tables) same

module _ {C : Type 0} (v : ValidatorGhosts C) (rest : Rest) (old new : Desk C) (done : Effect) (means : Table → model.Effect) (row : ℕ) (t : Table) (there : table_at old.tables row ≡ Some t) where
  -- an effect on the table that is there
  pub has_there : Does v rest old new done (means t) → Has v rest old new done (option_map means (table_at old.tables row))
  has_there does = subst (λ (o : Option Table). Has v rest old new done (option_map means o)) (sym there) does

  pub does_there : Has v rest old new done (option_map means (table_at old.tables row)) → Does v rest old new done (means t)
  does_there has = subst (λ (o : Option Table). Has v rest old new done (option_map means o)) there has
