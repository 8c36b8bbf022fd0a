-- What commands do to the table that they name.
use Rattle.std.proofs.Common.{◌≡◌, ◌∙◌, ℕ, List, length, Bool, cond, Option, Some, None, is_some, Bor, option_map, refl, sym, ap}
use Rattle.tbl_kinds.specs.TableFiles.{TableFile}
use Rattle.tbl_kinds.specs.declared.entry.Answer.{Answer}
use Rattle.tbl_kinds.specs.declared.status.TheConstants.Status.{ERR_NO_SUCH_TABLE, ERR_NO_LOAD}
use Rattle.tbl_model.specs.State.{State, Table, Load}
use Rattle.tbl_model.specs.Tables.{table_at}
use Rattle.tbl_model.specs.Effects.{Effect, answered}
use Rattle.tbl_model.specs.Refusals.{by_refusal, load_refusal}
use Rattle.tbl_model.specs.Subjects.{by_table, if_table, if_file}
use Rattle.tbl_model.specs.GroundLoads.{loaded_effect, load_into, load_file_effect, load_effect}
use Rattle.tbl_model.specs.Activations.{aborted_effect, abort_of, abort_effect}
use Rattle.tbl_model.specs.declared.telemetry.Named.{Named}

-- a load is open if its image is there
pub is_open : (image : Option (Bor (List ℕ))) (load : Option Load) → option_map (λ (i : Bor (List ℕ)). i.now) image ≡ option_map (λ (l : Load). l.image) load → is_some load ≡ is_some image
is_open None None same = refl
is_open None (Some load) same = absurd (cc same)
is_open (Some image) None same = absurd (cc same)
is_open (Some image) (Some load) same = refl

module _ (s : State) (table : Named) (t : Table) (there : table_at s.tables table.row ≡ Some t) where
  -- the table of this full name is this one
  abbrev pub Leads : List ℕ → Type 0
  Leads name = (effect : ℕ → Table → Effect) → if_table s name effect ≡ record (by_table s ERR_NO_SUCH_TABLE (table_at s.tables table.row) (effect table.row)) { table = Some table }

  of_table : (name : List ℕ) (effect : ℕ → Table → Effect) → Leads name → if_table s name effect ≡ record (effect table.row t) { table = Some table }
  of_table name effect leads = leads effect ∙ ap (λ (found : Option Table). record (by_table s ERR_NO_SUCH_TABLE found (effect table.row)) { table = Some table }) there

  pub abort_by : (name : List ℕ) → Leads name → (open_load : Bool) → is_some t.load ≡ open_load
      → abort_effect s name ≡ record (cond open_load (aborted_effect s table.row) (answered s ERR_NO_LOAD 0)) { table = Some table }
  unfolding abort_effect
  abort_by name leads open_load is =
      of_table name (abort_of s) leads ∙ ap (λ (b : Bool). record (cond b (aborted_effect s table.row) (answered s ERR_NO_LOAD 0)) { table = Some table }) is

  pub load_by : (name : List ℕ) (file : TableFile) → ((effect : TableFile → Effect) → if_file s name effect ≡ effect file) → Leads file.name
      → (reason : Option Answer) → reason ≡ load_refusal s.tables table.row t file.offset (length file.image)
      → load_effect s name ≡ record (by_refusal s reason (loaded_effect s name file table.row)) { table = Some table }
  unfolding load_effect load_file_effect
  load_by name file read leads reason why =
      read (load_file_effect s name) ∙ of_table file.name (load_into s name file) leads
      ∙ ap (λ (r : Option Answer). record (by_refusal s r (loaded_effect s name file table.row)) { table = Some table }) (sym why)
