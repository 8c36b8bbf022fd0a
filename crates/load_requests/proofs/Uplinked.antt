-- What comes of an uplinked file that the owner of a table loads.
use Rattle.std.proofs.Common.{◌≡◌, ◌∙◌, ◌+◌, ◌≤◌, ◌==◌, ℕ, List, [], length, Bool, true, false, not, cond, Option, Some, None, refl, sym, ap}
use Rattle.std.specs.Option.{option_or}
use Rattle.std.specs.Str.{bytes_eq}
use Rattle.tbl_kinds.specs.TableFiles.{TableFile}
use Rattle.tbl_kinds.specs.declared.entry.Answer.{Answer}
use Rattle.tbl_kinds.specs.declared.status.TheConstants.Status.{ERR_NO_BUFFER_AVAIL}
use Rattle.tbl_model.specs.State.{State, Table, Tables}
use Rattle.tbl_model.specs.Tables.{in_use}
use Rattle.tbl_model.specs.TableSteps.{locker}
use Rattle.tbl_model.specs.Effects.{Effect, answered}
use Rattle.tbl_model.specs.Given.{Given}
use Rattle.tbl_model.specs.Refusals.{by_answer, by_refusal, closed_refusal, part_refusal, busy_refusal, file_refusal}
use Rattle.tbl_model.specs.Subjects.{if_file}
use Rattle.tbl_model.specs.AppLoads.{by_function, from_file, activate_effect, file_image, load_file_of, named_file_of}
use Rattle.tbl_model.proofs.RefusalLaws.{part_taken, not_busy}
use Rattle.load_requests.specs.Loads.{active_effect}

-- ---- its effect

module _ (s : State) (name : List ℕ) (given : Given) (row : ℕ) (t : Table) (open_to : None ≡ closed_refusal t) where
  -- the table takes a load, so the file is looked for
  pub looked_for : (e : Effect) → if_file s name (load_file_of s name given row t) ≡ e → named_file_of s name given row t ≡ e
  looked_for e is = ap (λ (r : Option Answer). by_answer s r (if_file s name (load_file_of s name given row t))) (sym open_to) ∙ is

  module _ (file : TableFile) (read : (effect : TableFile → Effect) → if_file s name effect ≡ effect file) where
    pub by_reason : (reason : Option Answer) → reason ≡ file_refusal s.tables row t file → (image : List ℕ) → image ≡ file_image t file
        → named_file_of s name given row t ≡ by_refusal s reason (by_function s row image t.validator given (from_file row name (activate_effect s row t image)))
    by_reason reason why image same = looked_for _ (read (load_file_of s name given row t)
        ∙ ap (λ (r : Option Answer). by_refusal s r (by_function s row (file_image t file) t.validator given (from_file row name (activate_effect s row t (file_image t file))))) (sym why)
        ∙ ap (λ (i : List ℕ). by_refusal s reason (by_function s row i t.validator given (from_file row name (activate_effect s row t i)))) (sym same))

    pub file_refused : (answer : Answer) → Some answer ≡ file_refusal s.tables row t file
        → named_file_of s name given row t ≡ record (answered s answer.status answer.detail) { bytes = cond (answer.status.0 == ERR_NO_BUFFER_AVAIL.0) (in_use s.tables) [] }
    file_refused answer why = by_reason (Some answer) why (file_image t file) refl

    pub file_admitted : None ≡ file_refusal s.tables row t file → (image : List ℕ) → image ≡ file_image t file
        → named_file_of s name given row t ≡ by_function s row image t.validator given (active_effect s row t image (Some name))
    file_admitted none image same = by_reason None none image same

-- ---- a file that is taken as the next image of its table

pub record TakesFile (tables : Tables) (row : ℕ) (t : Table) (file : TableFile) : Type 0 where
  pub within : file.offset + length file.image ≤ t.size
  pub unlocked : locker tables row t ≡ None

after_name : (b : Bool) (x : Answer) (p rest : Option Answer) → cond b (Some x) (option_or p rest) ≡ None → (p ≡ None) × (rest ≡ None)
after_name true x p rest none = absurd (cc none)
after_name false x None rest none = (refl, none)
after_name false x (Some answer) rest none = absurd (cc none)

pub file_taken : (tables : Tables) (row : ℕ) (t : Table) (file : TableFile) → file_refusal tables row t file ≡ None → TakesFile tables row t file
file_taken tables row t file none =
    let parts = after_name (not (bytes_eq file.name t.name)) _ (part_refusal t file.offset (length file.image)) (busy_refusal tables row t) none in
    record { within = (part_taken t file.offset (length file.image) parts.0).0; unlocked = not_busy tables row t parts.1 }
