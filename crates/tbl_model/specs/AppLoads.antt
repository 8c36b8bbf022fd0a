-- Images and table files that the owner of a table loads.
use Rattle.std.specs.Prelude.{ℕ, List, [], ◌∷◌, length, if◌then◌else◌, Option, Some, None}
use Rattle.std.proofs.Common.{ℤ}
use Rattle.tbl_kinds.specs.Numbers.{patched}
use Rattle.tbl_kinds.specs.TableFiles.{TableFile}
use Rattle.tbl_model.specs.State.{State, Table}
use Rattle.tbl_model.specs.TableSteps.{base, put, set_time, set_file}
use Rattle.tbl_model.specs.Telemetry.{activated, is_good, verdict_bits}
use Rattle.tbl_model.specs.Effects.{Effect, answered, named}
use Rattle.tbl_model.specs.Given.{Given, verdict_at}
use Rattle.tbl_model.specs.Refusals.{by_answer, by_refusal, closed_refusal, image_refusal, file_refusal}
use Rattle.tbl_model.specs.Subjects.{if_owner, if_file}
use Rattle.tbl_model.specs.Copies.{then_copy}
use Rattle.tbl_model.specs.declared.telemetry.TelemetryEvent.TheVariants.{Judged}
use Rattle.tbl_kinds.specs.declared.status.TheConstants.Status.{SUCCESS, ERR_VALIDATION_FAILED}

-- the image becomes the table's last one, at the service's time
abbrev pub activate_effect : State → ℕ → Table → List ℕ → Effect
activate_effect s row t image = record (answered s SUCCESS 0) {
  table = named t.name (Some row);
  events = activated row t ∷ [];
  images = Some image ∷ [];
  next = record s { tables = set_time row s.seconds s.sub (put row image s.tables) };
}

-- before that the function of this number gave its verdict on the image
abbrev pub with_verdict : ℕ → List ℕ → ℕ → ℤ → Effect → Effect
with_verdict row image number verdict effect = record effect {
  events = Judged row verdict ∷ effect.events;
  images = Some image ∷ effect.images;
  questions = record { number = number; image = image } ∷ [];
}

-- where the table has a function, the image goes active with its verdict 0 alone
abbrev pub by_function : State → ℕ → List ℕ → Option ℕ → Given → Effect → Effect
by_function s row image None given effect = effect
by_function s row image (Some number) given effect =
    let verdict = verdict_at 0 given in
    if is_good verdict then with_verdict row image number verdict effect
    else with_verdict row image number verdict (answered s ERR_VALIDATION_FAILED (verdict_bits verdict))

abbrev pub load_image_of : State → List ℕ → Given → ℕ → Table → Effect
load_image_of s image given row t = by_refusal s (image_refusal s.tables row t (length image)) (by_function s row image t.validator given (activate_effect s row t image))

-- an image of the whole table
unfoldable pub load_image_effect : State → ℕ → ℕ → List ℕ → Given → Effect
load_image_effect s app handle image given = if_owner s app handle (λ row t. then_copy row given.note (load_image_of s image given row t))

-- ---- files

-- it came from this file
abbrev pub from_file : ℕ → List ℕ → Effect → Effect
from_file row name effect = record effect { next = record effect.next { tables = set_file row name effect.next.tables } }

-- the image that a file makes of the table's: its bytes over the last image, or over zeros
abbrev pub file_image : Table → TableFile → List ℕ
file_image t file = patched (base t) file.offset file.image

abbrev pub load_file_of : State → List ℕ → Given → ℕ → Table → TableFile → Effect
load_file_of s name given row t file =
    by_refusal s (file_refusal s.tables row t file) (by_function s row (file_image t file) t.validator given (from_file row name (activate_effect s row t (file_image t file))))

-- an uplinked file for the table, or a part of it, which is looked for only where the table takes a load
abbrev pub named_file_of : State → List ℕ → Given → ℕ → Table → Effect
named_file_of s name given row t = by_answer s (closed_refusal t) (if_file s name (load_file_of s name given row t))

unfoldable pub app_file_effect : State → ℕ → ℕ → List ℕ → Given → Effect
app_file_effect s app handle name given = if_owner s app handle (λ row t. then_copy row given.note (named_file_of s name given row t))
