-- Whom a load would ask.
use Rattle.std.proofs.Common.{◌≡◌, ℕ, List, [], length, Bool, true, false, cond, Option, Some, None, is_some, refl, ap, ◌∙◌}
use Rattle.tbl_kinds.specs.declared.entry.Answer.{Answer}
use Rattle.tbl_model.specs.State.{State, Table}
use Rattle.tbl_model.specs.Effects.{Effect}
use Rattle.tbl_model.specs.Given.{Given}
use Rattle.tbl_model.specs.Refusals.{by_refusal, closed_refusal, image_refusal, file_refusal}
use Rattle.tbl_model.specs.AppLoads.{by_function, activate_effect, from_file, file_image, load_image_of, named_file_of}
use Rattle.tbl_model.specs.Subjects.{if_file}
use Rattle.tbl_kinds.specs.TableFiles.{TableFile}
use Rattle.load_requests.proofs.Uplinked.{by_reason}
use Rattle.validation.specs.Asked.{asks}
use Rattle.load_requests.specs.Asking.{judge_of}

-- whatever the verdict is, the function was asked about the image
both_ask : (b : Bool) (e f : Effect) → e.questions ≡ f.questions → (cond b e f).questions ≡ f.questions
both_ask true e f same = same
both_ask false e f same = refl

-- if nothing refuses it, the table's function is asked
load_asks : (s : State) (given : Given) (row : ℕ) (image : List ℕ) (refusal : Option Answer) (number found : Option ℕ) (effect : Effect) → found ≡ judge_of refusal number → effect.questions ≡ []
    → (by_refusal s refusal (by_function s row image number given effect)).questions ≡ asks found image
load_asks s given row image None None found effect is none = rw is none
load_asks s given row image None (Some number) found effect is none = rw is (both_ask _ _ _ refl)
load_asks s given row image (Some answer) number found effect is none = rw is refl

module _ (s : State) (given : Given) (row : ℕ) (t : Table) (refusal : Option Answer) (found : Option ℕ) (judge : found ≡ judge_of refusal t.validator) where
  pub image_asks : (image : List ℕ) → refusal ≡ image_refusal s.tables row t (length image) → (load_image_of s image given row t).questions ≡ asks found image
  image_asks image why = rw (← why) (load_asks s given row image refusal t.validator found (activate_effect s row t image) judge refl)

  pub file_asks : (name : List ℕ) → None ≡ closed_refusal t → (file : TableFile) → ((effect : TableFile → Effect) → if_file s name effect ≡ effect file) → refusal ≡ file_refusal s.tables row t file
      → (named_file_of s name given row t).questions ≡ asks found (file_image t file)
  file_asks name open_to file read why =
      ap (λ (e : Effect). e.questions) (by_reason s name given row t open_to file read refusal why (file_image t file) refl)
      ∙ load_asks s given row (file_image t file) refusal t.validator found (from_file row name (activate_effect s row t (file_image t file))) judge refl

-- a function that is asked is one that nothing kept from it
pub not_refused : (refusal : Option Answer) (validator : Option ℕ) (number : ℕ) → judge_of refusal validator ≡ Some number → refusal ≡ None
not_refused None validator number is = refl
not_refused (Some answer) validator number is = absurd (cc is)

pub none_of : {X : Type 0} (o : Option X) → is_some o ≡ false → o ≡ None
none_of None is = refl
none_of (Some x) is = absurd (cc is)
