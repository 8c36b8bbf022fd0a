-- What the outside gives in a request.
use Rattle.std.specs.Prelude.{◌≡◌, ℕ, List, [], ◌∷◌, Option, Some, None, unwrap_or, slice_index_or}
use Rattle.std.proofs.Common.{ℤ, pos}
use Rattle.tbl_model.specs.State.{State}
use Rattle.tbl_model.specs.Telemetry.{Question}
use Rattle.tbl_model.specs.Effects.{Effect}
use Rattle.tbl_model.specs.StoreNotes.{IsNoteOf}
pub use Rattle.tbl_kinds.specs.Given.{Given, nothing_given}
use Rattle.tbl_kinds.specs.declared.request.Request.{Request}

-- the verdict at this place
abbrev pub verdict_at : ℕ → Given → ℤ
verdict_at n given = unwrap_or (slice_index_or given.verdicts n None) (pos 0)

-- a verdict for each question, in order, and then none: a request asks two at most
abbrev pub AnswersEach : List Question → List (Option ℤ) → Type 0
AnswersEach [] verdicts = verdicts ≡ None ∷ None ∷ []
AnswersEach (first ∷ []) verdicts = (v : ℤ) × (verdicts ≡ Some v ∷ None ∷ [])
AnswersEach (first ∷ more) verdicts = (v w : ℤ) × (verdicts ≡ Some v ∷ Some w ∷ [])

-- what it may give in a request that has this effect in this state
pub record MayBeGiven (s : State) (request : Request) (effect : Effect) (given : Given) : Type 0 where
  pub note : IsNoteOf request effect.calls s.store given.note
  pub verdicts : AnswersEach effect.questions given.verdicts
