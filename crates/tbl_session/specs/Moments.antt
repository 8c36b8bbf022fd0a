-- What a reset at any moment of a session leaves of the bank, by the places of the session's one history.
use Rattle.std.specs.Prelude.{◌≡◌, ◌⊎◌, ℕ, ◌≤◌, List, [], ◌∷◌, ◌++◌, length, take, true, Some, slice_get}
use Rattle.tbl_kinds.specs.StoreSteps.{Shows}
use Rattle.tbl_model.specs.State.{State}
use Rattle.tbl_model.specs.History.{Run, begins_at, run_from}
use Rattle.cds_layout.specs.Images.{store_of}
use Rattle.tbl_session.specs.Crashes.{AfterCrash, all_calls_in}
use Rattle.tbl_session.specs.Restores.{RestoresHeld}
use Rattle.tbl_kinds.specs.declared.entry.Entry.{Entry}

-- the history after its first so many entries
abbrev pub run_at : State → List Entry → ℕ → Run
run_at opening entries place = run_from (begins_at opening) (take place entries)

-- a reset at one of the places of this history leaves such an image: after an entry, or in the one under way there
abbrev pub AtSomePlace : State → List Entry → List ℕ → Type 0
AtSomePlace opening entries image = (place : ℕ) × (place ≤ length entries) × AfterCrash opening entries place (store_of image)

-- or one in the last entry, whose boot ended the service
pub record InLastBoot (opening : State) (entries : List Entry) (image : List ℕ) : Type 0 where
  pub before : List Entry
  pub last : Entry
  pub parts : entries ≡ before ++ last ∷ []
  pub ended : last.given.note.ended ≡ true
  pub crash : AfterCrash opening entries (length before) (store_of image)

-- or one after all entries
abbrev pub AtExit : State → List Entry → List ℕ → Type 0
AtExit opening entries image = AfterCrash opening entries (length entries) (store_of image) ⊎ InLastBoot opening entries image

-- what a restore in this entry gave is what its block held in one of these images, which shows the blocks as they were before the entry
pub record GaveLeft (IsLeft : List ℕ → Type 0) (r : Run) (e : Entry) : Type 0 where
  pub bytes : List ℕ
  pub left : IsLeft bytes
  pub shows : Shows r.state.store (store_of bytes)
  pub held : RestoresHeld bytes (all_calls_in r e) r.state.store e.given.note

-- so is it of each entry
abbrev pub AllGaveLeft : (List ℕ → Type 0) → State → List Entry → Type 0
AllGaveLeft IsLeft opening entries = (place : ℕ) (e : Entry) → slice_get entries place ≡ Some e → GaveLeft IsLeft (run_at opening entries place) e
