-- What a handle holds, and what one step of it does.
use Rattle.std.specs.Prelude.{◌≡◌, ◌≢◌, ◌⊎◌, true, false, ℕ, ℤ, ◌%◌, ◌==◌, ◌&&◌, ◌≤◌, List, [], ◌∷◌, length, take, map, if◌then◌else◌, Option, Some, None, Result, Ok, Err, slice_get}
use Rattle.std.specs.List.{AllByRecursion}
use Rattle.std.specs.Option.{ForSome}
use Rattle.std.specs.Str.{bytes_eq}
use Rattle.tbl_kinds.specs.Admitted.{all_admitted}
use Rattle.tbl_kinds.specs.Heads.{IsShort, IsBad}
use Rattle.tbl_kinds.specs.Records.{Pair, IsRecord, spelling}
use Rattle.tbl_kinds.specs.Transcript.{entry_bytes}
use Rattle.tbl_kinds.specs.declared.entry.Entry.{Entry}
use Rattle.tbl_kinds.specs.declared.request.Actor.{Actor}
use Rattle.tbl_kinds.specs.declared.request.Request.{Request}
use Rattle.tbl_model.specs.State.{State, first_state}
use Rattle.tbl_model.specs.Telemetry.{Question}
use Rattle.cds_layout.specs.Images.{store_of}
use Rattle.tbl_outside.specs.declared.bank.Bank.{Ghosts}
use Rattle.tbl_outside.specs.declared.validator.KitEntry.{KitEntry}
use Rattle.tbl_outside.specs.declared.validator.Validator.{Ghosts as ValidatorGhosts}
use Rattle.validation.specs.Kits.{entry_at, owners}
use Rattle.tbl_fakes.specs.Breaking.{Breaking}
use Rattle.tbl_fakes.specs.contracts.breaking_bank.BreakingBankBank.TheImpl.{ghosts as bank_ghosts}
use Rattle.handed_kit.specs.Answering.{Spoken, answer_of}
use Rattle.handed_kit.specs.Kit.{mute_below}
use Rattle.handed_kit.specs.contracts.answering.AnsweringValidator.TheImpl.{ghosts as validator_ghosts}
use Rattle.tbl_core.specs.Asking.{Asks, StandsOn, MeetsLimit, may_ask}
use Rattle.tbl_core.specs.Engine.{Steps}
use Rattle.tbl_core.specs.Service.{EngineView, Stands, IsAfter}
use Rattle.tbl_c.specs.Told.{over_front}
use Rattle.tbl_c.specs.declared.told.Told.{Told}
use Rattle.tbl_core.specs.declared.service.StepFault.{StepFault}
use Rattle.tbl_core.specs.declared.service.StepFault.TheVariants.{BootFault, BootStopped}

-- the engine, over preserved memory whose writes may be to break off
abbrev pub Serving : Type 0
Serving = EngineView Breaking Spoken

-- what that memory tells of itself
abbrev pub memory : Ghosts Breaking
memory = bank_ghosts

-- and what functions answer for which C hands verdicts in
abbrev pub functions : ValidatorGhosts Spoken
functions = validator_ghosts

-- ---- verdicts

-- the verdict that counts for the second question: the first one's if both are one question
abbrev pub second_of : Question → Question → ℤ → ℤ → ℤ
second_of q r v w = if (q.number == r.number) && bytes_eq q.image r.image then v else w

-- these verdicts were handed in for these questions, and so each was answered
abbrev pub Said : List Question → List ℤ → List (Option ℤ) → Type 0
Said [] verdicts answers = AllByRecursion (λ (a : Option ℤ). a ≡ None) answers
Said (q ∷ []) (v ∷ vs) (a ∷ answers) = (a ≡ Some v) × AllByRecursion (λ (b : Option ℤ). b ≡ None) answers
Said (q ∷ r ∷ []) (v ∷ w ∷ vs) (a ∷ b ∷ answers) = (a ≡ Some v) × (b ≡ Some (second_of q r v w)) × AllByRecursion (λ (c : Option ℤ). c ≡ None) answers
Said _ _ _ = ⊥

-- so the functions answer them, if they are in the kit
abbrev pub WillSay : List Question → List ℤ → List (Option (KitEntry Spoken)) → Type 0
WillSay [] verdicts kit = Unit {0}
WillSay (q ∷ []) (v ∷ vs) kit = ForSome (entry_at kit q.number) (λ e. answer_of e.check q.image ≡ v)
WillSay (q ∷ r ∷ []) (v ∷ w ∷ vs) kit = ForSome (entry_at kit q.number) (λ e. answer_of e.check q.image ≡ v) × ForSome (entry_at kit r.number) (λ e. answer_of e.check r.image ≡ second_of q r v w)
WillSay _ _ _ = ⊥

-- verdicts were handed in for these questions: the functions answer so, and what the service represents is as it was
pub record HandsIn (questions : List Question) (verdicts : List ℤ) (old new : Serving) : Type 0 where
  pub on : StandsOn memory old new
  -- no image was added
  pub images : new.images ≡ old.images
  pub will : WillSay questions verdicts new.state.kit

-- ---- a step

-- the entry, as the transcript has it: FFFFFFFF is no entry's place, and after FFFFFFFE comes 0
abbrev pub told_as : Serving → Entry → List ℕ
told_as old e = entry_bytes (old.played % 4294967295) e

-- what C gets of a call: the status, a length and a number, and bytes over those that were there
pub record Outcome : Type 0 where
  pub status : ℕ
  pub told : Told
  pub out : List ℕ
  pub out_then : List ℕ

abbrev pub got : ℕ → Told → List ℕ → List ℕ → Outcome
got status told out out_then = record { status = status; told = told; out = out; out_then = out_then }

-- C gets these bytes, over what was there, and how many they are
pub record IsTold (bytes : List ℕ) (told : Told) (out out_then : List ℕ) : Type 0 where
  pub length_is : told.length ≡ length bytes
  pub bytes_are : out_then ≡ over_front bytes out

-- how a step ended that has this status
abbrev pub end_of : ℕ → Result Unit StepFault
end_of status = if status == 7 then Err BootFault else (if status == 8 then Err BootStopped else Ok tt)

-- it was played, and a boot in it may have been the last
abbrev pub IsPlayed : ℕ → Type 0
IsPlayed status = (status ≡ 0) ⊎ (status ≡ 7) ⊎ (status ≡ 8)

-- what C gets of an entry by the status; with 20 memory ran out for its spelling
abbrev pub TellsEntry : Result Unit StepFault → List ℕ → Outcome → Type 0
TellsEntry end bytes o = (IsPlayed o.status × (end ≡ end_of o.status) × IsTold bytes o.told o.out o.out_then) ⊎ (o.status ≡ 20)

-- a request was played, and C gets this of its entry
pub record Played (old new : Serving) (asked : Actor × Request) (o : Outcome) : Type 0 where
  pub entry : Entry
  pub end : Result Unit StepFault
  pub steps : Steps memory functions old new asked entry end
  pub tells : TellsEntry end (told_as old entry) o

-- The questions of the request were answered with the verdicts that were handed in, and it was played. Before that only the kit was
-- changed: its functions answer so.
pub record Plays (old new : Serving) (pair : Pair) (verdicts : List ℤ) (o : Outcome) : Type 0 where
  pub questions : List Question
  pub asks : Asks memory old pair.actor pair.request questions
  pub enough : length questions ≤ length verdicts
  pub handed : Serving
  pub on : StandsOn memory old handed
  pub played : Played handed new (pair.actor, pair.request) o
  pub said : may_ask pair.request ≡ true → memory.tells → (opening : State) (past : List Entry) → Stands memory opening past old → Said questions verdicts played.entry.given.verdicts

-- a verdict is missing for this question of the request, and C gets the question
pub record Lacks (old new : Serving) (pair : Pair) (verdicts : List ℤ) (o : Outcome) : Type 0 where
  pub questions : List Question
  pub asks : Asks memory old pair.actor pair.request questions
  pub question : Question
  pub which : slice_get questions (length verdicts) ≡ Some question
  pub number_is : o.told.number ≡ question.number
  pub tells : IsTold question.image o.told o.out o.out_then
  pub on : StandsOn memory old new

-- nothing was played and C gets nothing, and the service represents what it represented before
pub record IsUnchanged (old new : Serving) (o : Outcome) : Type 0 where
  pub on : StandsOn memory old new
  pub untold : o.out_then ≡ o.out

-- why a request isn't played: out of memory, or the engine has met a limit
abbrev pub IsRefused : Serving → ℕ → Type 0
IsRefused new status = (status ≡ 1) ⊎ ((status ≡ 13) × MeetsLimit new)

-- a request was played, a verdict was missing, or it was refused
abbrev pub Answered : Serving → Serving → Pair → List ℤ → Outcome → Type 0
Answered old new pair verdicts o =
    Plays old new pair verdicts o
    ⊎ ((o.status ≡ 16) × Lacks old new pair verdicts o)
    ⊎ (IsRefused new o.status × IsUnchanged old new o)

-- these bytes are the spelling of this record
pub record IsWhole (pair : Pair) (input : List ℕ) : Type 0 where
  pub is_record : IsRecord pair
  pub spelled : input ≡ spelling pair

-- there are bytes after this record
pub record IsLonger (pair : Pair) (input : List ℕ) : Type 0 where
  pub is_record : IsRecord pair
  pub front : take (length (spelling pair)) input ≡ spelling pair
  pub more : length (spelling pair) ≢ length input

-- they are none, a part of one, or more than one
abbrev pub IsNotOne : List ℕ → Type 0
IsNotOne input = (input ≡ []) ⊎ IsShort input ⊎ IsBad input ⊎ ((pair : Pair) × IsLonger pair input)

-- why a record isn't read: out of memory, it isn't one, or a boot failed or was stopped before
abbrev pub IsUnread : Serving → List ℕ → ℕ → Type 0
IsUnread old input status = (status ≡ 1) ⊎ ((status ≡ 5) × IsNotOne input) ⊎ ((status ≡ 19) × (old.state.ended ≢ false))

-- the same by the bytes of the record
abbrev pub Stepped : Serving → Serving → List ℕ → List ℤ → Outcome → Type 0
Stepped old new input verdicts o = ((pair : Pair) × IsWhole pair input × Answered old new pair verdicts o) ⊎ (IsUnread old input o.status × IsUnchanged old new o)

-- the handle held this, and holds that
pub record Between (before after : Option Serving) (Is : Serving → Serving → Type 0) : Type 0 where
  pub old : Serving
  pub new : Serving
  pub held : before ≡ Some old
  pub holds : after ≡ Some new
  pub is : Is old new

-- a closed handle stays closed, and the status is 18
abbrev pub OnHeld : Option Serving → Option Serving → ℕ → (Serving → Serving → Type 0) → Type 0
OnHeld before after status Is = ((status ≡ 18) × (before ≡ None) × (after ≡ None)) ⊎ Between before after Is

-- ---- the beginning

-- why nothing is opened: out of memory, or a boot failed or was stopped
abbrev pub IsUnopened : ℕ → Type 0
IsUnopened status = (status ≡ 1) ⊎ (status ≡ 7) ⊎ (status ≡ 8)

-- 240 functions for which nothing was handed in
abbrev pub mute_functions : List (Option (KitEntry Spoken))
mute_functions = map (λ (e : KitEntry Spoken). Some e) (mute_below 240)

-- nothing was played, over the blocks that these bytes show, with these functions
pub record Begins (bank : List ℕ) (new : Serving) : Type 0 where
  pub stands : Stands memory (first_state (store_of bank) (owners mute_functions) all_admitted) [] new
  pub after : IsAfter [] new

-- so a service was opened over these bytes, or the status says why not
abbrev pub Opens : List ℕ → Result Serving ℕ → Type 0
Opens bank (Ok new) = Begins bank new
Opens bank (Err status) = IsUnopened status
