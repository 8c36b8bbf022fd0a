-- What a watched crew promises, and what is known of the watcher's looks on the way.
use Rattle.std.specs.Prelude.{◌≡◌, ◌≢◌, ◌⊎◌, ℕ, ◌≤◌, List, [], ◌∷◌, ◌++◌, length, All, false, Option, Some, None, Result, Ok, Err, OnOk}
use Rattle.std.proofs.Common.{ℤ}
use Rattle.tbl_kinds.specs.Check.{check16}
use Rattle.tbl_kinds.specs.Records.{record_limit}
use Rattle.tbl_kinds.specs.Transcript.{pairs_of}
use Rattle.tbl_kinds.specs.declared.entry.Entry.{Entry}
use Rattle.tbl_kinds.specs.declared.request.Request.{Request}
use Rattle.tbl_model.specs.Whole.{is_by}
use Rattle.tbl_outside.specs.declared.bank.Bank.{Ghosts}
use Rattle.tbl_session.specs.Actors.{actor_count, part}
use Rattle.tbl_session.specs.Openings.{Opening}
use Rattle.tbl_session.specs.Served.{IsServed}
use Rattle.tbl_history.specs.Trouble.{IsCaused}
use Rattle.table_watch.specs.Looks.{looked}
use Rattle.table_watch.specs.Watching.{watcher, handle_watched, AreLooksOf}
use Rattle.table_watch.specs.declared.watch.Look.{Look}
use Rattle.tbl_core.specs.Service.{CoreView}
use Rattle.tbl_core.specs.declared.service.StepFault.{StepFault}
use Rattle.tbl_core.specs.declared.service.StepFault.TheVariants as fault
use Rattle.tbl_crew.specs.CrewView.{CrewView}
use Rattle.tbl_crew.specs.Histories.{HasPlayed, HavePlayed, OneHistory}
use Rattle.tbl_crew.specs.Leading.{LeadsFrom, LeadsOn}
use Rattle.tbl_crew.specs.Moves.{AllEnded}
use Rattle.tbl_crew.specs.Scripts.{script_of}
use Rattle.tbl_crew.specs.declared.held.Turn.{Turn}
use Rattle.tbl_crew.specs.declared.held.Turn.TheVariants.{Played, Pinned, PinMemory, Ended, Done}
use Rattle.tbl_crew.specs.declared.watching.WatchEnd.{WatchEnd}
use Rattle.tbl_crew.specs.declared.watching.WatchEnd.TheVariants.{Step, Memory}

-- ---- what is promised

-- these are the looks of the history; if a step answered a fault, those of the entries before it, which are all but the last, or all
abbrev pub AreLooks : {B C : Type 0} → Ghosts B → Opening B C → Option StepFault → List Look → List Entry → Type 0
AreLooks g o None looks entries = AreLooksOf g.tells o.state entries looks
AreLooks g o (Some cause) looks entries = (before : List Entry) × (rest : List Entry) × (entries ≡ before ++ rest) × (length rest ≤ 1) × AreLooksOf g.tells o.state before looks

-- These are the looks of the history before a call that gave the watcher an address. It's the watcher's last one, so only the look of this
-- call is missing.
pub record LacksLook {B C : Type 0} (g : Ghosts B) (o : Opening B C) (looks : List Look) (entries : List Entry) : Type 0 where
  pub before : List Entry
  pub call : Entry
  pub after : List Entry
  pub handle : ℕ
  pub parts : entries ≡ before ++ call ∷ after
  pub got : handle_watched call ≡ Some handle
  pub last : All (λ (e : Entry). is_by watcher e.actor ≡ false) after
  pub seen : AreLooksOf g.tells o.state before looks

-- One history was served. Each actor except the watcher has played its whole script, and the watcher the beginning of its script, to the
-- call whose look is missing. The history has no more entries than a session may have, and the service goes on.
pub record CutShort {B C : Type 0} (g : Ghosts B) (verdict : C → List ℕ → ℤ) (o : Opening B C) (scripts : List (List Request)) (looks : List Look) (core : CoreView B C) : Type 0 where
  pub served : IsServed g verdict o core.state.store.bank core.entries
  pub played : HavePlayed (Some fault.Memory) scripts core.entries
  pub others : (actor : ℕ) → actor ≢ watcher → HasPlayed None (script_of scripts actor) (part actor (pairs_of core.entries))
  pub lacks : LacksLook g o looks core.entries
  pub few : length core.entries ≤ record_limit
  pub caused : IsCaused g o.bank core
  pub live : core.state.ended ≡ false

-- If nothing ended it, it is as with any crew, and the watcher has looked at each image that its calls got. So it is if a step answered a
-- fault, except that a look may be missing then too. If only memory ran out for a look, the watcher's script was cut short.
abbrev pub IsWatched : {B C : Type 0} → Ghosts B → (C → List ℕ → ℤ) → Opening B C → List (List Request) → Option WatchEnd → List Look → CoreView B C → Type 0
IsWatched g verdict o scripts None looks core = OneHistory g verdict o scripts None core × AreLooks g o None looks core.entries
IsWatched g verdict o scripts (Some (Step cause)) looks core = OneHistory g verdict o scripts (Some cause) core × (AreLooks g o (Some cause) looks core.entries ⊎ LacksLook g o looks core.entries)
IsWatched g verdict o scripts (Some Memory) looks core = CutShort g verdict o scripts looks core

-- by the fault that a step answered, if one did, and by what came of the looks
abbrev pub end_of : {M : Type 0} → Option StepFault → Result Unit M → Option WatchEnd
end_of (Some cause) looked = Some (Step cause)
end_of None (Ok done) = None
end_of None (Err memory) = Some Memory

-- ---- on the way

-- the looks after a turn of the watcher
abbrev pub looks_after : List Look → Turn → List Look
looks_after looks Played = looks
looks_after looks (Pinned pin) = looked looks pin.place pin.name (check16 pin.bytes)
looks_after looks PinMemory = looks
looks_after looks Ended = looks
looks_after looks Done = looks

-- whatever the first crew represented, this one does, and these are the looks of its history
abbrev pub HasWatched : {B C : Type 0} → Ghosts B → (C → List ℕ → ℤ) → CrewView B C → List Look → CrewView B C → Type 0
HasWatched {B} {C} g verdict first looks h = (o : Opening B C) (scripts : List (List Request)) → LeadsFrom g verdict o scripts first
    → LeadsFrom g verdict o scripts h × AreLooks g o h.fault looks h.core.entries

-- whatever the first crew represented, the look of the watcher's last call is missing
abbrev pub HasMissed : {B C : Type 0} → Ghosts B → (C → List ℕ → ℤ) → CrewView B C → List Look → CrewView B C → Type 0
HasMissed {B} {C} g verdict first looks h = (o : Opening B C) (scripts : List (List Request)) → LeadsFrom g verdict o scripts first → LacksLook g o looks h.core.entries

-- the one or the other, by what came of the looks
abbrev pub HasLooked : {B C M : Type 0} → Ghosts B → (C → List ℕ → ℤ) → CrewView B C → Result Unit M → List Look → CrewView B C → Type 0
HasLooked g verdict first (Ok done) looks h = HasWatched g verdict first looks h
HasLooked g verdict first (Err memory) looks h = HasMissed g verdict first looks h

-- so it is by what the watcher saw last
abbrev pub HaveWatched : {B C : Type 0} → Ghosts B → (C → List ℕ → ℤ) → CrewView B C → List Look → List (CrewView B C) → Type 0
HaveWatched g verdict first looks [] = ⊥
HaveWatched g verdict first looks (h ∷ hs) = HasWatched g verdict first looks h

abbrev pub HaveMissed : {B C : Type 0} → Ghosts B → (C → List ℕ → ℤ) → CrewView B C → List Look → List (CrewView B C) → Type 0
HaveMissed g verdict first looks [] = ⊥
HaveMissed g verdict first looks (h ∷ hs) = HasMissed g verdict first looks h

abbrev pub HaveLooked : {B C M : Type 0} → Ghosts B → (C → List ℕ → ℤ) → CrewView B C → Result Unit M → List Look → List (CrewView B C) → Type 0
HaveLooked g verdict first (Ok done) looks seen = HaveWatched g verdict first looks seen
HaveLooked g verdict first (Err memory) looks seen = HaveMissed g verdict first looks seen

-- whatever was watched so far, it is so still
abbrev pub StaysWatched : {B C : Type 0} → Ghosts B → (C → List ℕ → ℤ) → CrewView B C → CrewView B C → Type 0
StaysWatched {B} {C} g verdict old new = (first : CrewView B C) (looks : List Look) → HasWatched g verdict first looks old → HasWatched g verdict first looks new

-- What playing all scripts of a watched crew promises, by what came of the looks.
pub record WatchesAll {B C M : Type 0} (g : Ghosts B) (verdict : C → List ℕ → ℤ) (first : CrewView B C) (result : Result Unit M) (looks : List Look) (now : CrewView B C) : Type 0 where
  -- whatever the first crew represented, this one does
  pub leads : LeadsOn g verdict first now
  -- the others have ended
  pub others : AllEnded watcher now
  -- so has the watcher, unless memory ran out for a look
  pub ended : OnOk result (AllEnded actor_count now)
  -- these are the looks of its history, except that one
  pub looked : HasLooked g verdict first result looks now
