-- What a watcher sees: application 16 looks at each image that its calls get.
use Rattle.std.specs.Prelude.{◌≡◌, ℕ, ◌+◌, List, [], ◌∷◌, ◌++◌, map, Option, Some, None, if◌then◌else◌}
use Rattle.std.specs.List.{fold}
use Rattle.std.specs.Option.{unwrap_or}
use Rattle.tbl_kinds.specs.Check.{check16}
use Rattle.tbl_kinds.specs.declared.entry.Entry.{Entry}
use Rattle.tbl_kinds.specs.declared.request.Request.{Request}
use Rattle.tbl_kinds.specs.declared.request.Request.TheVariants as ask
use Rattle.tbl_kinds.specs.declared.status.Status.{Status}
use Rattle.tbl_model.specs.History.{Run, begins_at, onward}
use Rattle.tbl_model.specs.State.{State, Tables}
use Rattle.tbl_model.specs.Whole.{is_by, is_done}
use Rattle.tbl_registry.specs.Lending.{pinned_image, name_by}
use Rattle.table_watch.specs.Looks.{looked}
use Rattle.table_watch.specs.declared.watch.Look.{Look}

-- the application that watches
abbrev pub watcher : ℕ
watcher = 16

-- the handle by which an entry got an address
abbrev pub handle_by : Request → Status → Option ℕ
handle_by (ask.Get handle) status = if is_done status then Some handle else None
handle_by _ status = None

abbrev pub handle_got : Entry → Option ℕ
handle_got e = handle_by e.request e.reply.status

-- the handle by which the watcher got it
abbrev pub handle_watched : Entry → Option ℕ
handle_watched e = if is_by watcher e.actor then handle_got e else None

-- a look at the image that this handle pins, at this place of the history
abbrev pub look_by : Tables → ℕ → List Look → Option ℕ → List Look
look_by tables place looks None = looks
look_by tables place looks (Some handle) = looked looks place (name_by handle tables) (check16 (unwrap_or (pinned_image handle tables) []))

-- the looks up to a place of the history, and the run to there
pub record Watched : Type 0 where
  pub looks : List Look
  pub place : ℕ
  pub run : Run

abbrev pub watch_entry : Watched → Entry → Watched
watch_entry w e = record { looks = look_by (onward w.run e).state.tables w.place w.looks (handle_watched e); place = w.place + 1; run = onward w.run e }

abbrev pub watch_on : Watched → List Entry → Watched
watch_on w entries = fold watch_entry w entries

abbrev pub unwatched : State → Watched
unwatched opening = record { looks = []; place = 0; run = begins_at opening }

-- the looks of a whole history: one for each call that gave the watcher an address, in order, with the place of that entry, the full name
-- of the table and the check word of the image that the handle pins from then on
abbrev pub watched_by : State → List Entry → List Look
watched_by opening entries = (watch_on (unwatched opening) entries).looks

-- ---- what is known of them over any bank

-- the place of an entry, if the watcher got an address by it
abbrev pub place_by : ℕ → Option ℕ → List ℕ
place_by place None = []
place_by place (Some handle) = place ∷ []

-- the places of these entries, where the first has this one, at which the watcher got an address
abbrev pub places_from : ℕ → List Entry → List ℕ
places_from place [] = []
places_from place (e ∷ entries) = place_by place (handle_watched e) ++ places_from (place + 1) entries

abbrev pub places_of : List Look → List ℕ
places_of looks = map (λ (look : Look). look.place) looks

-- These are the looks of a history. There is one for each call that gave the watcher an address, in order, with the place of its entry. If
-- the bank shows its bytes, each one has the name and the check word of its image.
pub record AreLooksOf (tells : Type 0) (opening : State) (entries : List Entry) (looks : List Look) : Type 0 where
  pub places : places_of looks ≡ places_from 0 entries
  pub seen : tells → looks ≡ watched_by opening entries
