-- The looks of a history, and their places.
use Rattle.std.proofs.Common.{◌≡◌, ℕ, ◌+◌, List, [], ◌∷◌, ◌++◌, append_assoc, Option, Some, None, refl, sym, ap, ◌∙◌}
use Rattle.std.proofs.lemmas.List.{append-nil, map-append}
use Rattle.tbl_kinds.specs.declared.entry.Entry.{Entry}
use Rattle.tbl_model.specs.State.{State, Tables}
use Rattle.table_watch.specs.Watching.{handle_watched, look_by, Watched, watch_entry, watch_on, unwatched, watched_by, place_by, places_from, places_of, AreLooksOf}
use Rattle.table_watch.specs.declared.watch.Look.{Look}

place_on : (tables : Tables) (place : ℕ) (looks : List Look) (handle : Option ℕ) → places_of (look_by tables place looks handle) ≡ places_of looks ++ place_by place handle
place_on tables place looks None = sym (append-nil (places_of looks))
place_on tables place looks (Some handle) = map-append (λ (look : Look). look.place) looks _

places_on : (w : Watched) (entries : List Entry) → places_of (watch_on w entries).looks ≡ places_of w.looks ++ places_from w.place entries
places_on w [] = sym (append-nil (places_of w.looks))
places_on w (e ∷ entries) =
    places_on (watch_entry w e) entries
    ∙ ap (λ (places : List ℕ). places ++ places_from (w.place + 1) entries) (place_on (watch_entry w e).run.state.tables w.place w.looks (handle_watched e))
    ∙ append_assoc (places_of w.looks) (place_by w.place (handle_watched e)) (places_from (w.place + 1) entries)

-- those of a whole history
pub all_looks : (tells : Type 0) (opening : State) (entries : List Entry) → AreLooksOf tells opening entries (watched_by opening entries)
all_looks tells opening entries = record { places = places_on (unwatched opening) entries; seen = λ told. refl }
