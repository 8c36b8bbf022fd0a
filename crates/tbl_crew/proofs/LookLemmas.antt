-- The looks of a history with one entry more.
use Rattle.std.proofs.Common.{◌≡◌, ◌≢◌, ℕ, zero, suc, ◌+◌, List, [], ◌∷◌, ◌++◌, length, append_assoc, Bool, true, false, Option, None, refl, sym, ap, ◌∙◌, arith}
use Rattle.std.specs.Prelude.{if◌then◌else◌}
use Rattle.std.proofs.lemmas.Bool.Decides.{nat_tests}
use Rattle.std.proofs.lemmas.List.{append-nil}
use Rattle.std.proofs.lemmas.List.Sums.{fold_push}
use Rattle.tbl_kinds.specs.declared.entry.Entry.{Entry}
use Rattle.tbl_model.specs.History.{Run, begins_at, onward, run_from}
use Rattle.tbl_model.specs.State.{State, Tables}
use Rattle.tbl_model.specs.Whole.{is_by}
use Rattle.tbl_session.specs.Actors.{actor_of}
use Rattle.table_watch.specs.Watching.{watcher, handle_got, handle_watched, look_by, Watched, watch_entry, watch_on, unwatched, watched_by, place_by, places_from, places_of, AreLooksOf}
use Rattle.table_watch.specs.declared.watch.Look.{Look}

place_on : (w : Watched) (entries : List Entry) → (watch_on w entries).place ≡ w.place + length entries
place_on w [] = omega arith
place_on w (e ∷ entries) = let more : (w.place + 1) + length entries ≡ w.place + suc (length entries) = omega arith in place_on (watch_entry w e) entries ∙ more

run_on : (w : Watched) (entries : List Entry) → (watch_on w entries).run ≡ run_from w.run entries
run_on w [] = refl
run_on w (e ∷ entries) = run_on (watch_entry w e) entries

abbrev pub tables_after : State → List Entry → Tables
tables_after opening entries = (run_from (begins_at opening) entries).state.tables

pub watched_push : (opening : State) (entries : List Entry) (e : Entry)
    → watched_by opening (entries ++ e ∷ []) ≡ look_by (tables_after opening (entries ++ e ∷ [])) (length entries) (watched_by opening entries) (handle_watched e)
watched_push opening entries e =
    let w = watch_on (unwatched opening) entries in
    let place : w.place ≡ length entries = (let begun : 0 + length entries ≡ length entries = omega arith in place_on (unwatched opening) entries ∙ begun) in
    let run : onward w.run e ≡ run_from (begins_at opening) (entries ++ e ∷ []) = ap (λ (r : Run). onward r e) (run_on (unwatched opening) entries) ∙ sym (fold_push onward (begins_at opening) entries e) in
    ap (λ (x : Watched). x.looks) (fold_push watch_entry (unwatched opening) entries e) ∙ (λ i. look_by (run i).state.tables (place i) w.looks (handle_watched e))

-- its place comes last
pub places_push : (place : ℕ) (entries : List Entry) (e : Entry) → places_from place (entries ++ e ∷ []) ≡ places_from place entries ++ place_by (place + length entries) (handle_watched e)
places_push place [] e =
    let here : place ≡ place + 0 = omega arith in
    append-nil (place_by place (handle_watched e)) ∙ ap (λ (n : ℕ). place_by n (handle_watched e)) here
places_push place (x ∷ entries) e =
    let here : (place + 1) + length entries ≡ place + suc (length entries) = omega arith in
    ap (λ (l : List ℕ). place_by place (handle_watched x) ++ l) (places_push (place + 1) entries e ∙ ap (λ (n : ℕ). places_from (place + 1) entries ++ place_by n (handle_watched e)) here)
    ∙ sym (append_assoc (place_by place (handle_watched x)) (places_from (place + 1) entries) (place_by (place + suc (length entries)) (handle_watched e)))

-- an entry of another actor
pub other_actor : (n : ℕ) → n ≢ watcher → is_by watcher (actor_of n) ≡ false
other_actor zero apart = refl
other_actor (suc n) apart = grind (arith, nat_tests, apart)

pub by_other : (actor : ℕ) (e : Entry) → actor ≢ watcher → e.actor ≡ actor_of actor → handle_watched e ≡ None
by_other actor e apart is = ap (λ (b : Bool). if b then handle_got e else None) (ap (is_by watcher) is ∙ other_actor actor apart)

-- one of the watcher
pub by_watcher : (e : Entry) → e.actor ≡ actor_of watcher → handle_watched e ≡ handle_got e
by_watcher e is = ap (λ (b : Bool). if b then handle_got e else None) (ap (is_by watcher) is)

-- one that got no address
pub none_got : (e : Entry) → handle_got e ≡ None → handle_watched e ≡ None
none_got e none = by (is_by watcher e.actor) where
  by : (b : Bool) → (if b then handle_got e else None) ≡ None
  by true = none
  by false = refl

-- it leaves the looks
pub same_looks : (tells : Type 0) (opening : State) (looks : List Look) (old new : List Entry) (e : Entry) → new ≡ old ++ e ∷ [] → handle_watched e ≡ None → AreLooksOf tells opening old looks → AreLooksOf tells opening new looks
same_looks tells opening looks old new e added none had = record {
  places = had.places ∙ sym (ap (places_from 0) added ∙ places_push 0 old e ∙ ap (λ (handle : Option ℕ). places_from 0 old ++ place_by (0 + length old) handle) none ∙ append-nil (places_from 0 old));
  seen = λ told. had.seen told ∙ sym (ap (watched_by opening) added ∙ watched_push opening old e ∙ ap (look_by (tables_after opening (old ++ e ∷ [])) (length old) (watched_by opening old)) none);
}

-- nothing was looked at in no history
pub no_looks : (tells : Type 0) (opening : State) (looks : List Look) (entries : List Entry) → looks ≡ [] → entries ≡ [] → AreLooksOf tells opening entries looks
no_looks tells opening looks entries nothing empty = record {
  places = ap places_of nothing ∙ sym (ap (places_from 0) empty);
  seen = λ told. nothing ∙ sym (ap (watched_by opening) empty);
}
