-- Recovery over two histories: from the moments of the first one, and the answers of the second.
use Rattle.std.proofs.Common.{◌≡◌, ℕ, zero, suc, List, [], ◌∷◌, length, take, Bool, true, false, not, ◌||◌, Option, Some, None, refl, sym, ap, ◌∙◌, subst, inl, inr, arith}
use Rattle.std.specs.Prelude.{◌-◌, if◌then◌else◌, is_some, slice_get, slice_set}
use Rattle.std.proofs.Math.Seq.{take-length}
use Rattle.std.proofs.lemmas.Option.{same_Some, slice_get_past}
use Rattle.tbl_kinds.specs.Admitted.{Admitted}
use Rattle.tbl_kinds.specs.Blocks.{Store}
use Rattle.tbl_kinds.specs.StoreSteps.{Shows}
use Rattle.tbl_kinds.specs.Names.{is_name}
use Rattle.tbl_kinds.specs.Requests.{Fits}
use Rattle.tbl_model.specs.State.{State, first_state}
use Rattle.tbl_model.specs.Tables.{table_at}
use Rattle.tbl_model.specs.Applications.{full_name, has_dot, start_effect}
use Rattle.tbl_model.specs.Subjects.{name_of}
use Rattle.tbl_model.specs.Effects.{Effect, answered}
use Rattle.tbl_model.specs.Dispatch.{effect_of}
use Rattle.tbl_model.specs.StoreNotes.{IsNoteOf}
use Rattle.tbl_model.specs.History.{Run, begins_at, effect_in, onward, onward_by, run_from, IsAnswered, AreAnswered}
use Rattle.tbl_session.specs.Recovery.{IsHistory, blocks_at, Registration, registering, request_of, Registers, Begins, ComesBack, started}
use Rattle.tbl_laws.proofs.RecoveryLaws.{StartsWith, recovers, gives_what_it_holds, recovers_copied, loses_none, registers_at_start}
use Rattle.cds_layout.specs.Images.{store_of}
use Rattle.validation.specs.Kits.{owners}
use Rattle.tbl_outside.specs.declared.validator.KitEntry.{KitEntry}
use Rattle.tbl_kinds.specs.declared.entry.Entry.{Entry}
use Rattle.tbl_kinds.specs.declared.note.BankNote.{BankNote}
use Rattle.tbl_kinds.specs.declared.request.Actor.{Actor}
use Rattle.tbl_kinds.specs.declared.request.Actor.TheVariants.{App}
use Rattle.tbl_kinds.specs.declared.request.Request.{Request}
use Rattle.tbl_kinds.specs.declared.request.Request.TheVariants as ask
use Rattle.tbl_kinds.specs.declared.status.Status.{Status}
use Rattle.tbl_kinds.specs.declared.status.TheConstants.Status.{SUCCESS, ERR_APP_RUNNING, ERR_INVALID_NAME}
use Rattle.tbl_session.specs.Crashes.{AfterCrash}
use Rattle.tbl_session.specs.Moments.{run_at, AtSomePlace, AtExit}
use Rattle.tbl_session.specs.Session.{given_of, state_from}
use Rattle.tbl_top.specs.Recovered.{Asks, RegistersAt, RegistersFirst, TableBegins, IsRecoveredOrEmpty, IsGivenBack, GivesBack, RecoversFrom, AllComeBack, RecoversBoth, RecoversLast, StaysUp}

-- ---- an entry of an answered history

answered_at : (r : Run) (entries : List Entry) (place : ℕ) (e : Entry) → AreAnswered r entries → slice_get entries place ≡ Some e → IsAnswered (run_from r (take place entries)) e
answered_at r [] place e are at = absurd (cc at)
answered_at r (first ∷ entries) zero e are at = subst (IsAnswered r) (same_Some first e at) are.0
answered_at r (first ∷ entries) (suc place) e are at = answered_at (onward r first) entries place e are.1 at

-- one that asks for a registration has its effect
module _ (run : Run) (e : Entry) (r : Registration) (asks : Asks e r) (is : IsAnswered run e) where
  effect_is : effect_in run e ≡ Some (registering run.state r)
  effect_is =
      ap (λ (actor : Actor). effect_of run.state actor e.request e.given) asks.actor
      ∙ ap (λ (request : Request). effect_of run.state (App r.app) request e.given) asks.request
      ∙ ap (λ (note : BankNote). effect_of run.state (App r.app) (request_of r) (record { note = note; verdicts = e.given.verdicts })) asks.note

  same : is.effect ≡ registering run.state r
  same = same_Some is.effect (registering run.state r) (sym is.effect_is ∙ effect_is)

  -- and what that effect leaves
  begins : (left : Store) (name : List ℕ) (status : Status) (first : Option (List ℕ)) → (registering run.state r).status ≡ status → Begins left (registering run.state r) name first → TableBegins run e name status first
  begins left name status first told b = record {
    answered = is.status ∙ ap (λ (x : Effect). x.status) same ∙ told;
    row = b.row;
    table = b.table;
    there = ap (λ (found : Option Effect). table_at (onward_by run e found).state.tables b.row) effect_is ∙ b.there;
    named = b.named;
    critical = b.critical;
    image = b.image;
  }

  comes_back : (IsSuch : List ℕ → Type 0) (left : Store) (name : List ℕ) → ComesBack IsSuch left (registering run.state r) name → IsRecoveredOrEmpty IsSuch run e name
  comes_back IsSuch left name (inl with_image) = inl (with_image.0, with_image.1, begins left name _ _ with_image.2.status with_image.2.begins)
  comes_back IsSuch left name (inr empty) = inr (begins left name _ _ empty.status empty.begins)

  -- what calls of the store it may have noted
  noted : IsNoteOf (request_of r) (registering run.state r).calls run.state.store r.note
  noted =
      subst (λ (note : BankNote). IsNoteOf (request_of r) (registering run.state r).calls run.state.store note) asks.note
      (subst (λ (request : Request). IsNoteOf request (registering run.state r).calls run.state.store e.given.note) asks.request
      (subst (λ (x : Effect). IsNoteOf e.request x.calls run.state.store e.given.note) same is.given.note))

  gives_back_held : (left : Store) (name : List ℕ) (held : Option (List ℕ)) → StartsWith left (registering run.state r) name held → IsGivenBack held run e name
  gives_back_held left name None starts = begins left name _ _ starts.status starts.begins
  gives_back_held left name (Some image) starts = begins left name _ _ starts.status starts.begins

-- ---- over an image that a reset left at a place of a history

gives_back : (opening : State) (entries : List Entry) (at : ℕ) (image : List ℕ) (crash : AfterCrash opening entries at (store_of image)) → IsHistory opening entries
    → (next_opening : State) (next : List Entry) → AreAnswered (begins_at next_opening) next
    → (place : ℕ) (e : Entry) (name : List ℕ) (r : Registration) → RegistersAt (store_of image) next_opening next place e name r
    → GivesBack (blocks_at opening entries at (store_of image) crash) image (run_at next_opening next place) e name r.size
gives_back opening entries at image crash history next_opening next answered place e name r registers =
    let left = store_of image in
    let run = run_at next_opening next place in
    let is = answered_at (begins_at next_opening) next place e answered registers.at in
    record {
      completed = λ slot block copied of holds.
          let recovered = recovers opening entries at left crash history run.state name r registers.over slot block copied of holds in
          begins run e r registers.asks is left name _ _ recovered.status recovered.begins;
      sure = λ slot b of shown none. gives_back_held run e r registers.asks is left name b.held (gives_what_it_holds opening entries at left crash history run.state name r registers.over slot b of shown none);
      copied = λ slot b of shown. comes_back run e r registers.asks is _ left name (recovers_copied opening entries at left crash history run.state name r registers.over slot b of shown);
      never_lost = λ slot b of shown some.
          let found = loses_none opening entries at left crash history run.state name r registers.over slot b of shown some in
          (found.0, found.1, begins run e r registers.asks is left name _ _ found.2.status found.2.begins);
    }

-- ---- after the start of one application

-- it runs, and nothing else has changed
start_next : (s next : State) (running bad : Bool)
    → (if running then answered s ERR_APP_RUNNING 0 else (if bad then answered s ERR_INVALID_NAME 0 else record (answered s SUCCESS 0) { next = next })).status ≡ SUCCESS
    → (if running then answered s ERR_APP_RUNNING 0 else (if bad then answered s ERR_INVALID_NAME 0 else record (answered s SUCCESS 0) { next = next })).next ≡ next
start_next s next true bad is = let other : 79 ≡ 0 = ap (λ (x : Status). x.0) is in absurd (omega (arith, other))
start_next s next false true is = let other : ERR_INVALID_NAME.0 ≡ 0 = ap (λ (x : Status). x.0) is in absurd (omega (arith, other))
start_next s next false false is = refl

module _ (opening : State) (first : Entry) (app : ℕ) (app_name : List ℕ) (actor : first.actor ≡ App app) (starts : first.request ≡ ask.Start app_name) (is : IsAnswered (begins_at opening) first) (runs : first.reply.status ≡ SUCCESS) where
  started_effect : effect_in (begins_at opening) first ≡ Some (start_effect opening app app_name)
  started_effect = ap (λ (actor : Actor). effect_of opening actor first.request first.given) actor ∙ ap (λ (request : Request). effect_of opening (App app) request first.given) starts

  started_state : (onward (begins_at opening) first).state ≡ record opening { apps = slice_set opening.apps (app - 1) (Some app_name) }
  started_state =
      let same : is.effect ≡ start_effect opening app app_name = same_Some is.effect (start_effect opening app app_name) (sym is.effect_is ∙ started_effect) in
      ap (λ (found : Option Effect). (onward_by (begins_at opening) first found).state) started_effect
      ∙ start_next opening (record opening { apps = slice_set opening.apps (app - 1) (Some app_name) }) (is_some (name_of opening app)) (not (is_name app_name) || has_dot app_name) (sym (ap (λ (x : Effect). x.status) same) ∙ sym is.status ∙ runs)

-- so its registration is one that finds what the reset left
registers_first : (left : Store) (kit : List (Option ℕ)) (admit : Admitted) (entries : List Entry) → AreAnswered (begins_at (first_state left kit admit)) entries → (first e : Entry) (app_name : List ℕ) (r : Registration) → RegistersFirst kit entries first e app_name r
    → RegistersAt left (first_state left kit admit) entries 1 e (full_name app_name r.short) r
registers_first left kit admit entries are first e app_name r begun =
    let opening = first_state left kit admit in
    let at_first : slice_get entries 0 ≡ Some first = ap (λ (es : List Entry). slice_get es 0) begun.parts in
    let at : slice_get entries 1 ≡ Some e = ap (λ (es : List Entry). slice_get es 1) begun.parts in
    let first_is : IsAnswered (begins_at opening) first = answered_at (begins_at opening) entries 0 first are at_first in
    let is = answered_at (begins_at opening) entries 1 e are at in
    let state : (run_at opening entries 1).state ≡ started left kit admit r.app app_name =
    ap (λ (es : List Entry). (run_at opening es 1).state) begun.parts ∙ started_state opening first r.app app_name begun.actor begun.starts first_is begun.runs in
    let sent = subst (λ (actor : Actor). Fits actor first.request) begun.actor first_is.fits in
    record {
      at = at;
      asks = begun.asks;
      over = subst (λ (s : State). Registers left s (full_name app_name r.short) r) (sym state)
          (registers_at_start left kit admit app_name r sent.0 sent.1 begun.taken begun.critical
          (subst (λ (s : State). IsNoteOf (request_of r) (registering s r).calls s.store r.note) state (noted (run_at opening entries 1) e r begun.asks is)) begun.done);
    }

-- ---- two histories

-- whatever comes back of the blocks that the second one began with
all_come_back : {C : Type 0} (ComesBackSo : Run → Entry → List ℕ → ℕ → Type 0) (image : List ℕ) (kit : List (KitEntry C)) (admit : Admitted) (next : List Entry) → AreAnswered (begins_at (state_from image kit admit)) next
    → ((place : ℕ) (e : Entry) (name : List ℕ) (r : Registration) → RegistersAt (store_of image) (state_from image kit admit) next place e name r → ComesBackSo (run_at (state_from image kit admit) next place) e name r.size)
    → AllComeBack ComesBackSo image kit admit next
all_come_back ComesBackSo image kit admit next answered by_place = record {
  recovered = by_place;
  recovered_first = λ start e app_name r begun. by_place 1 e (full_name app_name r.short) r (registers_first (store_of image) (owners (given_of kit)) admit next answered start e app_name r begun);
}

-- the second began with the blocks that a reset in the first one, or after it, left
pub recovers_both : {C : Type 0} (opening : State) (entries : List Entry) (image : List ℕ) (kit : List (KitEntry C)) (admit : Admitted) (next : List Entry) → IsHistory opening entries → AtSomePlace opening entries image
    → AreAnswered (begins_at (state_from image kit admit)) next → RecoversBoth opening entries image kit admit next
recovers_both opening entries image kit admit next history at answered = all_come_back (RecoversFrom opening entries image) image kit admit next answered (λ place e name r registers. record {
  place = at.0;
  within = at.1;
  crash = at.2;
  back = gives_back opening entries at.0 image at.2 history (state_from image kit admit) next answered place e name r registers;
})

-- if no boot ended the first one, what its bank may leave at its end shows the blocks that are there then
exit_shows : (opening : State) (entries : List Entry) (image : List ℕ) → AtExit opening entries image → StaysUp entries → Shows (run_at opening entries (length entries)).state.store (store_of image)
exit_shows opening entries image (inl (inl shows)) up = shows
exit_shows opening entries image (inl (inr next)) up = let none : slice_get entries (length entries) ≡ None = slice_get_past entries (length entries) (omega arith) in absurd (cc (none, next.1))
exit_shows opening entries image (inr boot) up = absurd (up boot.last.given.note.stopped (boot.before, boot.last, boot.parts, boot.ended, refl))

-- so the second began with these
pub recovers_last : {C : Type 0} (opening : State) (entries : List Entry) (image : List ℕ) (kit : List (KitEntry C)) (admit : Admitted) (next : List Entry) → IsHistory opening entries → AtExit opening entries image → StaysUp entries
    → AreAnswered (begins_at (state_from image kit admit)) next → RecoversLast opening entries image kit admit next
recovers_last opening entries image kit admit next history exit up answered = all_come_back (GivesBack (run_from (begins_at opening) entries).state.store image) image kit admit next answered (λ place e name r registers.
    subst (λ (es : List Entry). GivesBack (run_from (begins_at opening) es).state.store image (run_at (state_from image kit admit) next place) e name r.size) (take-length entries)
    (gives_back opening entries (length entries) image (inl (exit_shows opening entries image exit up)) history (state_from image kit admit) next answered place e name r registers))
