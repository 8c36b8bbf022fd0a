-- What a step leaves of the history's moments.
use Rattle.std.proofs.Common.{◌≡◌, ℕ, zero, suc, ◌+◌, ◌≤◌, List, [], ◌∷◌, ◌++◌, length, Bool, true, false, Some, refl, sym, ap, ◌∙◌, subst, inl, inr, arith, ◌⊎◌}
use Rattle.std.specs.Prelude.{slice_get}
use Rattle.std.proofs.lemmas.List.{take-append-le, length-append}
use Rattle.std.proofs.Math.Seq.{take-length}
use Rattle.std.proofs.lemmas.Option.{same_Some}
use Rattle.tbl_kinds.specs.StoreSteps.{Shows}
use Rattle.tbl_model.specs.State.{State}
use Rattle.tbl_model.specs.History.{Run, begins_at, run_from}
use Rattle.tbl_session.specs.Crashes.{AfterCrash, all_calls_in}
use Rattle.tbl_history.proofs.CrashesOnward.{crash_onward}
use Rattle.tbl_outside.specs.Bank.{LeavesOnly}
use Rattle.tbl_outside.specs.declared.bank.Bank.{Ghosts}
use Rattle.tbl_outside.proofs.Moments.{goes_on, leaves_among}
use Rattle.cds_layout.specs.Images.{store_of}
use Rattle.tbl_session.specs.Restores.{RestoresHeld}
use Rattle.tbl_core.specs.Service.{CoreView, FollowsFrom}
use Rattle.tbl_kinds.specs.declared.entry.Entry.{Entry}
use Rattle.tbl_session.specs.Moments.{run_at, AtSomePlace, AtExit, GaveLeft, AllGaveLeft}
use Rattle.tbl_history.specs.Surviving.{Survives}
use Rattle.tbl_history.proofs.Laws.{Laws}

-- an entry was at its place before the last one came, or it is the last one
pushed : {X : Type 0} (xs : List X) (y : X) (k : ℕ) (x : X) → slice_get (xs ++ y ∷ []) k ≡ Some x → (slice_get xs k ≡ Some x × suc k ≤ length xs) ⊎ ((k ≡ length xs) × (y ≡ x))
pushed [] y zero x at = inr (refl, same_Some y x at)
pushed [] y (suc k) x at = absurd (cc at)
pushed (first ∷ xs) y zero x at = inl (at, omega arith)
pushed (first ∷ xs) y (suc k) x at = elim (pushed xs y k x at) [
  | inl was ↦ inl (was.0, let le = was.1 in omega (arith, le))
  | inr last ↦ inr (ap suc last.0, last.1)
]

-- the run after the entries before
run_before : (opening : State) (entries more : List Entry) (place : ℕ) → place ≤ length entries → run_at opening (entries ++ more) place ≡ run_at opening entries place
run_before opening entries more place within = ap (run_from (begins_at opening)) (take-append-le place entries more within)

run_behind : (opening : State) (entries : List Entry) → run_at opening entries (length entries) ≡ run_from (begins_at opening) entries
run_behind opening entries = ap (run_from (begins_at opening)) (take-length entries)

-- an image that shows the blocks after all entries
shows_behind : (opening : State) (entries : List Entry) (image : List ℕ) → Shows (run_from (begins_at opening) entries).state.store (store_of image) → AfterCrash opening entries (length entries) (store_of image)
shows_behind opening entries image shows = inl (subst (λ (r : Run). Shows r.state.store (store_of image)) (sym (run_behind opening entries)) shows)

-- ---- over a bank whose laws these are

module _ {B C : Type 0} (g : Ghosts B) (laws : Laws g) where
  abbrev Is : State → B → CoreView B C → Type 0
  Is opening bank core = Survives g opening bank core

  -- what the bank of a live service holds shows its blocks
  now_shows : (opening : State) (core : CoreView B C) → FollowsFrom g opening core → core.state.ended ≡ false → g.tells_moments → Shows (run_from (begins_at opening) core.entries).state.store (store_of (g.now core.state.store.bank))
  now_shows opening core stands live told = ((stands.shows (laws.tells_both told)).state.blocks live).shows (laws.tells_both told)

  -- so that is what a reset leaves of it
  exit_live : (opening : State) (core : CoreView B C) → FollowsFrom g opening core → core.state.ended ≡ false → g.tells_moments → (image : List ℕ) → g.may_leave core.state.store.bank image → AtExit opening core.entries image
  exit_live opening core stands live told image may =
      inl (shows_behind opening core.entries image (subst (λ (bytes : List ℕ). Shows (run_from (begins_at opening) core.entries).state.store (store_of bytes)) (sym (laws.leaves_only_now core.state.store.bank image told may)) (now_shows opening core stands live told)))

  -- ---- one entry more

  module _ (opening : State) (bank : B) (old new : CoreView B C) (entry : Entry) (added : new.entries ≡ old.entries ++ entry ∷ []) (live : old.state.ended ≡ false) (was : Is opening bank old) (stands : FollowsFrom g opening new)
      (told : g.tells_moments) (crash : LeavesOnly g.clock g.left_since old.state.store.bank new.state.store.bank (λ image. AfterCrash opening new.entries (length old.entries) (store_of image))) where
    longer : length new.entries ≡ length old.entries + 1
    longer = ap length added ∙ length-append old.entries (entry ∷ [])

    moments_on : LeavesOnly g.clock g.left_since bank new.state.store.bank (AtSomePlace opening new.entries)
    moments_on =
        goes_on (leaves_among (was.moments told) (λ image at. (at.0, let le = at.1 in omega (arith, le, longer), subst (λ (es : List Entry). AfterCrash opening es at.0 (store_of image)) (sym added) (crash_onward opening old.entries (entry ∷ []) at.0 (store_of image) at.1 at.2))))
        crash (λ image left. (length old.entries, omega (arith, longer), left))

    -- the bank's bytes before the step may have been left since the first bank
    began_with : g.left_since new.state.store.bank (g.clock bank) (g.now old.state.store.bank)
    began_with = crash.keeps (g.clock bank) (g.now old.state.store.bank) (was.moments told).later (laws.counts_now old.state.store.bank (g.clock bank) (g.now old.state.store.bank) told (was.moments told).later (laws.leaves_now old.state.store.bank told))

    restored_on : RestoresHeld (g.now old.state.store.bank) (all_calls_in (run_from (begins_at opening) old.entries) entry) (run_from (begins_at opening) old.entries).state.store entry.given.note
        → AllGaveLeft (g.left_since new.state.store.bank (g.clock bank)) opening new.entries
    restored_on gave place e at = elim (pushed old.entries entry place e (subst (λ (es : List Entry). slice_get es place ≡ Some e) added at)) [
      | inl before ↦
          let given = was.restored told place e before.0 in
          let same : run_at opening new.entries place ≡ run_at opening old.entries place =
          ap (λ (es : List Entry). run_at opening es place) added ∙ run_before opening old.entries (entry ∷ []) place (let le = before.1 in omega (arith, le)) in
          subst (λ (r : Run). GaveLeft (g.left_since new.state.store.bank (g.clock bank)) r e) (sym same) (record {
            bytes = given.bytes;
            left = crash.keeps (g.clock bank) given.bytes (was.moments told).later given.left;
            shows = given.shows;
            held = given.held;
          })
      | inr last ↦
          let same : run_at opening new.entries place ≡ run_from (begins_at opening) old.entries =
          ap (run_at opening new.entries) last.0 ∙ ap (λ (es : List Entry). run_at opening es (length old.entries)) added ∙ run_before opening old.entries (entry ∷ []) (length old.entries) (omega arith) ∙ run_behind opening old.entries in
          subst (λ (r : Run). GaveLeft (g.left_since new.state.store.bank (g.clock bank)) r e) (sym same) (subst (GaveLeft (g.left_since new.state.store.bank (g.clock bank)) (run_from (begins_at opening) old.entries)) last.1 (record {
            bytes = g.now old.state.store.bank;
            left = began_with;
            shows = now_shows opening old was.stands live told;
            held = gave;
          }))
    ]

    exit_on : (ended : Bool) → entry.given.note.ended ≡ ended → new.state.ended ≡ entry.given.note.ended → (image : List ℕ) → g.may_leave new.state.store.bank image → AtExit opening new.entries image
    exit_on false is same image may = exit_live opening new stands (same ∙ is) told image may
    exit_on true is same image may = inr (record {
      before = old.entries;
      last = entry;
      parts = added;
      ended = is;
      crash = crash.each image (laws.counts_now new.state.store.bank (g.clock old.state.store.bank) image told crash.later may);
    })

  pub survives_on : (opening : State) (bank : B) (old new : CoreView B C) (entry : Entry) → new.entries ≡ old.entries ++ entry ∷ [] → new.state.ended ≡ entry.given.note.ended → old.state.ended ≡ false
      → ((opening : State) → FollowsFrom g opening old → FollowsFrom g opening new)
      → (g.tells_moments → (opening : State) → FollowsFrom g opening old → LeavesOnly g.clock g.left_since old.state.store.bank new.state.store.bank (λ image. AfterCrash opening new.entries (length old.entries) (store_of image)))
      → (e : Entry) × (new.entries ≡ old.entries ++ e ∷ []) × (g.tells → (opening : State) → FollowsFrom g opening old → RestoresHeld (g.now old.state.store.bank) (all_calls_in (run_from (begins_at opening) old.entries) e) (run_from (begins_at opening) old.entries).state.store e.given.note)
      → Is opening bank old → Is opening bank new
  survives_on opening bank old new entry added ended live legal crash gave was =
      let stands = legal opening was.stands in record {
        stands = stands;
        moments = λ told. moments_on opening bank old new entry added live was stands told (crash told opening was.stands);
        exit = λ told. exit_on opening bank old new entry added live was stands told (crash told opening was.stands) entry.given.note.ended refl ended;
        restored = λ told. restored_on opening bank old new gave.0 gave.1 live was stands told (crash told opening was.stands) (gave.2 (laws.tells_both told) opening was.stands);
      }

  -- ---- at first

  pub survives_at_first : (opening : State) (bank : B) (core : CoreView B C) → core.entries ≡ [] → core.state.ended ≡ false → FollowsFrom g opening core
      → (g.tells_moments → LeavesOnly g.clock g.left_since bank core.state.store.bank (λ image. Shows opening.store (store_of image)))
      → Is opening bank core
  survives_at_first opening bank core none live stands crash = record {
    stands = stands;
    moments = λ told. leaves_among (crash told) (λ image shows. (0, omega arith, inl shows));
    exit = exit_live opening core stands live;
    restored = λ told place e at. absurd (let empty = none in cc (at, ap (λ (es : List Entry). slice_get es place) empty));
  }

-- ---- if there was no service

module _ {B : Type 0} (g : Ghosts B) (laws : Laws g) (opening : State) (bank bank_then : B) (crash : g.tells_moments → LeavesOnly g.clock g.left_since bank bank_then (λ image. Shows opening.store (store_of image))) where
  pub no_moments : g.tells_moments → LeavesOnly g.clock g.left_since bank bank_then (AtSomePlace opening [])
  no_moments told = leaves_among (crash told) (λ image shows. (0, omega arith, inl shows))

  pub no_exit : g.tells_moments → (image : List ℕ) → g.may_leave bank_then image → AtExit opening [] image
  no_exit told image may = inl (inl ((crash told).each image (laws.counts_now bank_then (g.clock bank) image told (crash told).later may)))
