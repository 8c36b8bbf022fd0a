-- From the records of a drill that were played to what the drill promises.
use Rattle.std.proofs.Common.{◌≡◌, ◌≢◌, ℕ, ℤ, true, false, List, [], ◌∷◌, ◌++◌, map, Some, refl, sym, ap, subst, ◌∙◌, append_assoc, arith, ◌⊎◌, inl, inr}
use Rattle.std.proofs.lemmas.List.{map-append}
use Rattle.tbl_kinds.specs.Records.{Pair}
use Rattle.tbl_kinds.specs.StoreSteps.{Shows}
use Rattle.tbl_kinds.specs.Transcript.{pair_of, pairs_of}
use Rattle.tbl_kinds.proofs.TranscriptLaws.{pairs_of-snoc}
use Rattle.cds_layout.specs.Images.{store_of}
use Rattle.tbl_outside.specs.Bank.{LeavesOnly}
use Rattle.tbl_outside.specs.declared.bank.Bank.{Ghosts}
use Rattle.tbl_core.specs.Service.{CoreView, StartCounted}
use Rattle.tbl_core.specs.declared.service.StartFault.{StartFault}
use Rattle.tbl_core.specs.declared.service.StartFault.TheVariants.{Memory as NoMemory, BootFault as FirstFault, BootStopped as FirstStopped}
use Rattle.tbl_history.specs.Serving.{Serves}
use Rattle.tbl_history.proofs.Laws.{Laws}
use Rattle.tbl_history.proofs.ServingLemmas.{served_of}
use Rattle.tbl_session.specs.Openings.{Opening, IsFirst}
use Rattle.tbl_session.specs.Served.{IsServed}
use Rattle.tbl_session.specs.Session.{Ran, Boots}
use Rattle.tbl_session.specs.Trouble.{Rises}
use Rattle.tbl_drill.specs.Drill.{roomless}
use Rattle.tbl_drill.specs.Drill as drill
use Rattle.tbl_stream.specs.Finishing.{status_of, unbegun_status}
use Rattle.tbl_stream.specs.Standing.{IsEnding, TellsBoot}
use Rattle.tbl_stream.specs.Writing.{Taken}
use Rattle.tbl_top.specs.Drilling.{AsksFront, Drills, DrillsThrough, IsOfScript, summary}
use Rattle.tbl_top.specs.Listing.{TellsText}
use Rattle.tbl_stream.proofs.ReportLemmas.{rose_at_fault, rose_at_stop, unbegun_boots, unbegun_rises}
use Rattle.tbl_stream.proofs.ServingLemmas.{served_nothing}
use Rattle.tbl_stream.proofs.StatusLemmas.{boots_as, no_boot}
use Rattle.tbl_stream.specs.declared.standing.Standing.{Standing}
use Rattle.tbl_stream.specs.declared.standing.Standing.TheVariants.{Open, Bad, TooMany, Full, BootFault, BootStopped, SinkFailed, Memory, Unwritten}
use Rattle.tbl_kinds.specs.declared.entry.Entry.{Entry}
use Rattle.tbl_kinds.specs.declared.request.Actor.{Actor}
use Rattle.tbl_kinds.specs.declared.request.Request.{Request}

-- ---- one record more

-- the record at the front of the script is the last of those that were played
pub plays_more : (before after : List Entry) (e : Entry) (script rest : List Pair) (actor : Actor) (request : Request)
    → after ≡ before ++ e ∷ [] → e.actor ≡ actor → e.request ≡ request → script ≡ record { actor = actor; request = request } ∷ rest → pairs_of after ++ rest ≡ pairs_of before ++ script
plays_more before after e script rest actor request added of_actor of_request front =
    let pair : pair_of e ≡ record { actor = actor; request = request } = λ i. record { actor = of_actor i; request = of_request i } in
    rw (added, pairs_of-snoc before e, pair, front) (append_assoc (pairs_of before) (record { actor = actor; request = request } ∷ []) rest)

-- a boot that ended the service is no end of the script
pub ending_of_script : (standing : Standing) → IsEnding (Some standing) → IsOfScript standing × (standing ≢ Open)
ending_of_script BootFault ending = (tt, λ e. cc)
ending_of_script BootStopped ending = (tt, λ e. cc)
ending_of_script Open ending = absurd ending
ending_of_script Bad ending = absurd ending
ending_of_script TooMany ending = absurd ending
ending_of_script Full ending = absurd ending
ending_of_script SinkFailed ending = absurd ending
ending_of_script Memory ending = absurd ending
ending_of_script Unwritten ending = absurd ending

-- if it was broken off nothing is written
pub told_nothing : (standing : Standing) (text : List ℕ) (before : Taken) → IsOfScript standing → (standing ≢ Open) → TellsText (status_of standing false true) text before before
told_nothing Open text before known other = absurd (other refl)
told_nothing BootFault text before known other = record { whole = λ e. absurd (omega (arith, e)); broken = λ e. absurd (omega (arith, e)); silent = inr (inr refl); calm = λ _. refl }
told_nothing BootStopped text before known other = record { whole = λ e. absurd (omega (arith, e)); broken = λ e. absurd (omega (arith, e)); silent = inr (inr refl); calm = λ _. refl }
told_nothing Memory text before known other = record { whole = λ e. absurd (omega (arith, e)); broken = λ e. absurd (omega (arith, e)); silent = inr (inr refl); calm = λ _. refl }
told_nothing Bad text before known other = absurd known
told_nothing TooMany text before known other = absurd known
told_nothing Full text before known other = absurd known
told_nothing SinkFailed text before known other = absurd known
told_nothing Unwritten text before known other = absurd known

-- ---- the whole

-- the statuses of a drill
abbrev IsKnown : ℕ → Type 0
IsKnown status = (status ≡ 0) ⊎ (status ≡ 1) ⊎ (status ≡ 4) ⊎ (status ≡ 7) ⊎ (status ≡ 8)

module _ {B C : Type 0} (seed rounds : ℕ) (g : Ghosts B) (verdict : C → List ℕ → ℤ) (o : Opening B C) (core : CoreView B C) (standing : Standing) (script left : List Pair) (r : Ran B)
    (bank_is : r.bank_then ≡ core.state.store.bank) (serves : Serves g verdict o core)
    (session_is : map roomless script ≡ drill.session seed rounds) (plays : script ≡ pairs_of core.entries ++ left) (all : standing ≡ Open → left ≡ [])
    (boot : TellsBoot standing core.state.ended core.entries) (told : TellsText r.status (summary core.entries) (r.taken, r.unwritten) (r.taken_then, r.unwritten_then)) where
  asks : ((r.status ≡ 0) ⊎ (r.status ≡ 4) → standing ≡ Open) → AsksFront r.status (drill.session seed rounds) core.entries
  asks whole = record {
    left = map roomless left;
    parts = sym session_is ∙ ap (map roomless) plays ∙ map-append roomless (pairs_of core.entries) left;
    whole = λ status. ap (map roomless) (all (whole status));
  }

  rises : Rises g o.bank r.bank_then core.entries
  rises = subst (λ (b : B). Rises g o.bank b core.entries) (sym bank_is) serves.caused.trouble

  made : IsKnown r.status → ((r.status ≡ 0) ⊎ (r.status ≡ 4) → standing ≡ Open) → Boots g o.bank r core.entries [] r.status → Drills seed rounds g verdict o r
  made known whole boots = record {
    entries = core.entries;
    requested = asks whole;
    served = subst (λ (b : B). IsServed g verdict o b core.entries) (sym bank_is) (served_of g verdict o core serves);
    known = known;
    boots = boots;
    causes = record {
      sink = λ four. (told.broken four).1;
      fault = rose_at_fault g o.bank r core.entries [] rises boots;
      stop = rose_at_stop g o.bank r core.entries [] rises boots;
    };
    told = told;
  }

  -- all records were played
  pub drilled_open : standing ≡ Open → (r.status ≡ 0) ⊎ (r.status ≡ 1) ⊎ (r.status ≡ 4) → Drills seed rounds g verdict o r
  drilled_open is (inl zero) = made (inl zero) (λ _. is) (subst (Boots g o.bank r core.entries []) (sym zero) (boots_as Open false true g o.bank core [] _ _ serves.caused (subst (λ (s : Standing). TellsBoot s core.state.ended core.entries) is boot)))
  drilled_open is (inr (inl one)) = made (inr (inl one)) (λ _. is) (no_boot r.status core.entries [] _ _ (inl one))
  drilled_open is (inr (inr four)) = made (inr (inr (inl four))) (λ _. is) (no_boot r.status core.entries [] _ _ (inr four))

  -- or some of them
  pub drilled_front : (s : Standing) → standing ≡ s → (s ≢ Open) → IsOfScript s → r.status ≡ status_of s false true → Drills seed rounds g verdict o r
  drilled_front Open is other known status = absurd (other refl)
  drilled_front BootFault is other known status =
      made (inr (inr (inr (inl status)))) (λ some. absurd (elim some [ inl zero ↦ omega (arith, zero, status) | inr four ↦ omega (arith, four, status) ]))
      (subst (Boots g o.bank r core.entries []) (sym status) (boots_as BootFault false true g o.bank core [] _ _ serves.caused (subst (λ (s : Standing). TellsBoot s core.state.ended core.entries) is boot)))
  drilled_front BootStopped is other known status =
      made (inr (inr (inr (inr status)))) (λ some. absurd (elim some [ inl zero ↦ omega (arith, zero, status) | inr four ↦ omega (arith, four, status) ]))
      (subst (Boots g o.bank r core.entries []) (sym status) (boots_as BootStopped false true g o.bank core [] _ _ serves.caused (subst (λ (s : Standing). TellsBoot s core.state.ended core.entries) is boot)))
  drilled_front Memory is other known status =
      made (inr (inl status)) (λ some. absurd (elim some [ inl zero ↦ omega (arith, zero, status) | inr four ↦ omega (arith, four, status) ])) (no_boot r.status core.entries [] _ _ (inl status))
  drilled_front Bad is other known status = absurd known
  drilled_front TooMany is other known status = absurd known
  drilled_front Full is other known status = absurd known
  drilled_front SinkFailed is other known status = absurd known
  drilled_front Unwritten is other known status = absurd known

  pub drilled : IsOfScript standing → (standing ≡ Open → (r.status ≡ 0) ⊎ (r.status ≡ 1) ⊎ (r.status ≡ 4)) → ((standing ≢ Open) → r.status ≡ status_of standing false true) → Drills seed rounds g verdict o r
  drilled known all_played ended = by standing refl known where
    front : (s : Standing) → standing ≡ s → IsOfScript s → (s ≢ Open) → Drills seed rounds g verdict o r
    front s is known other = drilled_front s is other known (ended (λ e. other (sym is ∙ e)) ∙ ap (λ (s : Standing). status_of s false true) is)

    by : (s : Standing) → standing ≡ s → IsOfScript s → Drills seed rounds g verdict o r
    by Open is known = drilled_open is (all_played is)
    by BootFault is known = front BootFault is known (λ e. cc)
    by BootStopped is known = front BootStopped is known (λ e. cc)
    by Memory is known = front Memory is known (λ e. cc)
    by Bad is known = absurd known
    by TooMany is known = absurd known
    by Full is known = absurd known
    by SinkFailed is known = absurd known
    by Unwritten is known = absurd known

-- ---- if the service didn't begin

module _ {B C : Type 0} (seed rounds : ℕ) (g : Ghosts B) (laws : Laws g) (verdict : C → List ℕ → ℤ) (o : Opening B C) (first : IsFirst o.state) (r : Ran B)
    (crash : g.tells_moments → LeavesOnly g.clock g.left_since o.bank r.bank_then (λ image. Shows o.state.store (store_of image))) (nothing : r.taken_then ≡ r.taken) (still : r.unwritten_then ≡ r.unwritten) where
  empty : IsKnown r.status → (r.status ≢ 0) → (r.status ≢ 4) → Rises g o.bank r.bank_then [] → Boots g o.bank r [] [] r.status → Drills seed rounds g verdict o r
  empty known not_zero not_four rises boots = record {
    entries = [];
    requested = record { left = drill.session seed rounds; parts = refl; whole = λ some. absurd (elim some [ inl zero ↦ not_zero zero | inr four ↦ not_four four ]) };
    served = served_nothing g laws verdict o first r.bank_then crash rises;
    known = known;
    boots = boots;
    causes = record { sink = λ four. absurd (not_four four); fault = rose_at_fault g o.bank r [] [] rises boots; stop = rose_at_stop g o.bank r [] [] rises boots };
    told = record { whole = λ zero. absurd (not_zero zero); broken = λ four. absurd (not_four four); silent = inr (inr nothing); calm = λ _. still };
  }

  pub undrilled : (fault : StartFault) → StartCounted g o.bank r.bank_then fault → r.status ≡ unbegun_status fault → Drills seed rounds g verdict o r
  undrilled fault counted status =
      empty (known fault status) (λ zero. (never fault).0 (sym status ∙ zero)) (λ four. (never fault).1 (sym status ∙ four)) (unbegun_rises g o.bank r.bank_then fault counted)
      (subst (Boots g o.bank r [] []) (sym status) (unbegun_boots g o.bank r fault counted)) where
        known : (fault : StartFault) → r.status ≡ unbegun_status fault → IsKnown r.status
        known NoMemory is = inr (inl is)
        known FirstFault is = inr (inr (inr (inl is)))
        known FirstStopped is = inr (inr (inr (inr is)))

        never : (fault : StartFault) → (unbegun_status fault ≢ 0) × (unbegun_status fault ≢ 4)
        never NoMemory = (λ e. omega (arith, e), λ e. omega (arith, e))
        never FirstFault = (λ e. omega (arith, e), λ e. omega (arith, e))
        never FirstStopped = (λ e. omega (arith, e), λ e. omega (arith, e))

-- ---- completeness

pub drills_not_usage : {B C : Type 0} (seed rounds : ℕ) (g : Ghosts B) (verdict : C → List ℕ → ℤ) (o : Opening B C) (r : Ran B) → Drills seed rounds g verdict o r → r.status ≢ 2
drills_not_usage seed rounds g verdict o r d = by d.known where
  by : IsKnown r.status → r.status ≢ 2
  by (inl zero) = λ two. omega (arith, zero, two)
  by (inr (inl one)) = λ two. omega (arith, one, two)
  by (inr (inr (inl four))) = λ two. omega (arith, four, two)
  by (inr (inr (inr (inl seven)))) = λ two. omega (arith, seven, two)
  by (inr (inr (inr (inr eight)))) = λ two. omega (arith, eight, two)

module _ {B C : Type 0} (seed rounds : ℕ) (g : Ghosts B) (verdict : C → List ℕ → ℤ) (o : Opening B C) (r : Ran B) (d : Drills seed rounds g verdict o r) where
  by_status : IsKnown r.status → DrillsThrough g o.bank r
  by_status (inl zero) = λ calm. inl zero
  by_status (inr (inl one)) = λ calm. inr (inl one)
  by_status (inr (inr (inl four))) = λ calm. absurd (calm (d.causes.sink four))
  by_status (inr (inr (inr (inl seven)))) = λ calm. inr (inr (inl (seven, d.causes.fault seven)))
  by_status (inr (inr (inr (inr eight)))) = λ calm. inr (inr (inr (eight, d.causes.stop eight)))

  pub drills_through : DrillsThrough g o.bank r
  drills_through = by_status d.known
