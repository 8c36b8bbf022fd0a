-- From what a core keeps to, to what a session promises; and that a step goes on with it.
use Rattle.std.proofs.Common.{◌≡◌, ℕ, List, [], ◌∷◌, ◌++◌, length, false, Result, ℤ}
use Rattle.tbl_model.specs.History.{begins_at, run_from}
use Rattle.tbl_model.specs.State.{State}
use Rattle.tbl_kinds.specs.declared.entry.Entry.{Entry}
use Rattle.tbl_kinds.specs.declared.request.Actor.{Actor}
use Rattle.tbl_kinds.specs.declared.request.Request.{Request}
use Rattle.tbl_laws.proofs.BackedLaws.{backed}
use Rattle.tbl_laws.proofs.VouchedLaws.{vouched}
use Rattle.tbl_laws.proofs.WholeLaws.{whole}
use Rattle.tbl_outside.specs.Bank.{LeavesOnly}
use Rattle.tbl_outside.specs.declared.bank.Bank.{Ghosts}
use Rattle.tbl_outside.specs.declared.validator.KitEntry.{KitEntry}
use Rattle.tbl_outside.specs.declared.validator.Validator.{Ghosts as ValidatorGhosts}
use Rattle.cds_layout.specs.Images.{store_of}
use Rattle.tbl_session.specs.Crashes.{AfterCrash, all_calls_in}
use Rattle.tbl_session.specs.Openings.{Opening}
use Rattle.tbl_session.specs.Restores.{RestoresHeld}
use Rattle.tbl_session.specs.Served.{IsServed}
use Rattle.tbl_core.specs.Ended.{OnPlayed}
use Rattle.tbl_core.specs.Service.{CoreView, AddsOne, FollowsFrom, Vouches}
use Rattle.tbl_core.specs.Stepped.{Stepped}
use Rattle.tbl_core.proofs.Steps.{on_played}
use Rattle.tbl_core.specs.declared.service.StepFault.{StepFault}
use Rattle.tbl_core.proofs.Keeping.{keeps}
use Rattle.std.proofs.Common.{Option}
use Rattle.tbl_history.specs.Serving.{Serves, Continues}
use Rattle.tbl_history.proofs.CrashLemmas.{survives_on}
use Rattle.tbl_history.proofs.Laws.{Laws}
use Rattle.tbl_history.proofs.TroubleLemmas.{caused_on}

module _ {B C : Type 0} (g : Ghosts B) (verdict : C → List ℕ → ℤ) where
  -- what was served is all that a core keeps to, and the laws over its legal history
  pub served_of : (o : Opening B C) (core : CoreView B C) → Serves g verdict o core → IsServed g verdict o core.state.store.bank core.entries
  served_of o core serves = record {
    state = (run_from (begins_at o.state) core.entries).state;
    legal = serves.survives.stands.legal;
    whole = λ told. whole o.state core.entries _ serves.first.tables serves.first.pending (serves.survives.stands.legal told);
    vouched = λ told. vouched o.state core.entries _ serves.first.tables serves.first.pending (serves.survives.stands.legal told);
    verdicts = serves.vouches.verdicts;
    kept = λ told. keeps verdict o.given o.state core.entries (serves.vouches.verdicts told);
    backed = λ told. backed o.state core.entries _ serves.first.tables serves.first.single (serves.survives.stands.legal told);
    moments = serves.survives.moments;
    exit = serves.survives.exit;
    restored = serves.survives.restored;
    causes = serves.caused.causes;
    trouble = serves.caused.trouble;
  }

  pub serves_on : (o : Opening B C) (old new : CoreView B C) → Continues g verdict old new → Serves g verdict o old → Serves g verdict o new
  serves_on o old new goes was = record {
    first = was.first;
    vouches = goes.vouches o.state o.given was.vouches;
    survives = goes.survives o.state o.bank was.survives;
    caused = goes.caused o.bank was.caused;
  }

  pub continues_same : (core : CoreView B C) → Continues g verdict core core
  continues_same core = record {
    stands = λ opening was. was;
    vouches = λ opening given was. was;
    survives = λ opening bank was. was;
    caused = λ bank was. was;
  }

  pub then_continues : (first second third : CoreView B C) → Continues g verdict first second → Continues g verdict second third → Continues g verdict first third
  then_continues first second third a b = record {
    stands = λ opening was. b.stands opening (a.stands opening was);
    vouches = λ opening given was. b.vouches opening given (a.vouches opening given was);
    survives = λ opening bank was. b.survives opening bank (a.survives opening bank was);
    caused = λ bank was. b.caused bank (a.caused bank was);
  }

module _ {B C : Type 0} (g : Ghosts B) (laws : Laws g) (verdict : C → List ℕ → ℤ) (old new : CoreView B C) (live : old.state.ended ≡ false) where
  -- a step that added an entry goes on with all of it
  pub step_continues : (actor : Actor) (request : Request) (result : Result Unit StepFault) → AddsOne g old new actor request result
      → ((opening : State) → FollowsFrom g opening old → FollowsFrom g opening new)
      → ((opening : State) (given : List (Option (KitEntry C))) → Vouches g verdict given opening old → Vouches g verdict given opening new)
      → (g.tells_moments → (opening : State) → FollowsFrom g opening old → LeavesOnly g.clock g.left_since old.state.store.bank new.state.store.bank (λ image. AfterCrash opening new.entries (length old.entries) (store_of image)))
      → (e : Entry) × (new.entries ≡ old.entries ++ e ∷ []) × (g.tells → (opening : State) → FollowsFrom g opening old → RestoresHeld (g.now old.state.store.bank) (all_calls_in (run_from (begins_at opening) old.entries) e) (run_from (begins_at opening) old.entries).state.store e.given.note)
      → Continues g verdict old new
  step_continues actor request result one legal vouches crash gave = record {
    stands = legal;
    vouches = vouches;
    survives = λ opening bank was. survives_on g laws opening bank old new one.entry one.added one.ended live legal crash gave was;
    caused = λ bank was. caused_on g bank old new actor request result one was;
  }

module _ {B C : Type 0} (g : Ghosts B) (v : ValidatorGhosts C) (old new : CoreView B C) (actor : Actor) (request : Request) (result : Result Unit StepFault) where
  -- a step of the core that was played
  abbrev HasStepped : Type 0
  HasStepped = (e : Entry) × Stepped g v old new (actor, request) e result

  -- adds its entry
  pub adds_one : HasStepped → AddsOne g old new actor request result
  adds_one step =
      let adds = step.1.adds in
      record { entry = step.0; actor_is = adds.actor_is; request_is = adds.request_is; added = adds.added; ended = adds.ended; ends = adds.ends; trouble = adds.trouble; cause = adds.cause }

  pub played_adds : OnPlayed result HasStepped → OnPlayed result (AddsOne g old new actor request result)
  played_adds played = on_played result adds_one played

  -- and goes on with all that a core keeps to
  module _ (laws : Laws g) (live : old.state.ended ≡ false) where
    pub stepped_continues : HasStepped → Continues g v.verdict old new
    stepped_continues step =
        let s = step.1 in
        step_continues g laws v.verdict old new live actor request result (adds_one step) s.legal s.verdicts s.crash (step.0, s.adds.added, s.gave)

    pub played_continues : OnPlayed result HasStepped → OnPlayed result (Continues g v.verdict old new)
    played_continues played = on_played result stepped_continues played
