-- What a step makes of what the lock holds.
use Rattle.std.proofs.Common.{◌≡◌, ℕ, ◌+◌, ◌<◌, ◌≤◌, List, [], ◌∷◌, ◌++◌, length, Bool, true, false, Option, Some, None, Result, Ok, Err, refl, sym, ap, subst, ◌∙◌, inl, inr, arith, ℤ}
use Rattle.std.specs.Prelude.{OnOk, slice_index_or}
use Rattle.std.proofs.lemmas.List.{get_or_at, length-append}
use Rattle.tbl_kinds.specs.Buffers.{Buffer}
use Rattle.tbl_kinds.specs.Records.{actor_number}
use Rattle.tbl_kinds.specs.Requests.{Fits}
use Rattle.tbl_kinds.specs.declared.entry.Entry.{Entry}
use Rattle.tbl_kinds.specs.declared.request.Actor.{Actor}
use Rattle.tbl_kinds.specs.declared.request.Request.{Request}
use Rattle.tbl_outside.specs.declared.bank.Bank.{Ghosts}
use Rattle.tbl_kinds.specs.declared.note.BankNote.{BankNote}
use Rattle.request_effects.specs.Effects.{reply_limit}
use Rattle.tbl_core.specs.Ended.{OnPlayed, session_end}
use Rattle.tbl_core.specs.Log.{IsSmall}
use Rattle.tbl_core.specs.Service.{CoreView, AddsOne, PinsOnward, FollowsFrom, Vouches}
use Rattle.tbl_core.proofs.Lending.{pin_stays}
use Rattle.tbl_core.specs.declared.service.StepFault.{StepFault}
use Rattle.tbl_core.specs.declared.service.StepFault.TheVariants.{Memory as NoMemory, BootFault, BootStopped}
use Rattle.tbl_history.specs.Serving.{Continues}
use Rattle.tbl_history.proofs.ServingLemmas.{continues_same}
use Rattle.tbl_history.proofs.TroubleLemmas.{ends_in_fault, ends_in_stop}
use Rattle.tbl_live.specs.Answers.{receipt_of, MayStep, Adds, IsRefusal, TakesLast, IsOutcome, GivesOutcome, kept_of, Answers, Answered}
use Rattle.tbl_live.specs.Bounds.{Bound}
use Rattle.tbl_live.specs.Cores.{Asked, PlaysOne}
use Rattle.tbl_live.specs.Moves.{Moves}
use Rattle.tbl_live.specs.ServedView.{ServedView, TellsFault, HasEnded, IsServed}
use Rattle.tbl_live.specs.declared.receipts.CallFault.{CallFault}
use Rattle.tbl_live.specs.declared.receipts.CallFault.TheVariants.{Ended, Full, Step, Memory}
use Rattle.tbl_live.specs.declared.receipts.Receipt.{Receipt}
use Rattle.tbl_live.proofs.GivingLemmas.{refused_given, played_given}

-- ---- the last entry

-- what is found at the last place is the last entry
pub is_last : (entries : List Entry) (place : ℕ) (found : Entry) → found ≡ slice_index_or entries place found → place + 1 ≡ length entries → (before : List Entry) (e : Entry) → entries ≡ before ++ e ∷ [] → found ≡ e
is_last entries place found at is before e parts =
    let here : place ≡ length before = omega (arith, is, ap length parts, length-append before (e ∷ [])) in
    at ∙ (λ i. slice_index_or (parts i) (here i) found) ∙ get_or_at before e [] found (length before) (omega arith)

-- and so is its receipt that of the last one
pub takes_last : (entries : List Entry) (place : ℕ) (found : Entry) (bytes after : List ℕ) → ((before : List Entry) (e : Entry) → entries ≡ before ++ e ∷ [] → found ≡ e) → place + 1 ≡ length entries → after ≡ bytes ++ found.reply.bytes.list
    → TakesLast entries (receipt_of place found) bytes after
takes_last entries place found bytes after last is appended before e parts =
    let here : place ≡ length before = omega (arith, is, ap length parts, length-append before (e ∷ [])) in
    let same : found ≡ e = last before e parts in
    ((λ i. receipt_of (here i) (same i)), appended ∙ ap (λ (x : Entry). bytes ++ x.reply.bytes.list) same)

-- what a call answers after a step that answered a fault in a boot
pub outcome_fault : (entries : List Entry) (done : Result Unit StepFault) (receipt : Receipt) (bytes after : List ℕ) → done ≡ Err BootFault → TakesLast entries receipt bytes after → IsOutcome entries done bytes after (Err (Step BootFault))
outcome_fault entries done receipt bytes after is takes = subst (λ (d : Result Unit StepFault). IsOutcome entries d bytes after (Err (Step BootFault))) (sym is) (receipt, refl, takes)

pub outcome_stop : (entries : List Entry) (done : Result Unit StepFault) (receipt : Receipt) (bytes after : List ℕ) → done ≡ Err BootStopped → TakesLast entries receipt bytes after → IsOutcome entries done bytes after (Err (Step BootStopped))
outcome_stop entries done receipt bytes after is takes = subst (λ (d : Result Unit StepFault). IsOutcome entries d bytes after (Err (Step BootStopped))) (sym is) (receipt, refl, takes)

-- there is room for the bytes of its reply
pub has_room : (spare : ℕ) (found : Entry) → IsSmall found → reply_limit ≤ spare → length found.reply.bytes.list ≤ spare
has_room spare found it room = let few = it.bytes in omega (arith, few, room)

-- ---- what a step leaves

pub lives : {B C : Type 0} (limit : ℕ) (s : ServedView B C) → IsServed limit s → s.fault ≡ None → s.core.state.ended ≡ false
lives limit s served went = subst (λ (f : Option StepFault). TellsFault f s.base s.core) went served.tells

pub same_view : {B C : Type 0} (old new : ServedView B C) → new.core ≡ old.core → new.fault ≡ old.fault → new.base ≡ old.base → new ≡ old
same_view old new core fault base = λ i. record { core = core i; fault = fault i; base = base i }

-- a step that answered a fault in a boot has ended the service
ended_by : (fault : StepFault) (note : BankNote) (ended : Bool) → note.ended ≡ ended → Err fault ≡ session_end note → note.ended ≡ true
ended_by fault note true is e = is
ended_by fault note false is e = let other : session_end note ≡ Ok tt = rw is refl in absurd (cc (e, other))

module _ {B C : Type 0} (g : Ghosts B) (old new : CoreView B C) where
  -- there is an entry then
  pub some_entry : (actor : Actor) (request : Request) (done : Result Unit StepFault) → OnPlayed done (AddsOne g old new actor request done) → OnPlayed done (0 < length new.entries)
  some_entry actor request (Ok x) one = omega (arith, ap length one.added, length-append old.entries (one.entry ∷ []))
  some_entry actor request (Err NoMemory) one = tt
  some_entry actor request (Err BootFault) one = omega (arith, ap length one.added, length-append old.entries (one.entry ∷ []))
  some_entry actor request (Err BootStopped) one = omega (arith, ap length one.added, length-append old.entries (one.entry ∷ []))

module _ {B C : Type 0} (g : Ghosts B) (verdict : C → List ℕ → ℤ) (bound : Bound) (old new : ServedView B C) (served : IsServed bound.limit old) where
  -- ---- nothing was done

  pub moves_itself : (actor : ℕ) → Moves g verdict old actor old
  moves_itself actor = record {
    continues = continues_same g verdict old.core;
    base = refl;
    past = served.past;
    grows = inl refl;
    fault = λ fault is. is;
    pins = λ pin is. is;
  }

  refused : (actor : Actor) (request : Request) (bytes : List ℕ) (cause : CallFault) → IsRefusal bound old.fault old.core cause → Answers bound old old actor request (bytes, bytes) (Err cause)
  refused actor request bytes (Ended fault) is = (is, record { same = refl; none = refl })
  refused actor request bytes (Full count) is = (is, record { same = refl; none = refl })
  refused actor request bytes (Step fault) is = absurd is
  refused actor request bytes Memory is = absurd is

  pub refused_answer : (call : Asked) (out : Buffer) (cause : CallFault) → IsRefusal bound old.fault old.core cause → Answered g verdict bound call (old, out) (old, out) (Err cause, None)
  refused_answer call out cause is = record {
    lent = refused_given call.taken bound old.fault old.core old.core old.core cause is;
    moves = moves_itself (actor_number call.actor);
    answers = refused call.actor call.request out.list cause is;
    room = record { later = tt; keeps = omega arith };
  }

  module _ (may : MayStep bound.limit old.fault old.core) (base : new.base ≡ old.base) where
    -- ---- one entry more

    fresh : (fault : StepFault) → old.fault ≡ Some fault → ⊥
    fresh fault is = let none = may.went in absurd (cc (none, is))

    longer : (e : Entry) → new.core.entries ≡ old.core.entries ++ e ∷ [] → length new.core.entries ≡ length old.core.entries + 1
    longer e added = ap length added ∙ length-append old.core.entries (e ∷ [])

    moves_with : (actor : Actor) (request : Request) (done : Result Unit StepFault) → Fits actor request → Continues g verdict old.core new.core → AddsOne g old.core new.core actor request done
        → PinsOnward old.core new.core → Moves g verdict old (actor_number actor) new
    moves_with actor request done fits continues one onward = record {
      continues = continues;
      base = base;
      past = served.past;
      grows = inr (one.entry, ap actor_number one.actor_is, subst (λ (p : Actor × Request). Fits p.0 p.1) (λ i. (sym one.actor_is i, sym one.request_is i)) fits, one.added);
      fault = λ fault is. absurd (fresh fault is);
      pins = λ pin is. pin_stays old.core new.core one.entry one.added onward pin is;
    }

    served_with : (e : Entry) → new.core.entries ≡ old.core.entries ++ e ∷ [] → TellsFault new.fault new.base new.core → IsServed bound.limit new
    served_with e added tells =
        let more = longer e added in
        let was = served.past in
        let room = may.room in
        record {
          tells = tells;
          past = omega (arith, base, was, more);
          few = λ within. omega (arith, room, more);
        }

    tells_end : (fault : StepFault) (e : Entry) → new.core.entries ≡ old.core.entries ++ e ∷ [] → HasEnded fault new.base new.core → new.fault ≡ Some fault → IsServed bound.limit new
    tells_end fault e added ended is = served_with e added (subst (λ (f : Option StepFault). TellsFault f new.base new.core) (sym is) ended)

    later : (e : Entry) → new.core.entries ≡ old.core.entries ++ e ∷ [] → new.base < length new.core.entries
    later e added = let more = longer e added in let was = served.past in omega (arith, base, was, more)

    pub served_on : (actor : Actor) (request : Request) (done : Result Unit StepFault) → new.fault ≡ kept_of done → OnPlayed done (AddsOne g old.core new.core actor request done) → OnOk done (new.core.state.ended ≡ false)
        → (done ≡ Err NoMemory → new.core ≡ old.core) → IsServed bound.limit new
    served_on actor request (Ok x) kept one live err = served_with one.entry one.added (subst (λ (f : Option StepFault). TellsFault f new.base new.core) (sym kept) live)
    served_on actor request (Err NoMemory) kept one live err = subst (IsServed bound.limit) (sym (same_view old new (err refl) (kept ∙ sym may.went) base)) served
    served_on actor request (Err BootFault) kept one live err =
        let boot = ends_in_fault g old.core new.core actor request one in
        tells_end BootFault one.entry one.added (record { ended = one.ended ∙ ended_by BootFault one.entry.given.note one.entry.given.note.ended refl one.ends; boot = boot; later = later one.entry one.added }) kept
    served_on actor request (Err BootStopped) kept one live err =
        let boot = ends_in_stop g old.core new.core actor request one in
        tells_end BootStopped one.entry one.added (record { ended = one.ended ∙ ended_by BootStopped one.entry.given.note one.entry.given.note.ended refl one.ends; boot = boot; later = later one.entry one.added }) kept

    moves_on : (actor : Actor) (request : Request) (done : Result Unit StepFault) → Fits actor request → new.fault ≡ kept_of done → OnPlayed done (AddsOne g old.core new.core actor request done) → OnPlayed done (Continues g verdict old.core new.core)
        → OnPlayed done (PinsOnward old.core new.core) → (done ≡ Err NoMemory → new.core ≡ old.core) → Moves g verdict old (actor_number actor) new
    moves_on actor request (Ok x) fits kept one continues onward err = moves_with actor request (Ok x) fits continues one onward
    moves_on actor request (Err NoMemory) fits kept one continues onward err = subst (Moves g verdict old (actor_number actor)) (sym (same_view old new (err refl) (kept ∙ sym may.went) base)) (moves_itself (actor_number actor))
    moves_on actor request (Err BootFault) fits kept one continues onward err = moves_with actor request (Err BootFault) fits continues one onward
    moves_on actor request (Err BootStopped) fits kept one continues onward err = moves_with actor request (Err BootStopped) fits continues one onward

    -- ---- what is answered

    module _ (actor : Actor) (request : Request) (bytes after : List ℕ) where
      adds : (done : Result Unit StepFault) (receipt : Receipt) (one : AddsOne g old.core new.core actor request done) → TakesLast new.core.entries receipt bytes after → Adds old new actor request one.entry bytes after
      adds done receipt one takes = record {
        actor_is = one.actor_is;
        request_is = one.request_is;
        added = one.added;
        appended = (takes old.core.entries one.entry one.added).1;
      }

      answers_on : (done : Result Unit StepFault) (result : Result Receipt CallFault) → new.fault ≡ kept_of done → OnPlayed done (AddsOne g old.core new.core actor request done) → (done ≡ Err NoMemory → new.core ≡ old.core)
          → IsOutcome new.core.entries done bytes after result → Answers bound old new actor request (bytes, after) result
      answers_on (Ok x) result kept one err o =
          subst (Answers bound old new actor request (bytes, after)) (sym o.1) (may, (one.entry, adds (Ok x) o.0 one o.2, kept, (o.2 old.core.entries one.entry one.added).0))
      answers_on (Err NoMemory) result kept one err o =
          subst (Answers bound old new actor request (bytes, after)) (sym o.0) (may, record { same = same_view old new (err refl) (kept ∙ sym may.went) base; none = o.1 })
      answers_on (Err BootFault) result kept one err o = subst (Answers bound old new actor request (bytes, after)) (sym o.1) (may, (one.entry, adds (Err BootFault) o.0 one o.2), kept)
      answers_on (Err BootStopped) result kept one err o = subst (Answers bound old new actor request (bytes, after)) (sym o.1) (may, (one.entry, adds (Err BootStopped) o.0 one o.2), kept)

    pub played_answer : (call : Asked) (done : Result Unit StepFault) (out after : Buffer) (answer : Result Receipt CallFault × Option Buffer) → Fits call.actor call.request → new.fault ≡ kept_of done → PlaysOne g verdict call old.core new.core done
        → GivesOutcome new.core.entries done out after answer → Answered g verdict bound call (old, out) (new, after) answer
    played_answer call done out after answer fits kept plays gives = record {
      lent = played_given call.taken old.core new.core out.list _ done answer.0 gives.outcome plays.lent;
      moves = moves_on call.actor call.request done fits kept plays.adds plays.continues plays.pins plays.err;
      answers = answers_on call.actor call.request out.list _ done answer.0 kept plays.adds plays.err gives.outcome;
      room = gives.room;
    }
