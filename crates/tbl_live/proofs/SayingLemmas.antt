-- What a call gives its caller, by what it did under the lock.
use Rattle.std.proofs.Common.{◌≡◌, ℕ, ◌<◌, ◌≤◌, List, [], ◌∷◌, ◌++◌, length, length-append, Option, Some, None, Ok, Err, refl, sym, ap, ◌∙◌, subst, arith, ℤ}
use Rattle.std.specs.Prelude.{Result}
use Rattle.std.specs.List.{AllByRecursion}
use Rattle.atomic_table.specs.Seated.{TableId}
use Rattle.tbl_kinds.specs.Buffers.{Buffer}
use Rattle.tbl_kinds.specs.Records.{actor_number}
use Rattle.tbl_kinds.specs.declared.entry.Entry.{Entry}
use Rattle.tbl_kinds.specs.declared.request.Actor.{Actor}
use Rattle.tbl_kinds.specs.declared.request.Request.{Request}
use Rattle.tbl_outside.specs.declared.bank.Bank.{Ghosts}
use Rattle.tbl_core.specs.declared.service.StepFault.{StepFault}
use Rattle.tbl_live.specs.Answers.{MayStep, Adds, Refuses, Answers, KeepsRoom}
use Rattle.tbl_live.specs.Bounds.{Bound}
use Rattle.tbl_live.specs.Calls.{Call, call_of, own}
use Rattle.tbl_live.specs.Moves.{Moves}
use Rattle.tbl_live.specs.Saying.{AddsCall, Stays, Told, GoesOn, Says, CallsNothing}
use Rattle.tbl_live.specs.Seats.{SeatView, IsSame, TellsLast}
use Rattle.tbl_live.specs.ServedView.{ServedView}
use Rattle.tbl_live.specs.declared.receipts.CallFault.{CallFault}
use Rattle.tbl_live.specs.declared.receipts.CallFault.TheVariants.{Ended, Full, Step, Memory}
use Rattle.tbl_live.specs.declared.receipts.Receipt.{Receipt}
use Rattle.tbl_live.proofs.OwnLemmas.{own_mine, below}
use Rattle.tbl_live.proofs.FollowingLemmas.{Follows, extends_length, longer}

-- what is no fault is none
none_of : (met : Option StepFault) → ((fault : StepFault) → met ≡ Some fault → ⊥) → met ≡ None
none_of None not_one = refl
none_of (Some fault) not_one = absurd (not_one fault refl)

module _ {B C : Type 0} (g : Ghosts B) (verdict : C → List ℕ → ℤ) (bound : Bound) (of : TableId) (actor : Actor) (saw : ℕ) (met : Option StepFault) (x y z : ServedView B C) (past : x.base ≤ length x.core.entries) (last : TellsLast saw met x)
    (follows : Follows (actor_number actor) x y) (moves : Moves g verdict y (actor_number actor) z) where
  -- the seat before, and after
  abbrev old : SeatView B C
  old = record { of = of; actor = actor; seen = x ∷ []; calls = own x.base (actor_number actor) x.core.entries; saw = saw; met = met }

  abbrev new : SeatView B C
  new = record { of = of; actor = actor; seen = z ∷ []; calls = own z.base (actor_number actor) z.core.entries; saw = length z.core.entries; met = z.fault }

  bases : z.base ≡ x.base
  bases = moves.base ∙ follows.base

  past_y : x.base ≤ length y.core.entries
  past_y = subst (λ (n : ℕ). n ≤ length y.core.entries) follows.base moves.past

  still_same : IsSame old new
  still_same = record { of_it = refl; actor_is = refl }

  calls_stay : z ≡ y → new.calls ≡ old.calls
  calls_stay same = ap (λ (n : ℕ). own n (actor_number actor) z.core.entries) bases ∙ ap (λ (v : ServedView B C). own x.base (actor_number actor) v.core.entries) same ∙ follows.calls

  goes_on : GoesOn old new
  goes_on = record {
    saw = let first = extends_length x.core.entries y.core.entries follows.extends in let then = longer g verdict (actor_number actor) y z moves in let at_most = last.saw_at_most in omega (arith, at_most, first, then);
    met = λ fault is. moves.fault fault (follows.fault fault (sym last.met_is ∙ is));
    pins = λ pin is. moves.pins pin (follows.pins pin is);
  }

  pub calls_nothing : z ≡ y → CallsNothing old new
  calls_nothing same = record { same = still_same; calls = calls_stay same; goes_on = goes_on }

  module _ (request : Request) (out after : Buffer) where
    adds : (e : Entry) → MayStep bound.limit y.fault y.core → Adds y z actor request e out.list after.list → AddsCall bound.limit old new request (call_of (length y.core.entries) e) out.list after.list
    adds e may one = record {
      added = ap (λ (n : ℕ). own n (actor_number actor) z.core.entries) bases ∙ ap (own x.base (actor_number actor)) one.added
          ∙ own_mine x.base (actor_number actor) y.core.entries e past_y (ap actor_number one.actor_is) ∙ ap (λ (l : List Call). l ++ call_of (length y.core.entries) e ∷ []) follows.calls;
      request_is = one.request_is;
      above = subst (AllByRecursion (λ (c : Call). c.place < length y.core.entries)) follows.calls (below x.base (actor_number actor) y.core.entries past_y);
      room = may.room;
      saw = ap length one.added ∙ length-append y.core.entries (e ∷ []);
      appended = one.appended;
    }

    stays : Refuses y z out.list after.list → Stays old new out.list after.list
    stays no_one = record {
      calls = calls_stay no_one.same;
      none = no_one.none;
    }

    still_fault : z ≡ y → z.fault ≡ y.fault
    still_fault same = ap (λ (v : ServedView B C). v.fault) same

    still_count : z ≡ y → length z.core.entries ≡ length y.core.entries
    still_count same = ap (λ (v : ServedView B C). length v.core.entries) same

    -- no fault was met before
    none_met : y.fault ≡ None → met ≡ None
    none_met went = none_of met (λ fault is. let there = follows.fault fault (sym last.met_is ∙ is) in absurd (cc (went, there)))

    told : (result : Result Receipt CallFault) → Answers bound y z actor request (out.list, after.list) result → Told bound old new request out.list after.list result
    told (Ok receipt) (may, (e, one, no_fault, is)) = (call_of (length y.core.entries) e, adds e may one, is ∙ (λ i. record { place = length y.core.entries; actor = one.actor_is i; status = e.reply.status; detail = e.reply.detail }), no_fault)
    told (Err (Ended fault)) a = (stays a.1, still_fault a.1.same ∙ a.0)
    told (Err (Full count)) a = (stays a.1, still_fault a.1.same ∙ a.0.0, subst (λ (v : ServedView B C). bound.full (length v.core.entries) v.core.state.tables count) (sym a.1.same) a.0.1)
    told (Err (Step fault)) (may, (e, one), is) = ((call_of (length y.core.entries) e, adds e may one), none_met may.went, is)
    told (Err Memory) a = (stays a.1, still_fault a.1.same ∙ a.0.went, let same = still_count a.1.same in let room = a.0.room in omega (arith, same, room))

    pub says : (result : Result Receipt CallFault) → Answers bound y z actor request (out.list, after.list) result → KeepsRoom out after → Says bound old new request out after result
    says result a room = record { same = still_same; told = told result a; goes_on = goes_on; room = room }
