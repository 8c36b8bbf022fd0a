-- A call by a seat, from the seat before to the seat after.
use Rattle.std.proofs.Common.{◌≡◌, ◌≢◌, ℕ, ◌+◌, List, [], ◌∷◌, length, Option, refl, sym, ap, ◌∙◌, subst, arith, ℤ}
use Rattle.std.specs.Prelude.{Result, IfSome}
use Rattle.atomic_table.specs.Seated.{TableId}
use Rattle.atomic_table.specs.Table.{Me}
use Rattle.turn_lock.specs.Turns.{Idle, Holds, Knows, Leads}
use Rattle.turn_lock.specs.declared.rule.View.{View}
use Rattle.tbl_kinds.specs.Buffers.{Buffer}
use Rattle.tbl_kinds.specs.Records.{actor_number}
use Rattle.tbl_kinds.specs.declared.request.Actor.{Actor}
use Rattle.tbl_kinds.specs.declared.request.Request.{Request}
use Rattle.tbl_outside.specs.declared.bank.Bank.{Ghosts}
use Rattle.tbl_core.specs.declared.service.StepFault.{StepFault}
use Rattle.tbl_live.specs.Answers.{Answers, KeepsRoom}
use Rattle.tbl_live.specs.Bounds.{Bound}
use Rattle.tbl_live.specs.Moves.{Moves}
use Rattle.tbl_registry.specs.declared.pin.Pin.{Pin}
use Rattle.tbl_core.specs.Service.{IsOfPin}
use Rattle.tbl_live.specs.Cores.{IsTaken}
use Rattle.tbl_live.specs.Lent.{IsLentIn, IsTakenFor, CallGives, IsGivenIn}
use Rattle.tbl_live.specs.Saying.{Says, CallsNothing}
use Rattle.tbl_live.specs.Seats.{SeatView, IsSeat, seat_of}
use Rattle.tbl_live.specs.ServedView.{ServedView}
use Rattle.tbl_live.specs.declared.cores.Taken.{Taken}
use Rattle.tbl_live.specs.declared.receipts.CallFault.{CallFault}
use Rattle.tbl_live.specs.declared.receipts.Receipt.{Receipt}
use Rattle.tbl_live.proofs.FollowingLemmas.{follows, longer}
use Rattle.tbl_live.proofs.GivingLemmas.{on_some}
use Rattle.tbl_live.proofs.SayingLemmas.{says, calls_nothing}

module _ {B C : Type 0} (g : Ghosts B) (verdict : C → List ℕ → ℤ) (bound : Bound) (me taken : Me (Option (ServedView B C)) (View (ServedView B C))) (actor : Actor) (saw : ℕ) (met : Option StepFault) (y : ServedView B C)
    (inv : IsSeat me actor saw met) (knows : Knows (Moves g verdict) me.0.from me.0.seen y) (holds : Holds taken me.0.from me.0.seen y) where
  led : Leads (Moves g verdict) (λ other. other ≢ actor_number actor) inv.last y
  led =
      let k : Knows (Moves g verdict) (actor_number actor) (inv.last ∷ []) y = subst (λ (m : Me (Option (ServedView B C)) (View (ServedView B C))). Knows (Moves g verdict) m.0.from m.0.seen y) inv.idle knows in
      let p : actor_number actor + 0 ≡ actor_number actor = omega arith in
      subst (λ (n : ℕ). Leads (Moves g verdict) (λ other. other ≢ n) inv.last y) p (k 0 inv.last refl)

  seen_is : me.0.seen ≡ inv.last ∷ []
  seen_is = ap (λ (m : Me (Option (ServedView B C)) (View (ServedView B C))). m.0.seen) inv.idle

  -- what was lent to the seat's holder is lent still
  still_lent : (pin : Pin) → IsLentIn me.0.seen pin → IsOfPin pin y.core
  still_lent pin is = (follows g verdict (actor_number actor) inv.last y led).pins pin (subst (λ (seen : List (ServedView B C)). IsLentIn seen pin) seen_is is)

  -- and what was taken of it are the bytes that the request asks for
  pub still_taken : (of : TableId) (request : Request) (found : Option Taken) → IfSome found (IsTakenFor (seat_of of actor me.0.seen saw met) request) → IfSome found (IsTaken request y.core)
  still_taken of request found is = on_some {P = IsTakenFor (seat_of of actor me.0.seen saw met) request} {Q = IsTaken request y.core} (λ taken both. (still_lent taken.pin.now both.0, both.1)) found is

  -- the turn that was taken is the actor's
  pub taken_from : taken.0.from ≡ actor_number actor
  taken_from = ap (λ (m : Me (Option (ServedView B C)) (View (ServedView B C))). m.0.from) holds ∙ ap (λ (m : Me (Option (ServedView B C)) (View (ServedView B C))). m.0.from) inv.idle

  module _ (z : ServedView B C) (back : Me (Option (ServedView B C)) (View (ServedView B C))) (moves : Moves g verdict y (actor_number actor) z) (idle : Idle back taken.0.from (z ∷ [])) where
    back_is : Idle back (actor_number actor) (z ∷ [])
    back_is = subst (λ (n : ℕ). Idle back n (z ∷ [])) taken_from idle

    back_seen : back.0.seen ≡ z ∷ []
    back_seen = ap (λ (m : Me (Option (ServedView B C)) (View (ServedView B C))). m.0.seen) back_is

    pub seat_after : (saw' : ℕ) (met' : Option StepFault) → saw' ≡ length z.core.entries → met' ≡ z.fault → IsSeat back actor saw' met'
    seat_after saw' met' saw_is met_is = record {
      last = z;
      idle = back_is;
      past = let base = moves.base in let past = moves.past in let more = longer g verdict (actor_number actor) y z moves in omega (arith, base, past, more);
      tells = record { saw_at_most = omega (arith, saw_is); met_is = met_is };
    }

    -- what was taken of a lent image is what the call gives
    given : (result : Result Receipt CallFault) (taken : Taken) → CallGives result y.core z.core taken → IsGivenIn g verdict (actor_number actor) result me.0.seen back.0.seen taken
    given result taken gives = rw (seen_is, back_seen) (record { found = y; beside = led; gives = gives })

    pub is_given : (ahead : Option Taken) (result : Result Receipt CallFault) → IfSome ahead (CallGives result y.core z.core) → IfSome ahead (IsGivenIn g verdict (actor_number actor) result me.0.seen back.0.seen)
    is_given ahead result is = on_some {P = CallGives result y.core z.core} {Q = IsGivenIn g verdict (actor_number actor) result me.0.seen back.0.seen} (λ taken gives. given result taken gives) ahead is

    pub called : (of of' : TableId) (saw' : ℕ) (met' : Option StepFault) (request : Request) (out after : Buffer) (result : Result Receipt CallFault) → of' ≡ of → saw' ≡ length z.core.entries → met' ≡ z.fault
        → Answers bound y z actor request (out.list, after.list) result → KeepsRoom out after → Says bound (seat_of of actor me.0.seen saw met) (seat_of of' actor back.0.seen saw' met') request out after result
    called of of' saw' met' request out after result of_is saw_is met_is answers room =
        let said = says g verdict bound of actor saw met inv.last y z inv.past inv.tells (follows g verdict (actor_number actor) inv.last y led) moves request out after result answers room in
        let old_is : seat_of of actor me.0.seen saw met ≡ seat_of of actor (inv.last ∷ []) saw met = ap (λ (s : List (ServedView B C)). seat_of of actor s saw met) seen_is in
        let new_is : seat_of of' actor back.0.seen saw' met' ≡ seat_of of actor (z ∷ []) (length z.core.entries) z.fault = λ i. seat_of (of_is i) actor (back_seen i) (saw_is i) (met_is i) in
        subst (λ (p : SeatView B C × SeatView B C). Says bound p.0 p.1 request out after result) (λ i. (sym old_is i, sym new_is i)) said

    pub looked : (of of' : TableId) (saw' : ℕ) (met' : Option StepFault) → of' ≡ of → saw' ≡ length z.core.entries → met' ≡ z.fault → z ≡ y → CallsNothing (seat_of of actor me.0.seen saw met) (seat_of of' actor back.0.seen saw' met')
    looked of of' saw' met' of_is saw_is met_is same =
        let told = calls_nothing g verdict bound of actor saw met inv.last y z inv.past inv.tells (follows g verdict (actor_number actor) inv.last y led) moves same in
        let old_is : seat_of of actor me.0.seen saw met ≡ seat_of of actor (inv.last ∷ []) saw met = ap (λ (s : List (ServedView B C)). seat_of of actor s saw met) seen_is in
        let new_is : seat_of of' actor back.0.seen saw' met' ≡ seat_of of actor (z ∷ []) (length z.core.entries) z.fault = λ i. seat_of (of_is i) actor (back_seen i) (saw_is i) (met_is i) in
        subst (λ (p : SeatView B C × SeatView B C). CallsNothing p.0 p.1) (λ i. (sym old_is i, sym new_is i)) told
