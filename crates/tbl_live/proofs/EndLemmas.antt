-- What each seat says in the end.
use Rattle.std.proofs.Common.{◌≡◌, ◌≢◌, ℕ, zero, suc, ◌+◌, ◌<◌, List, [], ◌∷◌, length, Option, Some, refl, sym, ◌∙◌, subst, arith, ℤ}
use mathlib.Core.Option.{some}
use lib.ListN.{get_elem?}
use Rattle.turn_lock.specs.Turns.{Since, Knows, Leads}
use Rattle.turn_lock.proofs.Lists.{there}
use Rattle.tbl_session.specs.Actors.{actor_count}
use Rattle.tbl_outside.specs.declared.bank.Bank.{Ghosts}
use Rattle.tbl_core.specs.declared.service.StepFault.{StepFault}
use Rattle.tbl_live.specs.Calls.{own}
use Rattle.tbl_live.specs.Moves.{Moves}
use Rattle.tbl_live.specs.Seats.{SeatView, IsOf, AreOf, TellsOf}
use Rattle.tbl_live.specs.ServedView.{ServedView, TellsFault, IsServed}
use Rattle.tbl_live.proofs.FollowingLemmas.{Follows, follows, goes, extends_length}

there_is : {A : Type 0} (l : List A) (i : ℕ) → i < length l → (x : A) × (get_elem? l i ≡ some x)
there_is [] i lt = absurd (omega (arith, lt))
there_is (x ∷ l) zero lt = (x, refl)
there_is (x ∷ l) (suc i) lt = there_is l i (omega (arith, lt))

module _ {B C : Type 0} (g : Ghosts B) (verdict : C → List ℕ → ℤ) (limit : ℕ) (first last : ServedView B C) (seen : List (ServedView B C)) (seats : List (SeatView B C)) (since : Since (Moves g verdict) first last) (knows : Knows (Moves g verdict) 0 seen last)
    (each : AreOf 0 seen seats) (many : length seen ≡ actor_count) (count : length seats ≡ actor_count) (served : IsServed limit last) where
  pub tells : (number : ℕ) (seat : SeatView B C) → get_elem? seats number ≡ some seat → TellsOf first.base last.core seat
  tells number seat at =
      let x = there_is seen number (omega (arith, many, count, there seats number seat at)) in
      let p : zero + number ≡ number = omega arith in
      let is : IsOf number x.0 seat = subst (λ (n : ℕ). IsOf n x.0 seat) p (each number x.0 seat x.1 (subst (λ (n : ℕ). get_elem? seats n ≡ some seat) (sym p) at)) in
      let l : Leads (Moves g verdict) (λ other. other ≢ number) x.0 last = subst (λ (n : ℕ). Leads (Moves g verdict) (λ other. other ≢ n) x.0 last) p (knows number x.0 x.1) in
      let f : Follows number x.0 last = follows g verdict number x.0 last l in
      let bases : last.base ≡ first.base = (goes g verdict first last since).base in
      let base : x.0.base ≡ first.base = sym f.base ∙ bases in
      let more = extends_length x.0.core.entries last.core.entries f.extends in
      let saw = is.tells.saw_at_most in
      record {
        calls = is.calls ∙ sym f.calls ∙ (λ i. own (base i) (sym is.number i) last.core.entries);
        saw = omega (arith, saw, more);
        met = λ fault m. subst (λ (b : ℕ). TellsFault (Some fault) b last.core) bases (subst (λ (o : Option StepFault). TellsFault o last.base last.core) (f.fault fault (sym is.tells.met_is ∙ m)) served.tells);
      }
