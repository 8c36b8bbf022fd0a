-- What a step does before it plays: functions are handed in, and what the service represents goes on.
use Rattle.std.proofs.Common.{◌≡◌, ◌≢◌, ◌∙◌, ◌⊎◌, inl, inr, ℕ, eqb, List, [], ◌∷◌, Bool, true, false, ◌&&◌, cond, Option, Some, None, option_map, IsSome, refl, sym, ap, subst}
use Rattle.std.proofs.Common.{ℤ}
use Rattle.std.specs.List.{AllByRecursion}
use Rattle.std.specs.Option.{ForSome}
use Rattle.std.specs.Str.{bytes_eq}
use Rattle.std.proofs.lemmas.Bool.{cases_eq, eq-eqb, ne_eqb}
use Rattle.std.proofs.lemmas.Option.{same_Some}
use Rattle.tbl_kinds.specs.declared.request.Actor.{Actor}
use Rattle.tbl_kinds.specs.declared.request.Request.{Request}
use Rattle.tbl_model.specs.Telemetry.{Question}
use Rattle.tbl_outside.specs.declared.bank.Bank.{Ghosts}
use Rattle.tbl_outside.specs.declared.validator.KitEntry.{KitEntry}
use Rattle.validation.specs.Kits.{entry_at, with_check, Hands}
use Rattle.validation.specs.Asked.{GivesEach}
use Rattle.tbl_fakes.specs.Breaking.{Breaking}
use Rattle.handed_kit.specs.Answering.{Spoken, answer_of, one_verdict, two_verdicts}
use Rattle.tbl_core.specs.Asking.{Asks, StandsOn}
use Rattle.tbl_c.specs.Serving.{Serving, second_of, Said, WillSay}

-- ---- what the service represents

module _ (g : Ghosts Breaking) where
  pub on_on : (a b c : Serving) → StandsOn g a b → StandsOn g b c → StandsOn g a c
  on_on a b c first second = record {
    stands = λ opening past was. second.stands opening past (first.stands opening past was);
    after = λ past was. second.after past (first.after past was);
    bank = second.bank ∙ first.bank;
    ended = second.ended ∙ first.ended;
    played = second.played ∙ first.played;
  }

  pub asked_before : (a b : Serving) (actor : Actor) (request : Request) (questions : List Question) → StandsOn g a b → Asks g b actor request questions → Asks g a actor request questions
  asked_before a b actor request questions on it = record {
    owners = λ may told opening past stands e is_actor is_request. it.owners may told opening past (on.stands opening past stands) e is_actor is_request;
    others = it.others;
  }

-- ---- verdicts

module _ (kit : List (Option (KitEntry Spoken))) where
  -- no more verdicts are given than questions asked
  no_more : (answers : List (Option ℤ)) → GivesEach answer_of kit [] answers → AllByRecursion (λ (a : Option ℤ). a ≡ None) answers
  no_more [] gives = tt
  no_more (None ∷ answers) gives = (refl, no_more answers gives)
  no_more (Some v ∷ answers) gives = absurd gives

  is_given : (found : Option (KitEntry Spoken)) (image : List ℕ) (w v : ℤ) → IsSome found → ForSome found (λ entry. w ≡ answer_of entry.check image) → ForSome found (λ entry. answer_of entry.check image ≡ v) → Some w ≡ Some v
  is_given None image w v there gave will = absurd (cc there)
  is_given (Some entry) image w v there gave will = ap (λ (x : ℤ). Some x) (gave entry refl ∙ will entry refl)

  -- functions that will answer so have answered so
  pub will_have_said : (questions : List Question) (verdicts : List ℤ) (answers : List (Option ℤ)) → WillSay questions verdicts kit → GivesEach answer_of kit questions answers → Said questions verdicts answers
  will_have_said [] verdicts answers will gives = no_more answers gives
  will_have_said (q ∷ []) [] answers will gives = absurd will
  will_have_said (q ∷ []) (v ∷ vs) [] will gives = absurd gives
  will_have_said (q ∷ []) (v ∷ vs) (None ∷ answers) will gives = absurd gives
  will_have_said (q ∷ []) (v ∷ vs) (Some w ∷ answers) will gives = (is_given (entry_at kit q.number) q.image w v gives.0.0 gives.0.1 will, no_more answers gives.1)
  will_have_said (q ∷ r ∷ []) [] answers will gives = absurd will
  will_have_said (q ∷ r ∷ []) (v ∷ []) answers will gives = absurd will
  will_have_said (q ∷ r ∷ []) (v ∷ w ∷ vs) [] will gives = absurd gives
  will_have_said (q ∷ r ∷ []) (v ∷ w ∷ vs) (None ∷ answers) will gives = absurd gives
  will_have_said (q ∷ r ∷ []) (v ∷ w ∷ vs) (Some x ∷ []) will gives = absurd gives.1
  will_have_said (q ∷ r ∷ []) (v ∷ w ∷ vs) (Some x ∷ None ∷ answers) will gives = absurd gives.1
  will_have_said (q ∷ r ∷ []) (v ∷ w ∷ vs) (Some x ∷ Some y ∷ answers) will gives = (
    is_given (entry_at kit q.number) q.image x v gives.0.0 gives.0.1 will.0,
    is_given (entry_at kit r.number) r.image y (second_of q r v w) gives.1.0.0 gives.1.0.1 will.1,
    no_more answers gives.1.1,
  )
  will_have_said (q ∷ r ∷ s ∷ more) verdicts answers will gives = absurd will

-- ---- functions that are handed in

same_bytes : (bytes : List ℕ) → bytes_eq bytes bytes ≡ true
same_bytes [] = refl
same_bytes (x ∷ bytes) = rw (eq-eqb x x refl) (same_bytes bytes)

module _ (number : ℕ) (check : Spoken) (old new : List (Option (KitEntry Spoken))) (hands : Hands number check old new) where
  stood : (P : Spoken → Type 0) → P check → (found : Option (KitEntry Spoken)) → ForSome (option_map (with_check check) found) (λ entry. P entry.check)
  stood P holds None = λ entry is. absurd (cc is)
  stood P holds (Some e) = λ entry is. subst (λ (it : KitEntry Spoken). P it.check) (same_Some (with_check check e) entry is) holds

  -- what has the number is this function
  pub stands_there : (P : Spoken → Type 0) → P check → ForSome (entry_at new number) (λ entry. P entry.check)
  stands_there P holds = subst (λ (found : Option (KitEntry Spoken)). ForSome found (λ entry. P entry.check)) (sym hands.this) (stood P holds (entry_at old number))

pub will_say_two : (q r : Question) (v w : ℤ) (vs : List ℤ) (old mid new : List (Option (KitEntry Spoken))) → Hands r.number (one_verdict w) old mid → Hands q.number (two_verdicts q.image v w) mid new → WillSay (q ∷ r ∷ []) (v ∷ w ∷ vs) new
will_say_two q r v w vs old mid new first second = (
  stands_there q.number (two_verdicts q.image v w) mid new second (λ check. answer_of check q.image ≡ v) (rw (same_bytes q.image) refl),
  elim (cases_eq r.number q.number) [
    | inl here ↦ rw here (stands_there q.number (two_verdicts q.image v w) mid new second (λ check. answer_of check r.image ≡ cond (eqb q.number q.number && bytes_eq q.image r.image) v w) (rw (eq-eqb q.number q.number refl) refl))
    | inr other ↦ rw (second.others r.number other) (stands_there r.number (one_verdict w) old mid first (λ check. answer_of check r.image ≡ second_of q r v w) (rw (ne_eqb q.number r.number (λ is. other (sym is))) refl))
  ],
)
