-- What stays over turns.
use Rattle.std.proofs.Common.{◌≡◌, ◌≢◌, ℕ, ◌≤◌, List, [], ◌∷◌, ◌++◌, length, length-append, Some, refl, sym, ap, ◌∙◌, subst, ⊎_elim, arith, ℤ}
use Rattle.std.specs.List.{AllByRecursion}
use Rattle.std.proofs.lemmas.List.{append-nil, append_assoc}
use Rattle.tbl_kinds.specs.Records.{actor_number}
use Rattle.tbl_kinds.specs.declared.entry.Entry.{Entry}
use Rattle.tbl_outside.specs.declared.bank.Bank.{Ghosts}
use Rattle.tbl_history.specs.Serving.{Continues}
use Rattle.tbl_history.proofs.ServingLemmas.{continues_same, then_continues}
use Rattle.tbl_registry.specs.declared.pin.Pin.{Pin}
use Rattle.tbl_core.specs.Service.{IsOfPin}
use Rattle.tbl_core.specs.declared.service.StepFault.{StepFault}
use Rattle.turn_lock.specs.Turns.{Leads}
use Rattle.turn_lock.proofs.Paths.{carried}
use Rattle.tbl_live.specs.Calls.{own}
use Rattle.tbl_live.specs.Moves.{IsFit, Grows, Moves, Extends}
use Rattle.tbl_live.specs.ServedView.{ServedView}
use Rattle.tbl_live.proofs.OwnLemmas.{own_other}

-- ---- a history that grows

pub extends_itself : (xs : List Entry) → Extends xs xs
extends_itself xs = record { more = []; parts = sym (append-nil xs); fit = tt }

all_push : (es : List Entry) (e : Entry) → AllByRecursion IsFit es → IsFit e → AllByRecursion IsFit (es ++ e ∷ [])
all_push [] e all one = (one, tt)
all_push (x ∷ es) e all one = (all.0, all_push es e all.1 one)

extends_on : (xs ys zs : List Entry) (actor : ℕ) → Extends xs ys → Grows actor ys zs → Extends xs zs
extends_on xs ys zs actor was grows = ⊎_elim
    (λ (s : zs ≡ ys). record { more = was.more; parts = s ∙ was.parts; fit = was.fit })
    (λ (s : (e : Entry) × (actor_number e.actor ≡ actor) × IsFit e × (zs ≡ ys ++ e ∷ [])).
    record { more = was.more ++ s.0 ∷ []; parts = s.3 ∙ ap (λ (l : List Entry). l ++ s.0 ∷ []) was.parts ∙ append_assoc xs was.more (s.0 ∷ []); fit = all_push was.more s.0 was.fit s.2 })
    grows

pub extends_length : (xs ys : List Entry) → Extends xs ys → length xs ≤ length ys
extends_length xs ys was = omega (arith, ap length was.parts, length-append xs was.more)

-- ---- turns

-- turns of others alone lead from the one to the other
pub record Follows {B C : Type 0} (actor : ℕ) (x y : ServedView B C) : Type 0 where
  pub base : y.base ≡ x.base
  pub calls : own x.base actor y.core.entries ≡ own x.base actor x.core.entries
  pub extends : Extends x.core.entries y.core.entries
  pub fault : (fault : StepFault) → x.fault ≡ Some fault → y.fault ≡ Some fault
  pub pins : (pin : Pin) → IsOfPin pin x.core → IsOfPin pin y.core

-- turns of whomever
pub record Goes {B C : Type 0} (g : Ghosts B) (verdict : C → List ℕ → ℤ) (x y : ServedView B C) : Type 0 where
  pub base : y.base ≡ x.base
  pub extends : Extends x.core.entries y.core.entries
  pub continues : Continues g verdict x.core y.core

module _ {B C : Type 0} (g : Ghosts B) (verdict : C → List ℕ → ℤ) where
  abbrev Moved : ServedView B C → ℕ → ServedView B C → Type 0
  Moved old actor new = Moves g verdict old actor new

  follows_itself : (actor : ℕ) (x : ServedView B C) → Follows actor x x
  follows_itself actor x = record { base = refl; calls = refl; extends = extends_itself x.core.entries; fault = λ f e. e; pins = λ pin is. is }

  follows_on : (actor : ℕ) (x y z : ServedView B C) (other : ℕ) → other ≢ actor → Follows actor x y → Moved y other z → Follows actor x z
  follows_on actor x y z other ne f m =
      let past : x.base ≤ length y.core.entries = subst (λ (n : ℕ). n ≤ length y.core.entries) f.base m.past in
      record {
        base = m.base ∙ f.base;
        calls = ⊎_elim
            (λ (s : z.core.entries ≡ y.core.entries). ap (own x.base actor) s ∙ f.calls)
            (λ (s : (e : Entry) × (actor_number e.actor ≡ other) × IsFit e × (z.core.entries ≡ y.core.entries ++ e ∷ [])).
            ap (own x.base actor) s.3 ∙ own_other x.base actor y.core.entries s.0 past (λ same. ne (sym s.1 ∙ same)) ∙ f.calls)
            m.grows;
        extends = extends_on x.core.entries y.core.entries z.core.entries other f.extends m.grows;
        fault = λ h e. m.fault h (f.fault h e);
        pins = λ pin is. m.pins pin (f.pins pin is);
      }

  pub follows : (actor : ℕ) (x y : ServedView B C) → Leads Moved (λ other. other ≢ actor) x y → Follows actor x y
  follows actor x y l = carried Moved (λ other. other ≢ actor) (Follows actor x) (λ y' z' other ne f m. follows_on actor x y' z' other ne f m) x y l (follows_itself actor x)

  goes_on : (x y z : ServedView B C) (other : ℕ) → Goes g verdict x y → Moved y other z → Goes g verdict x z
  goes_on x y z other was m = record {
    base = m.base ∙ was.base;
    extends = extends_on x.core.entries y.core.entries z.core.entries other was.extends m.grows;
    continues = then_continues g verdict x.core y.core z.core was.continues m.continues;
  }

  pub goes : (x y : ServedView B C) → Leads Moved (λ _. Unit {0}) x y → Goes g verdict x y
  goes x y l = carried Moved (λ _. Unit {0}) (Goes g verdict x) (λ y' z' other _ was m. goes_on x y' z' other was m) x y l
      (record { base = refl; extends = extends_itself x.core.entries; continues = continues_same g verdict x.core })

  pub longer : (actor : ℕ) (x y : ServedView B C) → Moved x actor y → length x.core.entries ≤ length y.core.entries
  longer actor x y m = extends_length x.core.entries y.core.entries (extends_on x.core.entries x.core.entries y.core.entries actor (extends_itself x.core.entries) m.grows)
