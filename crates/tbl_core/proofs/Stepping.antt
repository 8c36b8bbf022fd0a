-- One step of the engine, over every past that it may have played.
use Rattle.std.proofs.Common.{◌≡◌, ◌∙◌, ◌≤◌, ℕ, List, [], ◌∷◌, ◌++◌, Bool, true, false, Result, Ok, Err, refl, sym, subst, arith}
use Rattle.std.specs.Prelude.{All, OnOk, if◌then◌else◌}
use Rattle.std.proofs.lemmas.List.Elements.{All-push}
use Rattle.tbl_kinds.specs.declared.entry.Entry.{Entry}
use Rattle.tbl_kinds.specs.declared.request.Actor.{Actor}
use Rattle.tbl_kinds.specs.declared.request.Request.{Request}
use Rattle.tbl_laws.proofs.VouchedLaws.{vouched}
use Rattle.tbl_laws.proofs.WholeLaws.{whole}
use Rattle.tbl_laws.proofs.BackedLaws.{backed}
use Rattle.tbl_core.specs.Ended.{OnPlayed}
use Rattle.tbl_core.specs.Log.{IsSmall}
use Rattle.tbl_core.specs.Engine.{Steps, Enters}
use Rattle.tbl_core.specs.Entering.{IsKept, Advances, AdvancesLent}
use Rattle.tbl_core.specs.Lent.{StillPins, LastGives}
use Rattle.tbl_kinds.specs.Buffers.{Buffer}
use Rattle.tbl_registry.specs.declared.pin.Pin.{Pin}
use Rattle.tbl_core.specs.Stepped.{Stepped}
use Rattle.tbl_core.specs.Service.{CoreView, EngineView, core_of, IsAfter, PinsOnward, Plays}
use Rattle.tbl_core.specs.declared.service.StepFault.{StepFault}
use Rattle.tbl_core.specs.declared.service.StepFault.TheVariants.{Memory, BootFault, BootStopped}
use Rattle.tbl_core.proofs.Crashing.{moments_of, crash, completed}
use Rattle.tbl_core.proofs.Keeping.{keeps}
use Rattle.tbl_core.proofs.Steps.{plays_on, on_played}
use Rattle.tbl_core.proofs.Vouching.{vouches_on}
use Rattle.tbl_outside.specs.declared.bank.Bank.{Ghosts}
use Rattle.tbl_outside.specs.declared.validator.Validator.{Ghosts as ValidatorGhosts}

-- a note by which a step goes on
abbrev ends_so : Bool → Bool → Result Unit StepFault
ends_so ended stopped = if ended then (if stopped then Err BootStopped else Err BootFault) else Ok tt

goes_so : (x : Unit {0}) (ended stopped : Bool) → Ok x ≡ ends_so ended stopped → ended ≡ false
goes_so x false stopped is = refl
goes_so x true true is = absurd (cc is)
goes_so x true false is = absurd (cc is)

module _ {B C : Type 0} (g : Ghosts B) (v : ValidatorGhosts C) (tells_both : g.tells_moments → g.tells) (leaves_now : (bank : B) → g.tells_moments → g.may_leave bank (g.now bank))
    (counts_now : (bank : B) (t : ℕ) (image : List ℕ) → g.tells_moments → t ≤ g.clock bank → g.may_leave bank image → g.left_since bank t image)
    (old new : EngineView B C) (actor : Actor) (request : Request) (e : Entry) (result : Result Unit StepFault) (p : Plays g v old new (actor, request) e result) where
  with_past : (past : List Entry) → Stepped g v (core_of past old) (core_of (past ++ e ∷ []) new) (actor, request) e result
  with_past past = record {
    adds = record { actor_is = p.actor_is; request_is = p.request_is; added = refl; ended = p.ended; ends = p.ends; trouble = p.trouble; cause = p.cause; small = p.small };
    legal = λ opening stood. plays_on g v old new actor request e result p opening past stood;
    whole = λ told opening none none_pending stood. whole opening _ _ none none_pending ((plays_on g v old new actor request e result p opening past stood).legal told);
    backed = λ told opening none single stood. backed opening _ _ none single ((plays_on g v old new actor request e result p opening past stood).legal told);
    judged = λ told opening stood. p.judged told _ (stood.shows told);
    vouched = λ told opening none none_pending stood. vouched opening _ _ none none_pending ((plays_on g v old new actor request e result p opening past stood).legal told);
    verdicts = λ opening given stood. vouches_on v g old new actor request e result p opening past given stood;
    kept = λ told opening given stood. keeps v.verdict given opening _ ((vouches_on v g old new actor request e result p opening past given stood).verdicts told);
    gave = λ told opening stood. p.gave told _ (stood.shows told);
    bank_asked = λ told opening stood. p.bank_asked told _ (stood.shows told);
    crash = λ moments opening stood. crash g v old new actor request e result p opening past stood tells_both moments;
    completed = λ moments opening stood. completed g v old new actor request e result p opening past stood tells_both moments;
    left = λ moments opening stood.
        let step = moments_of g v old new actor request e result p opening past stood tells_both moments in
        step.keeps _ _ (omega arith) (counts_now _ _ _ moments (omega arith) (leaves_now _ moments));
  }

  pub all_steps : Steps g v old new (actor, request) e result
  all_steps = record { after = p.after; stepped = with_past; pins = p.pins }

-- the service goes on after a step that ends so
pub still_live : {B C : Type 0} (g : Ghosts B) (v : ValidatorGhosts C) (old new : EngineView B C) (actor : Actor) (request : Request) (e : Entry) (result : Result Unit StepFault) → OnPlayed result (Plays g v old new (actor, request) e result) → OnOk result (new.state.ended ≡ false)
still_live g v old new actor request e (Ok x) p = p.ended ∙ goes_so x e.given.note.ended e.given.note.stopped p.ends
still_live g v old new actor request e (Err fault) p = tt

-- ---- a core, which keeps the past as its log

-- the log is still what the engine played, also if memory ran out
pub still_after : {B C : Type 0} (g : Ghosts B) (v : ValidatorGhosts C) (log entries : List Entry) (old new : EngineView B C) (actor : Actor) (request : Request) (result : Result Unit StepFault)
    → OnPlayed result (Enters (λ x. Steps g v old new (actor, request) x result) log entries) → (result ≡ Err Memory → entries ≡ log) → (result ≡ Err Memory → new ≡ old) → IsAfter log old → IsAfter entries new
still_after g v log entries old new actor request (Ok x) d same_log same was = subst (λ (es : List Entry). IsAfter es new) (sym d.1) (d.2.after log was)
still_after g v log entries old new actor request (Err BootFault) d same_log same was = subst (λ (es : List Entry). IsAfter es new) (sym d.1) (d.2.after log was)
still_after g v log entries old new actor request (Err BootStopped) d same_log same was = subst (λ (es : List Entry). IsAfter es new) (sym d.1) (d.2.after log was)
still_after g v log entries old new actor request (Err Memory) d same_log same was = subst (λ (es : List Entry). IsAfter es new) (sym (same_log refl)) (subst (IsAfter log) (sym (same refl)) was)

-- and each of its entries is small
pub still_small : {B C : Type 0} (g : Ghosts B) (v : ValidatorGhosts C) (log entries : List Entry) (old new : EngineView B C) (actor : Actor) (request : Request) (result : Result Unit StepFault)
    → OnPlayed result (Enters (λ x. Steps g v old new (actor, request) x result) log entries) → (result ≡ Err Memory → entries ≡ log) → All IsSmall log → All IsSmall entries
still_small g v log entries old new actor request (Ok x) d same was = subst (All IsSmall) (sym d.1) (All-push IsSmall log d.0 was (d.2.stepped log).adds.small)
still_small g v log entries old new actor request (Err BootFault) d same was = subst (All IsSmall) (sym d.1) (All-push IsSmall log d.0 was (d.2.stepped log).adds.small)
still_small g v log entries old new actor request (Err BootStopped) d same was = subst (All IsSmall) (sym d.1) (All-push IsSmall log d.0 was (d.2.stepped log).adds.small)
still_small g v log entries old new actor request (Err Memory) d same was = subst (All IsSmall) (sym (same refl)) was

module _ {B C : Type 0} (g : Ghosts B) (v : ValidatorGhosts C) (log entries : List Entry) (old new : EngineView B C) (actor : Actor) (request : Request) (result : Result Unit StepFault)
    (d : Enters (λ x. Steps g v old new (actor, request) x result) log entries) where
  pub stepped : (x : Entry) × Stepped g v (core_of log old) (core_of entries new) (actor, request) x result
  stepped = (d.0, subst (λ (es : List Entry). Stepped g v (core_of log old) (core_of es new) (actor, request) d.0 result) (sym d.1) (d.2.stepped log))

  pub pins : IsAfter log old → PinsOnward (core_of log old) (core_of entries new)
  pins was = subst (λ (es : List Entry). PinsOnward (core_of log old) (core_of es new)) (sym d.1) (d.2.pins log was)

-- what a step promises of a core whose log has one entry more, or none if memory ran out
module _ {B C : Type 0} (g : Ghosts B) (v : ValidatorGhosts C) (log entries : List Entry) (old new : EngineView B C) (actor : Actor) (request : Request) (result : Result Unit StepFault)
    (d : OnPlayed result (Enters (λ x. Steps g v old new (actor, request) x result) log entries)) (same_log : result ≡ Err Memory → entries ≡ log) (same : result ≡ Err Memory → new ≡ old) (was : IsKept log old) where
  advances : OnOk result (new.state.ended ≡ false) → Advances g v (core_of log old) (core_of entries new) (actor, request) result
  advances live = record {
    stepped = on_played result (stepped g v log entries old new actor request result) d;
    pins = on_played result (λ x. pins g v log entries old new actor request result x was.after) d;
    live = live;
    err = λ none. λ i. core_of (same_log none i) (same none i);
  }

  still_kept : IsKept entries new
  still_kept = record {
    after = still_after g v log entries old new actor request result d same_log same was.after;
    small = still_small g v log entries old new actor request result d same_log was.small;
  }

  pub entered : OnOk result (new.state.ended ≡ false) → Advances g v (core_of log old) (core_of entries new) (actor, request) result × IsKept entries new
  entered live = (advances live, still_kept)

-- with these bytes for a Read
pub advances_lent : {B C : Type 0} (g : Ghosts B) (v : ValidatorGhosts C) (old new : CoreView B C) (asked : Actor × Request) (taken : Pin × Buffer) (result : Result Unit StepFault) → Advances g v old new asked result
    → (StillPins taken.0 old.gets → OnPlayed result (LastGives old.state old.entries new.entries taken.1)) → AdvancesLent g v old new asked taken result
advances_lent g v old new asked taken result steps lent = record { lent = lent; stepped = steps.stepped; pins = steps.pins; live = steps.live; err = steps.err }
