-- A core that keeps its last entry alone.
use Rattle.std.proofs.Common.{◌≡◌, ◌<◌, ◌+◌, false, List, [], ◌∷◌, ◌++◌, map, length, length-append, slice_index_or, Some, None, Result, Ok, Err, refl, sym, ap, ◌∙◌, subst, arith}
use Rattle.std.proofs.lemmas.List.{get_or_at, map-append}
use Rattle.tbl_kinds.specs.declared.entry.Entry.{Entry}
use Rattle.tbl_kinds.specs.declared.request.Actor.{Actor}
use Rattle.tbl_kinds.specs.declared.request.Request.{Request}
use Rattle.tbl_outside.specs.declared.bank.Bank.{Ghosts}
use Rattle.tbl_outside.specs.declared.validator.Validator.{Ghosts as ValidatorGhosts}
use Rattle.tbl_core.specs.Ended.{OnPlayed}
use Rattle.tbl_core.specs.Engine.{Steps, Enters}
use Rattle.tbl_core.specs.Log.{IsSmall}
use Rattle.tbl_core.specs.Service.{EngineView, AddsOne, PinsOnward, core_of, IsAfter, recounted}
use Rattle.tbl_core.specs.declared.service.StepFault.{StepFault}
use Rattle.tbl_core.proofs.Steps.{on_played}
use Rattle.tbl_core.specs.Stepped.{Stepped}
use Rattle.tbl_core.proofs.Stepping.{still_after, stepped, pins}
use Rattle.tbl_core.specs.declared.service.StepFault.TheVariants.{Memory as NoMemory, BootFault, BootStopped}
use Rattle.tbl_history.specs.Serving.{Continues}
use Rattle.tbl_history.proofs.Laws.{Laws}
use Rattle.tbl_live.specs.Lasting.{IsLasting}
use Rattle.tbl_history.proofs.ServingLemmas.{played_adds, played_continues}
use Rattle.tbl_live.proofs.StepLemmas.{is_last}

abbrev pub firsts : List (Entry × Unit {0}) → List Entry
firsts items = map (λ item. item.0) items

-- what was played before, and this entry
pub one_more : (items more : List (Entry × Unit {0})) (e : Entry) → more ≡ items ++ (e, tt) ∷ [] → firsts more ≡ firsts items ++ e ∷ []
one_more items more e is = ap firsts is ∙ map-append (λ (item : Entry × Unit {0}). item.0) items ((e, tt) ∷ [])

-- so is the last one
pub the_last : (past more : List Entry) (e : Entry) → more ≡ past ++ e ∷ [] → (before : List Entry) (other : Entry) → more ≡ before ++ other ∷ [] → e ≡ other
the_last past more e is before other parts =
    is_last more (length past) e (sym (ap (λ (es : List Entry). slice_index_or es (length past) e) is ∙ get_or_at past e [] e (length past) (omega arith))) (let long : length more ≡ length past + 1 = ap length is ∙ length-append past (e ∷ []) in omega (arith, long)) before other parts

module _ {B C : Type 0} (g : Ghosts B) (v : ValidatorGhosts C) (past : List Entry) (old new : EngineView B C) (actor : Actor) (request : Request) (e : Entry) where
  pub enters : (more : List Entry) (result : Result Unit StepFault) → more ≡ past ++ e ∷ [] → OnPlayed result (Steps g v old new (actor, request) e result) → OnPlayed result (Enters (λ x. Steps g v old new (actor, request) x result) past more)
  enters more result is steps = on_played result (λ s. (e, is, s)) steps

  module _ (more : List Entry) (result : Result Unit StepFault) (is : more ≡ past ++ e ∷ []) (steps : OnPlayed result (Steps g v old new (actor, request) e result)) where
    abbrev entered : OnPlayed result (Enters (λ x. Steps g v old new (actor, request) x result) past more)
    entered = enters more result is steps

    -- a step that played keeps what is kept
    pub keeps_on : (result ≡ Err NoMemory → ⊥) → IsAfter past old → IsLasting (Some e) (record { past = more; engine = new })
    keeps_on played was = record {
      after = still_after g v past more old new actor request result entered (λ none. absurd (played none)) (λ none. absurd (played none)) was;
      ends = λ before other parts.
          let same : e ≡ other = the_last past more e is before other parts in
          (ap Some same, subst IsSmall same (small result steps played));
    } where
      small : (r : Result Unit StepFault) → OnPlayed r (Steps g v old new (actor, request) e r) → (r ≡ Err NoMemory → ⊥) → IsSmall e
      small (Ok x) steps played = (steps.stepped past).adds.small
      small (Err NoMemory) steps played = absurd (played refl)
      small (Err BootFault) steps played = (steps.stepped past).adds.small
      small (Err BootStopped) steps played = (steps.stepped past).adds.small

    -- and does all that a step of a core promises
    lasting_steps : OnPlayed result ((x : Entry) × Stepped g v (core_of past old) (core_of more new) (actor, request) x result)
    lasting_steps = on_played result (λ d. stepped g v past more old new actor request result d) entered

    pub lasting_continues : Laws g → old.state.ended ≡ false → OnPlayed result (Continues g v.verdict (core_of past old) (core_of more new))
    lasting_continues laws live = played_continues g v (core_of past old) (core_of more new) actor request result laws live lasting_steps

    pub lasting_adds : OnPlayed result (AddsOne g (core_of past old) (core_of more new) actor request result)
    lasting_adds = played_adds g v (core_of past old) (core_of more new) actor request result lasting_steps

    pub lasting_pins : IsAfter past old → OnPlayed result (PinsOnward (core_of past old) (core_of more new))
    lasting_pins was = on_played result (λ d. pins g v past more old new actor request result d was) entered

-- the bound on images changes nothing else
pub still_after_recount : {B C : Type 0} (past : List Entry) (engine : EngineView B C) → IsAfter past engine → IsAfter past (recounted engine)
still_after_recount past engine after = record { played = after.played; gets = after.gets }

-- a core that has played nothing
pub is_first : {B C : Type 0} (items : List (Entry × Unit {0})) (engine : EngineView B C) → items ≡ [] → IsAfter [] engine → IsLasting None (record { past = firsts items; engine = engine })
is_first items engine none after = record {
  after = subst (λ (es : List (Entry × Unit {0})). IsAfter (firsts es) engine) (sym none) after;
  ends = λ before e parts.
      let long : 0 ≡ length before + 1 = sym (ap (λ (es : List (Entry × Unit {0})). length (firsts es)) none) ∙ ap length parts ∙ length-append before (e ∷ []) in
      absurd (omega (arith, long));
}

-- if something was played there is a last entry
pub split_last : (es : List Entry) → 0 < length es → (before : List Entry) × ((e : Entry) × (es ≡ before ++ e ∷ []))
split_last [] some = absurd (omega (arith, some))
split_last (x ∷ []) some = ([], (x, refl))
split_last (x ∷ (y ∷ es)) some =
    let last = split_last (y ∷ es) (omega arith) in
    (x ∷ last.0, (last.1.0, ap (λ (l : List Entry). x ∷ l) last.1.1))
