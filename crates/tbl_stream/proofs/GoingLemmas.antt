-- An engine that goes on, over whatever it has played.
use Rattle.std.proofs.Common.{◌≡◌, ◌≤◌, ℕ, List, [], ◌∷◌, ◌++◌, false, Option, Some, None, is_some, true, Result, ℤ, sym, subst, append_assoc, arith, inl, inr}
use Rattle.std.specs.Prelude.{MatchOption}
use Rattle.std.proofs.lemmas.List.{append-nil}
use Rattle.tbl_kinds.specs.declared.entry.Entry.{Entry}
use Rattle.tbl_kinds.specs.declared.request.Actor.{Actor}
use Rattle.tbl_kinds.specs.declared.request.Request.{Request}
use Rattle.tbl_core.specs.Engine.{Steps}
use Rattle.tbl_core.specs.Service.{EngineView, IsAfter, HasRoom, IsLimit, image_limit, core_of, recounted}
use Rattle.tbl_core.specs.declared.service.StepFault.{StepFault}
use Rattle.tbl_history.specs.Serving.{Continues}
use Rattle.tbl_history.proofs.Laws.{Laws}
use Rattle.tbl_history.proofs.ServingLemmas.{continues_same, then_continues, stepped_continues}
use Rattle.tbl_outside.specs.declared.bank.Bank.{Ghosts}
use Rattle.tbl_outside.specs.declared.validator.Validator.{Ghosts as ValidatorGhosts}
use Rattle.tbl_stream.specs.Playing.{Goes}
use Rattle.tbl_stream.specs.Standing.{HasMetLimit}

module _ {B C : Type 0} (g : Ghosts B) (verdict : C → List ℕ → ℤ) where
  pub goes_none : (engine : EngineView B C) → Goes g verdict engine engine []
  goes_none engine = record {
    after = λ past is. subst (λ (es : List Entry). IsAfter es engine) (sym (append-nil past)) is;
    continues = λ past. subst (λ (es : List Entry). Continues g verdict (core_of past engine) (core_of es engine)) (sym (append-nil past)) (continues_same g verdict (core_of past engine));
  }

  pub goes_recounted : (engine : EngineView B C) → Goes g verdict engine (recounted engine) []
  goes_recounted engine = record {
    after = λ past is. subst (λ (es : List Entry). IsAfter es (recounted engine)) (sym (append-nil past)) (record { played = is.played; gets = is.gets });
    continues = λ past. subst (λ (es : List Entry). Continues g verdict (core_of past engine) (core_of es engine)) (sym (append-nil past)) (continues_same g verdict (core_of past engine));
  }

  pub goes_on : (a b c : EngineView B C) (xs ys : List Entry) → Goes g verdict a b xs → Goes g verdict b c ys → Goes g verdict a c (xs ++ ys)
  goes_on a b c xs ys p q = record {
    after = λ past is. subst (λ (es : List Entry). IsAfter es c) (append_assoc past xs ys) (q.after (past ++ xs) (p.after past is));
    continues = λ past. subst (λ (es : List Entry). Continues g verdict (core_of past a) (core_of es c)) (append_assoc past xs ys)
        (then_continues g verdict (core_of past a) (core_of (past ++ xs) b) (core_of ((past ++ xs) ++ ys) c) (p.continues past) (q.continues (past ++ xs)));
  }

-- a limit was met, and so at least as many requests were played as a table may have images
pub met_limit : {B C : Type 0} (found : Option ℕ) (engine : EngineView B C) (request : Request) → MatchOption found (HasRoom engine request) (IsLimit engine) → is_some found ≡ true → HasMetLimit engine
met_limit None engine request met some = absurd cc
met_limit (Some limit) engine request (inl whole) some = inl whole.1
met_limit (Some limit) engine request (inr images) some = inr images.1

pub full_of : {B C : Type 0} (engine : EngineView B C) → HasMetLimit engine → engine.images ≤ engine.played → image_limit ≤ engine.played
full_of engine (inl whole) few = omega (arith, whole)
full_of engine (inr images) few = omega (arith, images, few)

-- one step more
module _ {B C : Type 0} (g : Ghosts B) (laws : Laws g) (v : ValidatorGhosts C) (old new : EngineView B C) (asked : Actor × Request) (e : Entry) (result : Result Unit StepFault) (s : Steps g v old new asked e result) where
  pub goes_one : old.state.ended ≡ false → Goes g v.verdict old new (e ∷ [])
  goes_one live = record {
    after = s.after;
    continues = λ past. stepped_continues g v (core_of past old) (core_of (past ++ e ∷ []) new) asked.0 asked.1 result laws live (e, s.stepped past);
  }
