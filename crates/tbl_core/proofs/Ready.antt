-- What each request may rely on follows from what is kept between two of them.
use Rattle.std.proofs.Common.{◌≡◌, ◌⊎◌, ◌<◌, ◌≤◌, ℕ, suc, zero, List, [], ◌∷◌, Bool, true, false, Option, Some, None, IsSome, is_some, IfSome, inl, inr, refl, sym, subst, ◌∙◌, arith}
use Rattle.std.specs.Option.{option_map}
use Rattle.tbl_model.specs.State.{Table, Load}
use Rattle.tbl_model.specs.Tables.{table_at}
use Rattle.tbl_model.specs.TableSteps.{is_checked}
use Rattle.tbl_model.specs.Pending.{is_pending}
use Rattle.tbl_model.specs.Fit.{IsFit, FitAt, owner_at}
use Rattle.tbl_kinds.specs.declared.request.Request.{Request}
use Rattle.tbl_outside.specs.declared.validator.KitEntry.{KitEntry}
use Rattle.validation.specs.Kits.{entry_at, owners, MayAskEach}
use Rattle.validation.specs.Ready.{CanBeJudged, HaveFunctions}
use Rattle.tbl_core.specs.Service.{EngineView, image_limit, IsReset, HasRoom, IsReady, AreReady}
use Rattle.desk.specs.Limits.{AreCounted, AreSendable}
use Rattle.tbl_outside.specs.declared.validator.Validator.{Ghosts as ValidatorGhosts}

-- whose function it is, by its number
owner_of_entry : {C : Type 0} (kit : List (Option (KitEntry C))) (number : ℕ) → owner_at (owners kit) number ≡ option_map (λ (e : KitEntry C). e.app) (entry_at kit number)
owner_of_entry [] number = refl
owner_of_entry (x ∷ kit) zero = refl
owner_of_entry (x ∷ kit) (suc number) = owner_of_entry kit number

there : {C : Type 0} (found : Option (KitEntry C)) (owner : ℕ) → option_map (λ (e : KitEntry C). e.app) found ≡ Some owner → IsSome found
there None owner is = absurd (cc is)
there (Some entry) owner is = cc

some : {X : Type 0} (o : Option X) → is_some o ≡ true → IsSome o
some None is = absurd (cc is)
some (Some x) is = cc

-- a checked load is open
open_load : (t : Table) → is_checked t ≡ true → IsSome t.load
open_load t checked = by t.load refl where
  by : (found : Option Load) → t.load ≡ found → IsSome t.load
  by None at = absurd (cc (checked, at))
  by (Some load) at = rw at cc

module _ {B C : Type 0} (v : ValidatorGhosts C) (engine : EngineView B C) (request : Request) (ready : IsReady v engine) (room : HasRoom engine request) where
  few_images : engine.images ≤ image_limit
  few_images = by room.images where
    by : (engine.images < image_limit) ⊎ ((engine.images ≡ image_limit) × IsReset request) → engine.images ≤ image_limit
    by (inl fewer) = omega (arith, fewer)
    by (inr (as_many, reset)) = omega (arith, as_many)

  of_row : (row : ℕ) (t : Table) → table_at engine.state.tables row ≡ Some t → IsFit engine.images (owners engine.state.kit) engine.state.pending engine.state.tables.handles row t
  of_row row t is = subst (FitAt engine.images (owners engine.state.kit) engine.state.pending engine.state.tables.handles row) is (ready.fit.each row)

  counted : AreCounted engine.state.tables
  counted row t is = let few = (of_row row t is).few in let all = few_images in omega (arith, few, all)

  notices : AreSendable engine.state.tables
  notices row t is = (of_row row t is).notice

  functions : HaveFunctions engine.state.tables engine.state.kit
  functions row t is number at = there (entry_at engine.state.kit number) t.owner (sym (owner_of_entry engine.state.kit number) ∙ owner number at) where
    owner : (n : ℕ) → t.validator ≡ Some n → owner_at (owners engine.state.kit) n ≡ Some t.owner
    owner n is_n = subst (λ v. IfSome v (λ m. owner_at (owners engine.state.kit) m ≡ Some t.owner)) is_n (of_row row t is).function

  few : MayAskEach v.asked 2 engine.state.kit
  few number entry at = let low = ready.kit number entry at in omega (arith, low, room.requests)

  can : (row : ℕ) (active : Bool) (found : Option Table) → table_at engine.state.tables row ≡ found → is_pending row active engine.state.pending ≡ true → CanBeJudged engine.state.tables row active
  can row active None at pending = absurd (cc (pending, subst (FitAt engine.images (owners engine.state.kit) engine.state.pending engine.state.tables.handles row) at (ready.fit.each row) active))
  can row active (Some t) at pending = (rw at cc, λ u is. let same : t ≡ u = cc (at, is) in (of_row row u is).pends active pending)

  pub are_ready : engine.state.ended ≡ false → AreReady v engine.state
  are_ready live = record {
    relied = record {
      booted = rw (ready.booted, live) refl;
      counted = counted;
      notices = notices;
      functions = functions;
      few = few;
      pending = λ row active pending. can row active (table_at engine.state.tables row) refl pending;
      loads = λ row t is asks. open_load t ((of_row row t is).checked asks);
    };
    fit = (engine.images, ready.fit);
    live = live;
  }
