-- A service at its start.
use Rattle.std.proofs.Common.{◌≡◌, ⊎_elim, inr, ℕ, List, [], Option, Result, Err, refl, sym, ap, subst, arith}
use Rattle.tbl_kinds.specs.Admitted.{Admitted}
use Rattle.tbl_kinds.specs.Blocks.{Store as Blocks}
use Rattle.tbl_model.specs.State.{first_state}
use Rattle.tbl_model.specs.Counts.{counts_of}
use Rattle.validation.specs.Kits.{owners}
use Rattle.cds_store.specs.Calls.{CallCounted}
use Rattle.cds_layout.specs.Images.{store_of}
use Rattle.cds_store.specs.Moments.{ShowsIn, BootLeaves}
use Rattle.cds_store.specs.Boots.{BeginsAt}
use Rattle.cds_store.specs.StoreBlocks.{StoreParts, StandsFor as HasBlocks}
use Rattle.cds_store.proofs.Settled.{shows_itself}
use Rattle.tbl_outside.specs.Bank.{LeavesOnly}
use Rattle.tbl_outside.proofs.Moments.{started, leaves_among}
use Rattle.tbl_kinds.specs.declared.request.ResetKind.TheVariants.{Processor}
use Rattle.cds_store.specs.declared.fault.BankFault.{BankFault}
use Rattle.cds_store.specs.declared.fault.BankFault.TheVariants.{Fault, Stopped}
use Rattle.tbl_outside.specs.declared.validator.KitEntry.{KitEntry}
use Rattle.tbl_core.specs.Entering.{IsKept}
use Rattle.tbl_core.specs.Starting.{IsNew, EngineBegins, CoreBegins}
use Rattle.tbl_core.specs.Service.{EngineView, core_of, Stands, IsAfter, start_fault, StartCounted}
use Rattle.tbl_outside.specs.declared.bank.Bank.{Ghosts}

-- what is new represents the first state, over the blocks that its store represents then
pub stands_first : {B C : Type 0} (g : Ghosts B) (bank : B) (kit : List (Option (KitEntry C))) (admit : Admitted) (blocks : Blocks) (engine : EngineView B C) (kept : StoreParts B) → IsNew bank kit admit engine → (g.tells → HasBlocks g.tells g.now kept blocks)
    → Stands g (first_state blocks (owners kit) admit) [] (record engine { state = record engine.state { store = kept } })
unfolding counts_of
stands_first g bank kit admit blocks engine kept new has = record {
  legal = λ told. record { answered = tt; leads = refl };
  shows = λ told. record {
    state = record {
      parts = record {
        tables = sym new.tables;
        pending = sym new.pending;
        store = refl;
        drawer = sym new.drawer;
        apps = sym new.apps;
        kit = ap owners (sym new.functions);
        admit = sym new.lists;
        seconds = sym new.seconds;
        sub = sym new.sub;
        ended = sym new.live;
      };
      blocks = λ _. has told;
    };
    counts = sym new.counts;
  };
}

-- a core begins with its engine
pub none_kept : {B C : Type 0} (engine : EngineView B C) → IsAfter [] engine → IsKept [] engine
none_kept engine after = record { after = after; small = λ k d within. absurd (omega (arith, within)) }

pub core_begins : {B C : Type 0} (g : Ghosts B) (bank : B) (kit : List (Option (KitEntry C))) (admit : Admitted) (engine : EngineView B C) → EngineBegins g bank kit admit engine → CoreBegins g bank kit admit (core_of [] engine)
core_begins g bank kit admit engine is = record {
  stands = is.stands;
  empty = refl;
  kit = is.kit;
  admit = is.admit;
  live = is.live;
  counts = is.counts;
  crash = is.crash;
  asked = is.asked;
}

-- the counts of the bank moved as the fault of the boot says
pub start_counted : {A B : Type 0} (g : Ghosts B) (old new : B) (result : Result A BankFault) (fault : BankFault) → result ≡ Err fault → CallCounted g.faults g.stops old new result → StartCounted g old new (start_fault fault)
start_counted {A} g old new result fault is counted = by fault (subst (CallCounted g.faults g.stops old new) is counted) where
  by : (fault : BankFault) → CallCounted {A = A} g.faults g.stops old new (Err fault) → StartCounted g old new (start_fault fault)
  by (Fault gate old_gate) counted = counted
  by (Stopped gate old_gate) counted = counted

-- ---- a reset at any moment in it

-- of its boot
pub start_leaves : {B : Type 0} (g : Ghosts B) (made booted : StoreParts B) (bank : B) → made.bank ≡ bank
    → (g.tells_moments → (blocks : Blocks) → BeginsAt g.tells g.now made blocks → LeavesOnly g.clock g.left_since made.bank booted.bank (BootLeaves Processor blocks))
    → (g.tells_moments → g.tells) → g.tells_moments → LeavesOnly g.clock g.left_since bank booted.bank (ShowsIn (store_of (g.now bank)))
start_leaves {B} g made booted bank same moments tells_both told =
    subst (λ (b : B). LeavesOnly g.clock g.left_since b booted.bank (ShowsIn (store_of (g.now b)))) same
    (leaves_among (moments told (store_of (g.now made.bank)) (inr (tells_both told, refl))) (λ image left. ⊎_elim (λ shows. shows) (λ power_on. absurd (cc power_on.0)) left))

-- and if nothing was done to the bank
pub stays_shown : {B : Type 0} (g : Ghosts B)
    (holds : (bank : B) (image : List ℕ) → g.tells_moments → g.may_leave bank image → image ≡ g.now bank) (only : (bank : B) (image : List ℕ) → g.tells_moments → g.left_since bank (g.clock bank) image → g.may_leave bank image)
    (bank : B) → g.tells_moments → LeavesOnly g.clock g.left_since bank bank (ShowsIn (store_of (g.now bank)))
stays_shown g holds only bank told =
    started g.clock g.left_since bank _ (λ image left. subst (ShowsIn (store_of (g.now bank))) (sym (holds bank image told (only bank image told left))) (shows_itself (g.now bank)))
