-- What a request promises, from what a part of it does that means the same.
use Rattle.std.specs.Prelude.{IfOk, OnErr}
use Rattle.std.proofs.Common.{◌≡◌, ℕ, List, [], Result, Ok, Err, refl, ap}
use Rattle.tbl_kinds.specs.Notes.{untouched}
use Rattle.tbl_kinds.specs.declared.note.BankNote.{BankNote}
use Rattle.tbl_kinds.specs.declared.note.Outcome.{Outcome}
use Rattle.tbl_kinds.specs.declared.status.Status.{Status}
use Rattle.tbl_model.specs.State.{State, Tables, Table}
use Rattle.tbl_model.specs.Effects as model
use Rattle.tbl_model.specs.Effects.{answered}
use Rattle.tbl_model.specs.CriticalTables.{registered}
use Rattle.tbl_registry.specs.declared.row.NewTable.{NewTable}
use Rattle.cds_store.specs.StoreBlocks.{StoreParts, StandsFor}
use Rattle.sharing.specs.Registering.{next_row, next_handle}
use Rattle.request_effects.specs.Effects.{Effect}
use Rattle.store_requests.specs.Called.{IsCall, IsTold}
use Rattle.store_requests.specs.Entering.{Enters}
use Rattle.store_requests.specs.Registering.{AtMostOne, Books, Registers, Registered, books}
use Rattle.store_requests.specs.Requests.{Site, alone, Made, MadeAsking, Served}
use Rattle.store_requests.proofs.BankCalls.{bank_calls_none}
use Rattle.store_requests.proofs.Calls.{calls_none, calls_same}
use Rattle.store_requests.proofs.Entries.{enters_alone}
use Rattle.store_requests.proofs.Moments.{uncalled_leaves}
use Rattle.tbl_outside.specs.declared.bank.Bank.{Ghosts}

-- what a state has beside the store is set to what is there, which leaves its blocks
module _ {B : Type 0} (g : Ghosts B) (old new : StoreParts B) (to : State → State) (keeps : (s : State) → StandsFor g.tells g.now old s.store → StandsFor g.tells g.now old (to s).store) where
  abbrev earlier : Site B
  earlier = record { store = old; state = to }

  abbrev later : Site B
  later = record { store = new; state = to }

  module _ (part whole : State → BankNote → model.Effect) (same : (s : State) → StandsFor g.tells g.now old (to s).store → (n : BankNote) → whole (to s) n ≡ part (to s) n) where
    pub made_as : (done : Effect) → Made g (alone old) (alone new) part done → Made g earlier later whole done
    made_as done made = record {
      effect = λ tells s stands. calls_same g old new (to s) done (part (to s)) (whole (to s)) (same s (keeps s stands)) (made.effect tells (to s) (keeps s stands));
      call = made.call;
    }

    pub served_as : {E : Type 0} (Asks Asked : Ghosts B → StoreParts B → StoreParts B → Outcome → Type 0) → ((outcome : Outcome) → Asks g old new outcome → Asked g old new outcome) → (r : Result Effect E)
        → Served g (alone old) (alone new) part Asks r → Served g earlier later whole Asked r
    served_as Asks Asked calls (Ok done) made = record { made = made_as done made.made; silent = made.silent; bank_calls = calls done.note.outcome made.bank_calls }
    served_as Asks Asked calls (Err e) kept = kept

-- what came of it, if it was done; else the store is as it was
pub of_served : {B E : Type 0} (g : Ghosts B) (old new : Site B) (means : State → BankNote → model.Effect) (Asks : Ghosts B → StoreParts B → StoreParts B → Outcome → Type 0) (r : Result Effect E) (P : Effect → Type 0)
    → ((done : Effect) → MadeAsking g old new means Asks done → P done) → Served g old new means Asks r → IfOk r P
of_served g old new means Asks (Ok done) P then made = then done made
of_served g old new means Asks (Err e) P then kept = tt

pub kept_served : {B E : Type 0} (g : Ghosts B) (old new : Site B) (means : State → BankNote → model.Effect) (Asks : Ghosts B → StoreParts B → StoreParts B → Outcome → Type 0) (r : Result Effect E) → Served g old new means Asks r → OnErr r (new.store ≡ old.store)
kept_served g old new means Asks (Ok done) made = tt
kept_served g old new means Asks (Err e) kept = kept

-- the bank's laws say that a reset leaves what it holds
module _ {B : Type 0} (g : Ghosts B) (holds : (bank : B) (image : List ℕ) → g.tells_moments → g.may_leave bank image → image ≡ g.now bank) (only : (bank : B) (image : List ℕ) → g.tells_moments → g.left_since bank (g.clock bank) image → g.may_leave bank image)
    (store : StoreParts B) where
  -- nothing is called
  module _ (to : State → State) (keeps : (s : State) → StandsFor g.tells g.now store s.store → StandsFor g.tells g.now store (to s).store) (means : State → BankNote → model.Effect) where
    pub made_alone : (status : Status) (detail : ℕ) (done : Effect) → IsTold done status detail [] untouched → ((s : State) → StandsFor g.tells g.now store (to s).store → (n : BankNote) → means (to s) n ≡ answered (to s) status detail) → IsCall g store store done
        → Made g (earlier g store store to keeps) (later g store store to keeps) means done
    made_alone status detail done told same call = record {
      effect = λ tells s stands. let there = keeps s stands in calls_same g store store (to s) done (λ n. answered (to s) status detail) (means (to s)) (same s there)
          (calls_none g store store (to s) done (uncalled_leaves g holds only store store (to s).store refl (there.shows tells)) (bank_calls_none g store.bank store.bank [] done.note refl told.note_is) status detail told there);
      call = call;
    }

    pub asking_alone : (Asks : Ghosts B → StoreParts B → StoreParts B → Outcome → Type 0) (status : Status) (detail : ℕ) (done : Effect) → IsTold done status detail [] untouched → ((s : State) → StandsFor g.tells g.now store (to s).store → (n : BankNote) → means (to s) n ≡ answered (to s) status detail) → IsCall g store store done
        → Asks g store store done.note.outcome → MadeAsking g (earlier g store store to keeps) (later g store store to keeps) means Asks done
    asking_alone Asks status detail done told same call asks = record { made = made_alone status detail done told same call; silent = told.silent; bank_calls = asks }

-- ---- a registration

module _ {B : Type 0} (g : Ghosts B) (old new : Books B) (app : ℕ) (plan : NewTable) (part whole : State → BankNote → model.Effect)
    (same : (s : State) → s.tables ≡ old.tables → StandsFor g.tells g.now old.store s.store → (n : BankNote) → whole s n ≡ part s n) where
  pub registers_as : (done : Effect) → Registers g old new app plan part done → Registers g old new app plan whole done
  registers_as done is = record {
    made = record {
      effect = λ tells s stands. calls_same g old.store new.store (record s { tables = new.tables }) done (part (record s { tables = old.tables })) (whole (record s { tables = old.tables })) (same (record s { tables = old.tables }) refl stands) (is.made.effect tells s stands);
      call = is.made.call;
    };
    one = is.one;
  }

  pub registered_as : {E : Type 0} (r : Result Effect E) → Registered g old new app plan part r → Registered g old new app plan whole r
  registered_as (Ok done) is = registers_as done is
  registered_as (Err e) kept = kept

-- what came of it, if it was done
pub of_registered : {B E : Type 0} (g : Ghosts B) (old new : Books B) (app : ℕ) (plan : NewTable) (means : State → BankNote → model.Effect) (r : Result Effect E) (P : Effect → Type 0) → ((done : Effect) → Registers g old new app plan means done → P done)
    → Registered g old new app plan means r → IfOk r P
of_registered g old new app plan means (Ok done) P then is = then done is
of_registered g old new app plan means (Err e) P then kept = tt

pub kept_registered : {B E X : Type 0} (g : Ghosts B) (old new : Books B) (app : ℕ) (plan : NewTable) (means : State → BankNote → model.Effect) (r : Result Effect E) (part : Books B → X) → Registered g old new app plan means r → OnErr r (part new ≡ part old)
kept_registered g old new app plan means (Ok done) part it = tt
kept_registered g old new app plan means (Err e) part kept = ap part kept

-- the store isn't called
pub registered_alone : {B : Type 0} (g : Ghosts B) (holds : (bank : B) (image : List ℕ) → g.tells_moments → g.may_leave bank image → image ≡ g.now bank) (only : (bank : B) (image : List ℕ) → g.tells_moments → g.left_since bank (g.clock bank) image → g.may_leave bank image)
    (store : StoreParts B) (old new : Tables) (t : Table) → t.handle ≡ next_handle old → (app : ℕ) (plan : NewTable) (means : State → BankNote → model.Effect) (u : Table) (status : Status) → u.handle ≡ next_handle old → (done : Effect) → Enters old new u done status untouched
    → ((s : State) → s.tables ≡ old → StandsFor g.tells g.now store s.store → (n : BankNote) → means s n ≡ registered s (next_row old) u status) → IsCall g store store done → AtMostOne old new app plan
    → Registers g (books old store) (books new store) app plan means done
registered_alone g holds only store old new t handle app plan means u status at done enters same call one = record {
  made = record {
    effect = λ tells s stands. let x : State = record s { tables = old } in
        calls_same g store store (record x { tables = new }) done (λ n. registered x (next_row old) u status) (means x) (same x refl stands)
        (enters_alone g store store x done old new t refl handle (uncalled_leaves g holds only store store x.store refl (stands.shows tells)) (bank_calls_none g store.bank store.bank [] done.note refl enters.told.note_is) u status at enters stands);
    call = call;
  };
  one = one;
}
