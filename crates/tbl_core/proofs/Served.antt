-- A request that was made at the desk is what the core asks of a request about tables, whichever it is.
use Rattle.std.proofs.Common.{◌≡◌, ◌≤◌, ℕ, Bool, Option, Some, None, Result, Ok, Err, IfOk, OnErr, refl, sym, ap, subst, arith}
use Rattle.std.specs.Option.{option_map}
use Rattle.tbl_kinds.specs.declared.entry.Answer.{Answer}
use Rattle.tbl_kinds.specs.Buffers.{Buffer}
use Rattle.tbl_kinds.specs.GroundCommands.{GroundCommand, command_in}
use Rattle.tbl_kinds.specs.declared.request.Actor.TheVariants.{Ground}
use Rattle.tbl_kinds.specs.declared.request.Request.TheVariants as ask
use Rattle.tbl_kinds.specs.Notes.{untouched}
use Rattle.tbl_kinds.specs.declared.request.Request.{Request}
use Rattle.tbl_model.specs.Dispatch.{effect_of}
use Rattle.tbl_model.specs.State.{State, Table, Tables}
use Rattle.tbl_model.specs.Tables.{table_at}
use Rattle.tbl_model.specs.Commands.{effect_by}
use Rattle.tbl_model.specs.Given.{Given}
use Rattle.tbl_model.specs.Effects as model
use Rattle.tbl_outside.specs.declared.validator.Validator.{Ghosts as ValidatorGhosts}
use Rattle.cds_store.specs.StoreBlocks.{StoreParts}
use Rattle.request_effects.specs.Effects.{Effect, given_of}
use Rattle.desk.specs.Desk.{Rest, state_at, IsOrderly, Output}
use Rattle.desk.specs.Requests.{Meaning, told, for_row, command, Does as DeskDoes, Has, Made, Served}
use Rattle.desk.specs.Rooms.{copy_room}
use Rattle.desk.specs.declared.desk.Desk.{Desk}
use Rattle.tbl_core.specs.Owned.{owned_effect, owned_at, owned, commanded}
use Rattle.tbl_core.specs.Service.{PartsView, IsStateOf, Leaves, IsJudged, MayPlay, Does, owned_in}
use Rattle.tbl_core.proofs.Owners.{leaves_of, at_most}
use Rattle.tbl_core.proofs.TableRequests.{state_is}
use Rattle.tbl_core.proofs.Verdicts.{was_judged}

-- the desk beside the store is what the core keeps
abbrev pub parts_at : {B C : Type 0} → StoreParts B → Bool → Desk C → PartsView B C
parts_at store ended desk = record {
  tables = desk.tables;
  pending = desk.pending;
  store = store;
  drawer = desk.drawer;
  apps = desk.apps;
  kit = desk.kit;
  admit = desk.admit;
  seconds = desk.clock.seconds;
  sub = desk.clock.sub;
  ended = ended;
}

module _ {B C : Type 0} (v : ValidatorGhosts C) (store : StoreParts B) (ended : Bool) (old new : Desk C) where
  leaves : (s : State) (done : Effect) (found : Option model.Effect) → Has v (record { store = s.store; ended = ended }) old new done found → Leaves s.store done (parts_at store ended new) found
  leaves s done None has = absurd has
  leaves s done (Some e) has = leaves_of s.store done (parts_at store ended new) e.questions e (state_at (record { store = s.store; ended = ended }) new) has.effect
      (record { tables = refl; pending = refl; store = refl; drawer = refl; apps = refl; kit = refl; admit = refl; seconds = refl; sub = refl; ended = refl })

  judged : (rest : Rest) (done : Effect) (found : Option model.Effect) → Has v rest old new done found → IsJudged v old.kit new.kit done.verdicts found
  judged rest done None has = absurd has
  judged rest done (Some e) has = was_judged v old.kit new.kit e.questions done.verdicts has.asked

  pub does_of : (meaning : Meaning) (out : Output) (answer : Answer) (most : ℕ) → meaning.most ≤ most → Made v meaning old new out answer
      → Does v most (parts_at store ended old) (parts_at store ended new) meaning.effect (told answer out)
  does_of meaning out answer most few made = record {
    effect = λ s stands. subst (λ (x : State). Leaves s.store (told answer out) (parts_at store ended new) (meaning.effect x (given_of (told answer out)))) (sym (state_is (parts_at store ended old) s.store s stands))
        (leaves s (told answer out) _ (made.done (record { store = s.store; ended = ended })));
    judged = λ s stands. subst (λ (x : State). IsJudged v old.kit new.kit out.report.verdicts (meaning.effect x (given_of (told answer out)))) (sym (state_is (parts_at store ended old) s.store s stands))
        (judged (record { store = s.store; ended = ended }) (told answer out) _ (made.done (record { store = s.store; ended = ended })));
    store = refl;
    note = refl;
    two = made.two;
    within = at_most meaning.most most (told answer out) few made.within;
  }

-- the core meets what a request at the desk may rely on
pub orderly_of : {B C : Type 0} (v : ValidatorGhosts C) (store : StoreParts B) (ended : Bool) (desk : Desk C) → MayPlay v (parts_at store ended desk) → IsOrderly v desk
orderly_of v store ended desk may = record {
  counted = may.counted;
  notices = may.notices;
  functions = may.functions;
  few = may.few;
  pending = may.pending;
  loads = may.loads;
}

-- a state that the parts represent is the one that the desk stands for
pub at_desk : {B C : Type 0} (store : StoreParts B) (ended : Bool) (desk : Desk C) (s : State) → IsStateOf s.store (parts_at store ended desk) s → s ≡ state_at (record { store = s.store; ended = ended }) desk
at_desk store ended desk s stands = state_is (parts_at store ended desk) s.store s stands

-- what was served was made, or nothing changed
pub made_of : {C E : Type 0} (v : ValidatorGhosts C) (meaning : Meaning) (old new : Desk C) (out : Output) (r : Result Answer E) → Served v meaning old new out r → IfOk r (λ answer. Made v meaning old new out answer)
made_of v meaning old new out (Ok answer) made = made
made_of v meaning old new out (Err x) same = tt

pub kept_of : {B C E : Type 0} (v : ValidatorGhosts C) (store : StoreParts B) (ended : Bool) (meaning : Meaning) (old new : Desk C) (out : Output) (r : Result Answer E) → Served v meaning old new out r
    → OnErr r (parts_at store ended new ≡ parts_at store ended old)
kept_of v store ended meaning old new out (Ok answer) made = tt
kept_of v store ended meaning old new out (Err x) same = ap (λ (desk : Desk _). parts_at store ended desk) same

-- ---- a request by its function, as the one match says it

module _ {C : Type 0} (v : ValidatorGhosts C) (old new : Desk C) (out : Output) where
  -- it has this effect on the table that is there
  by_place : (found : Option Table) (s : State) (row : ℕ) (request : Request) (given : Given) (e : State → Given → Table → model.Effect)
      → ((t : Table) → owned_effect s row t request given ≡ Some (e s given t)) → option_map (e s given) found ≡ owned_at found s row request given
  by_place None s row request given e is = refl
  by_place (Some t) s row request given e is = sym (is t)

  pub owned_so : {E : Type 0} (row : ℕ) (request : Request) (e : State → Given → Table → model.Effect) (most : ℕ) (r : Result Answer E) → most ≤ 3
      → ((s : State) (given : Given) (t : Table) → owned_effect s row t request given ≡ Some (e s given t))
      → Served v (for_row row e most (λ tables. copy_room (table_at tables row))) old new out r → Served v (owned row request) old new out r
  owned_so row request e most (Ok answer) few is made = record {
    done = λ rest. subst (Has v rest old new (told answer out)) (by_place (table_at old.tables row) (state_at rest old) row request (given_of (told answer out)) e (is (state_at rest old) (given_of (told answer out)))) (made.done rest);
    two = made.two;
    within = at_most most 3 (told answer out) few made.within;
    room = made.room;
  }
  owned_so row request e most (Err x) few is same = same

  pub commanded_so : {E : Type 0} (read : GroundCommand) (e : State → model.Effect) (most : ℕ) (r : Result Answer E) → most ≤ 4
      → ((s : State) → e s ≡ effect_by s (Ok read) untouched) → Served v (command e most) old new out r → Served v (commanded read) old new out r
  commanded_so read e most (Ok answer) few is made = record {
    done = λ rest. subst (DeskDoes v rest old new (told answer out)) (is (state_at rest old)) (made.done rest);
    two = made.two;
    within = at_most most 4 (told answer out) few made.within;
    room = made.room;
  }
  commanded_so read e most (Err x) few is same = same

  -- what the owner of the table asks for it was done
  module _ {B : Type 0} (store : StoreParts B) (ended : Bool) (answer : Answer) where
    pub owned_does : (row : ℕ) (request : Request) (e : State → Given → Table → model.Effect) (most : ℕ) (more : Tables → ℕ) (few : ℕ) → most ≤ few
        → ((s : State) (given : Given) (t : Table) → owned_effect s row t request given ≡ Some (e s given t))
        → Made v (for_row row e most more) old new out answer → Does v few (parts_at store ended old) (parts_at store ended new) (owned_in row request) (told answer out)
    owned_does row request e most more few enough is made =
        let d = does_of v store ended old new (for_row row e most more) out answer few enough made in
        let given = given_of (told answer out) in record {
          effect = λ s stood. subst (Leaves s.store (told answer out) (parts_at store ended new)) (by_place (table_at s.tables row) s row request given e (is s given)) (d.effect s stood);
          judged = λ s stood. subst (IsJudged v old.kit new.kit out.report.verdicts) (by_place (table_at s.tables row) s row request given e (is s given)) (d.judged s stood);
          store = d.store;
          note = d.note;
          two = d.two;
          within = d.within;
        }

    -- and what a command asks whose packet was read so
    pub command_does : (packet : Buffer) (read : GroundCommand) → Ok read ≡ command_in packet.list → Made v (commanded read) old new out answer
        → Does v 4 (parts_at store ended old) (parts_at store ended new) (λ s given. effect_of s Ground (ask.Command packet) given) (told answer out)
    command_does packet read is made =
        let d = does_of v store ended old new (commanded read) out answer 4 (omega arith) made in
        let same : (s : State) → Some (effect_by s (Ok read) untouched) ≡ effect_of s Ground (ask.Command packet) (given_of (told answer out)) = λ s. ap (λ (r : Result GroundCommand Answer). Some (effect_by s r untouched)) is in record {
          effect = λ s stood. subst (Leaves s.store (told answer out) (parts_at store ended new)) (same s) (d.effect s stood);
          judged = λ s stood. subst (IsJudged v old.kit new.kit out.report.verdicts) (same s) (d.judged s stood);
          store = d.store;
          note = d.note;
          two = d.two;
          within = d.within;
        }
