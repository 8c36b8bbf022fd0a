use Rattle.std.proofs.Common.{◌≡◌, ◌∙◌, refl, sym, Some, rules, ap, subst, None, true, false}
use Rattle.tbl_model.specs.Copies.{block_of}
use Rattle.sharing.specs.Registering.{next_row, planned}
use Rattle.store_requests.specs.Registering.{recovery, books, keeping, making}
use Rattle.store_requests.proofs.CriticalTables.{kept_found, any_is, kept_made, kept_full, other_size}
use Rattle.store_requests.proofs.Promised.{registered_as, registered_alone, registers_as}
use Rattle.tbl_kinds.specs.declared.block.BlockKind.TheVariants.{Table}
use Rattle.tbl_kinds.specs.StoreSteps.{open_of, has_room}
use Rattle.tbl_model.specs.CriticalTables.{kept_effect}
use Rattle.store_requests.specs.Entering.{EntersReserved}
use Rattle.store_requests.proofs.Calls.{calls_same}
use Rattle.store_requests.proofs.MadeBlocks.{new_reserved}
use Rattle.store_requests.proofs.Entries.{reserved_note}
use Rattle.store_requests.proofs.Moments.{uncalled_leaves}
use Rattle.store_requests.proofs.BankCalls.{reserved_asked}
use Rattle.tbl_kinds.specs.Notes.{untouched}
use Rattle.tbl_model.specs.State.{State}
use Rattle.tbl_kinds.specs.declared.status.TheConstants.Status.{WARN_NOT_CRITICAL}
use Rattle.tbl_model.specs.TableSteps.{uncritical}
use Rattle.store_requests.proofs.critical.keep.Goals as goal

pub returns-in-Some : goal.returns-in-Some
returns-in-Some g c =
    let b = g.B.Bank in
    let a = c.args in
    let old = a.tables.now in
    let slot = c.in-Some.slot in
    let t = planned old a.app a.plan in record {
      registered = registered_as b (books old a.store.now) (books c.recover.new.tables c.recover.new.store) a.app a.plan (λ s. recovery s (next_row old) t slot) (λ s. keeping s old a.app a.plan)
          (λ s same stands n.
          let there : block_of t s.store ≡ Some slot = sym (c.sized_block.ensures.block t s.store refl refl stands) ∙ (search rules) in
          kept_found s (next_row old) t n slot there) c.recover.result c.recover.ensures.registered;
    }

pub returns-in_default-find : goal.returns-in_default-find
returns-in_default-find g c =
    let b = g.B.Bank in
    let old = c.args.tables.now in
    let new = c.reserved.new.tables in
    let store = c.args.store.now in
    let left = c.reserve_block-made.new.self in
    let plan = c.args.plan in
    let t = planned old c.args.app plan in
    let made = c.reserve_block-made.ensures.reserves in
    let done = c.reserved.result in
    let enters = subst (λ n. EntersReserved old new t done c.reserve_block-made.result n) c.in_ok-note.ensures c.reserved.ensures.reserved in record {
      registered = record {
        made = record {
          effect = λ tells s0 stands.
              let s : State = record s0 { tables = old } in
              let none : open_of Table plan.name s.store ≡ None = sym (c.in_default-find.ensures.block s.store stands) in
              calls_same b store left (record s { tables = new }) done (λ n. kept_effect s (next_row old) t n None) (λ n. keeping s old c.args.app plan n)
              (λ n. ap (kept_effect s (next_row old) t n) none)
              (new_reserved b store left s done old new t refl refl
              store c.reserve_block-made.result (λ m. made.moments m s.store stands)
              (reserved_asked b store store left Table plan.name plan.size done.note c.reserve_block-made.result s.store stands.slots (made.full s.store stands)
              (reserved_note b store left s done old new t refl refl c.reserve_block-made.result untouched enters) made.untouched made.bank_calls)
              (λ same. uncalled_leaves b g.met.B.Bank.leaves_only_now g.met.B.Bank.only_now store left s.store same (stands.shows tells)) none stands
              made.ok made.full made.untouched made.err made.breaks enters);
          call = search rules;
        };
        one = search rules;
      };
    }

pub returns-then-not-room : goal.returns-then-not-room
returns-then-not-room g c =
    let b = g.B.Bank in
    let old = c.args.tables.now in
    let slot = c.in-Some-find.slot in
    let store = c.args.store.now in
    let t = planned old c.args.app c.args.plan in
    let entered = c.register_uncritical.ensures in record {
      registered = registered_alone b g.met.B.Bank.leaves_only_now g.met.B.Bank.only_now store old c.register_uncritical.new.tables t refl c.args.app c.args.plan (λ s. keeping s old c.args.app c.args.plan) (uncritical t) WARN_NOT_CRITICAL refl c.of.result (record { told = search rules; tables = entered.tables })
          (λ s same stands n.
          let found : open_of Table c.args.plan.name s.store ≡ Some slot = sym (c.in-Some-find.ensures.block s.store stands) in
          let full : has_room c.args.plan.size (Some slot) s.store ≡ false = sym (c.room.ensures s.store stands) ∙ c.if-not-room.true in
          ap (kept_effect s (next_row old) t n) found ∙ kept_full s (next_row old) t n (Some slot) (Some slot) (any_is s t (Some slot) found) (other_size s t slot found (sym (c.in_default.ensures.block t s.store refl refl stands))) full) (search rules) (search rules);
    }

pub renew-requires-clause-renewable : goal.renew-requires-clause-renewable
renew-requires-clause-renewable g c = record { open_block = sym c.in-Some-find.ensures.slot; room = λ blocks stands. sym (c.room.ensures blocks stands) ∙ c.if-not-room.false }

pub returns : goal.returns
returns g c =
    let b = g.B.Bank in
    let old = c.args.tables.now in
    let slot = c.in-Some-find.slot in
    let store = c.args.store.now in
    let t = planned old c.args.app c.args.plan in record {
      registered = registers_as b (books old store) (books c.renew.new.tables c.renew.new.store) c.args.app c.args.plan (λ s. making s (next_row old) t (Some slot)) (λ s. keeping s old c.args.app c.args.plan)
          (λ s same stands n.
          let found : open_of Table c.args.plan.name s.store ≡ Some slot = sym (c.in-Some-find.ensures.block s.store stands) in
          let room : has_room c.args.plan.size (Some slot) s.store ≡ true = sym (c.room.ensures s.store stands) ∙ c.if-not-room.false in
          ap (kept_effect s (next_row old) t n) found ∙ kept_made s (next_row old) t n (Some slot) (Some slot) (any_is s t (Some slot) found) (other_size s t slot found (sym (c.in_default.ensures.block t s.store refl refl stands))) room) c.renew.result c.renew.ensures.registers;
    }
