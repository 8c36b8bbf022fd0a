use Rattle.std.proofs.Common.{◌∙◌, ◌<◌, ◌≤◌, refl, sym, ap, rules}
use Rattle.tbl_model.specs.State.{Tables}
use Rattle.tbl_model.specs.Tables.{critical_count}
use Rattle.tbl_model.specs.TableSteps.{uncritical}
use Rattle.tbl_model.specs.CriticalTables.{critical_effect}
use Rattle.tbl_kinds.specs.declared.status.TheConstants.Status.{WARN_NOT_CRITICAL}
use Rattle.sharing.specs.Registering.{next_row, planned}
use Rattle.store_requests.proofs.CriticalTables.{critical_kept, critical_full}
use Rattle.store_requests.proofs.registering.register_critical.Goals as goal
use Rattle.store_requests.proofs.Promised.{registered_alone, registered_as}
use Rattle.store_requests.specs.Registering.{books, keeping}

-- as many are critical as can be
pub returns-then-critical_count-ge-MOST_CRITICAL : goal.returns-then-critical_count-ge-MOST_CRITICAL
returns-then-critical_count-ge-MOST_CRITICAL g c =
    let b = g.B.Bank in
    let a = c.args in
    let old = a.tables.now in
    let t = planned old a.app a.plan in
    let many : 32 ≤ c.critical_count.result = search rules in record {
      registered = registered_alone b g.met.B.Bank.leaves_only_now g.met.B.Bank.only_now a.store.now old c.register_uncritical.new.tables t refl a.app a.plan (λ s. critical_effect s (next_row old) t) (uncritical t) WARN_NOT_CRITICAL refl c.of.result (record { told = search rules; tables = c.register_uncritical.ensures.tables })
          (λ s same stands n. critical_full s (next_row old) t n c.critical_count.result (ap (λ (tables : Tables). critical_count tables) same ∙ sym c.critical_count.ensures.tables) many) (search rules) (search rules);
    }

pub returns : goal.returns
returns g c =
    let b = g.B.Bank in
    let a = c.args in
    let old = a.tables.now in
    let t = planned old a.app a.plan in
    let few : c.critical_count.result < 32 = search rules in record {
      registered = registered_as b (books old a.store.now) (books c.keep.new.tables c.keep.new.store) a.app a.plan (λ s. keeping s old a.app a.plan) (λ s. critical_effect s (next_row old) t)
          (λ s same stands n. critical_kept s (next_row old) t n c.critical_count.result (ap (λ (tables : Tables). critical_count tables) same ∙ sym c.critical_count.ensures.tables) few) c.keep.result c.keep.ensures.registered;
    }
