use Rattle.std.proofs.Common.{◌≡◌, ◌∙◌, refl, sym, inr, true, rules, [], inl}
use Rattle.tbl_model.specs.Tables.{is_critical, option_bits}
use Rattle.tbl_model.specs.TableSteps.{first_image, as_registered}
use Rattle.tbl_model.specs.CriticalTables.{critical_effect, registered}
use Rattle.sharing.specs.Registering.{next_row, planned, registering}
use Rattle.store_requests.proofs.Calls.{calls_same}
use Rattle.std.specs.Prelude.{false}
use Rattle.tbl_kinds.specs.declared.status.TheConstants.Status.{SUCCESS}
use Rattle.store_requests.proofs.Moments.{uncalled_leaves}
use Rattle.store_requests.proofs.CriticalTables.{critical_new, plain_new, fits_one, first_sized}
use Rattle.store_requests.proofs.Entries.{enters_alone}
use Rattle.store_requests.proofs.BankCalls.{bank_calls_none}
use Rattle.store_requests.proofs.registering.register.Goals as goal
use Rattle.store_requests.proofs.Promised.{made_alone, of_registered, kept_registered}
use Rattle.store_requests.specs.Registering.{AtMostOne, Books, books}
use Rattle.store_requests.specs.Requests.{at_desk}
use Rattle.tbl_model.specs.State.{State}
use Rattle.tbl_laws.proofs.Changes.{grown}

pub returns-then-contains : goal.returns-then-contains
returns-then-contains g c =
    let b = g.B.Bank in
    let a = c.args in
    let desk = a.desk.now in
    let old = desk.tables in
    let plan = c.in-Ok.plan in
    let asked = a.asked.now in
    let t = planned old a.app plan in
    let r = c.register_critical.result in
    let new = c.register_critical.new in
    let was = books old a.store.now in
    let is = books new.tables new.store in
    let means = λ (s : State). critical_effect s (next_row old) t in
    let critical : is_critical t ≡ true = sym (c.contains.ensures tt) ∙ c.if-contains.true in
    let registered = c.register_critical.ensures.registered in record {
      held = refl;
      made = of_registered b was is a.app plan means r _ (λ done it. record {
        effect = λ tells s stands.
            let x : State = (at_desk desk a.store.now).state s in
            calls_same b a.store.now new.store (record x { tables = new.tables }) done (means x) (registering x a.app asked)
            (λ n. c.in-Ok.ensures.effect s n ∙ critical_new x (next_row old) t n critical) (it.made.effect tells x stands);
        call = it.made.call;
      }) registered;
      fit = of_registered b was is a.app plan means r _ (λ done it s n fit. fits_one ((at_desk desk was.store).state s) n old new.tables a.app plan refl c.in-Ok.ensures.is.can c.in-Ok.ensures.may fit it.one) registered;
      one = of_registered b was is a.app plan means r _ (λ done it. inr (plan, c.in-Ok.ensures.is.can, it.one)) registered;
      err_tables = kept_registered b was is a.app plan means r (λ (x : Books _). x.tables) registered;
      err_store = kept_registered b was is a.app plan means r (λ (x : Books _). x.store) registered;
    }

-- it is refused
pub returns-in-Err : goal.returns-in-Err
returns-in-Err g c =
    let b = g.B.Bank in
    let a = c.args in
    let store = a.store.now in
    let answer = c.in-Err.answer in record {
      held = refl;
      made = made_alone b g.met.B.Bank.leaves_only_now g.met.B.Bank.only_now store (at_desk a.desk.now store).state (λ s stands. stands) (λ s. registering s a.app a.asked.now) answer.status answer.detail c.of.result c.of.ensures
          (λ s stands n. c.in-Err.ensures.effect s n) (search rules);
      fit = λ s n fit. grown n ((at_desk a.desk.now store).state s) fit;
      one = inl refl;
      err_tables = tt;
      err_store = tt;
    }

-- it isn't to be critical
pub returns : goal.returns
returns g c =
    let b = g.B.Bank in
    let a = c.args in
    let desk = a.desk.now in
    let old = desk.tables in
    let new = c.register_plain.new.tables in
    let plan = c.in-Ok.plan in
    let store = a.store.now in
    let t = planned old a.app plan in
    let plain : is_critical t ≡ false = sym (c.contains.ensures tt) ∙ c.if-contains.false in
    let added : AtMostOne old new a.app plan = inr (option_bits plan.flags, first_image t, first_sized t, c.in_ok-answer.ensures.tables) in record {
      held = refl;
      made = record {
        effect = λ tells s stands. let x : State = (at_desk desk store).state s in
            calls_same b store store (record x { tables = new }) c.of-2.result (λ n. registered x (next_row old) (as_registered t) SUCCESS) (registering x a.app a.asked.now)
            (λ n. c.in-Ok.ensures.effect s n ∙ plain_new x (next_row old) t n plain)
            (enters_alone b store store x c.of-2.result old new t refl refl
            (uncalled_leaves b g.met.B.Bank.leaves_only_now g.met.B.Bank.only_now store store x.store refl (stands.shows tells)) (bank_calls_none b store.bank store.bank [] c.of-2.result.note refl c.of-2.ensures.note_is)
            (as_registered t) SUCCESS refl (record { told = search rules; tables = c.in_ok-answer.ensures.tables }) stands);
        call = search rules;
      };
      fit = λ s n fit. fits_one ((at_desk desk store).state s) n old new a.app plan refl c.in-Ok.ensures.is.can c.in-Ok.ensures.may fit added;
      one = inr (plan, c.in-Ok.ensures.is.can, added);
      err_tables = tt;
      err_store = tt;
    }
