use Rattle.std.proofs.Common.{refl, rules}
use Rattle.store_requests.proofs.Both.{both}
use Rattle.tbl_core.proofs.Doing.{quietly}
use Rattle.tbl_core.proofs.Verdicts.{none_judged}
use Rattle.tbl_core.proofs.parts.Parts.user.Goals as goal

pub returns-in-Read : goal.returns-in-Read
returns-in-Read g c = record {
  does =
      both c.read.result _ _ _ c.read.ensures.effect c.read.ensures.quiet (λ answer is quiet.
      let none = none_judged g.C.Validator in
      quietly g.C.Validator _ _ _ _ _
      (λ s stands. let e = is s stands.tables stands.apps in search rules)
      (λ s stands. let e = is s stands.tables stands.apps in search rules) refl quiet);
  err = search rules;
}

pub returns-in-GetInfo : goal.returns-in-GetInfo
returns-in-GetInfo g c = record {
  does =
      both c.get_info.result _ _ _ c.get_info.ensures.effect c.get_info.ensures.quiet (λ answer is quiet.
      let none = none_judged g.C.Validator in
      quietly g.C.Validator _ _ _ _ _
      (λ s stands. let e = is s stands.tables stands.apps in search rules)
      (λ s stands. let e = is s stands.tables stands.apps in search rules) refl quiet);
  err = search rules;
}
