use Rattle.std.proofs.Common.{◌≡◌, ◌∙◌, [], ◌∷◌, w32, Some, None, sym, rules}
use mir.Val.{to_z, of_z}
use Rattle.std.specs.Option.{ForSome}
use Rattle.tbl_model.specs.Tables.{table_at}
use Rattle.tbl_model.specs.Validations.{judged_image, questions}
use Rattle.validation.specs.Asked.{WasAsked}
use Rattle.validation.proofs.Ready.{some_is, not_none}
use Rattle.update_requests.proofs.Refusing.{is_there}
use Rattle.update_requests.proofs.Verdicts.{ready_still}
use Rattle.update_requests.proofs.judging.validate_pending.Goals as goal

pub unreachable-requires : goal.unreachable-requires
unreachable-requires g c =
    let can = c.requires.ready.pending c.args.row c.args.active (sym c.has.ensures ∙ c.if-not-has.false) in
    let t = some_is (table_at c.args.desk.now.tables c.args.row) c.requires.table in
    let there = c.image.ensures.there t.0 t.1 in
    let has = is_there t.0 c.args.active (can.1 t.0 t.1).1 in
    cc (rw c.in_default.is at there, has)

pub judge-requires : goal.judge-requires
judge-requires g c =
    let t = some_is (table_at c.args.desk.now.tables c.args.row) c.requires.table in
    rw (c.validator-function.ensures t.0 t.1) (λ number has. (c.requires.ready.functions c.args.row t.0 t.1 number has, c.requires.ready.few number))

pub unreachable-requires-in_default-judge : goal.unreachable-requires-in_default-judge
unreachable-requires-in_default-judge g c =
    let can = c.requires.ready.pending c.args.row c.args.active (sym c.has.ensures ∙ c.if-not-has.false) in
    let t = some_is (table_at c.args.desk.now.tables c.args.row) c.requires.table in
    not_none t.0.validator (can.1 t.0 t.1).0 (rw (c.in_default-judge.is, c.validator-function.ensures t.0 t.1) at c.judge.ensures.told)

pub conclude-requires-clause-image : goal.conclude-requires-clause-image
conclude-requires-clause-image g c = λ t there. ((c.requires.ready.pending c.args.row c.args.active (sym c.has.ensures ∙ c.if-not-has.false)).1 t there).1

pub returns : goal.returns
returns g c =
    let t = some_is (table_at c.args.desk.now.tables c.args.row) c.requires.table in
    let was : ForSome (table_at c.args.desk.now.tables c.args.row) (λ u. WasAsked g.C.Validator.verdict g.C.Validator.asked c.args.desk.now.kit c.judge.new.self (questions u (judged_image u c.args.active)) (Some c.in-Some-judge.verdict ∷ None ∷ [])) = search rules in
    let fits : to_z w32 (of_z w32 c.in-Some-judge.verdict) ≡ c.in-Some-judge.verdict = search rules in
    record {
      told = search rules;
      desk = search rules;
      report = search rules;
      asked = search rules;
      ready = λ times is. rw (c.conclude.ensures.desk, fits) (ready_still g.C.Validator c.args.row c.args.active t.0 c.args.desk.now c.judge.new.self times c.in-Some-judge.verdict (was t.0 t.1) is);
    }
