use Rattle.std.proofs.Common.{◌∙◌, ℕ, List, [], ◌∷◌, Option, sym, ap, refl}
use Rattle.tbl_model.specs.Effects.{Effect}
use Rattle.tbl_model.specs.AppLoads.{file_image}
use Rattle.table_files.specs.Files.{with_image}
use Rattle.validation.specs.Asked.{asks}
use Rattle.desk.specs.Desk.{state_at}
use Rattle.load_requests.proofs.Asking.{file_asks, not_refused, none_of}
use Rattle.load_requests.proofs.Uplinked.{looked_for, file_taken}
use Rattle.load_requests.proofs.questions.load_file_asks.Goals as goal

pub returns-in-Err-clause-asks : goal.returns-in-Err-clause-asks
returns-in-Err-clause-asks g c = λ rest given t there.
    let s = state_at rest c.args.desk.now in
    let open_to = sym (none_of c.closed_refusal.result (sym c.is_some.ensures ∙ c.if-is_some.false)) ∙ c.closed_refusal.ensures t there in
    ap (λ (e : Effect). e.questions) (looked_for s c.args.file.now given c.args.row t open_to _ (c.in-Err.ensures.err s _ refl refl)) ∙ sym c.none-in-Err.ensures

pub patched-requires-clause-within : goal.patched-requires-clause-within
patched-requires-clause-within g c = λ t there.
    (file_taken c.args.desk.now.tables c.args.row t (with_image c.in-Ok.read.0 c.in-Ok.read.1.now) (sym (c.file_refusal-refusal.ensures c.in-Ok.read.1.now c.in-Ok.ensures.count t there)
    ∙ not_refused c.file_refusal-refusal.result t.validator c.in-Some.number (sym (c.judge_of.ensures t there) ∙ c.in-Some.is))).within

pub returns-in_default-clause-asks : goal.returns-in_default-clause-asks
returns-in_default-clause-asks g c = λ rest given t there.
    let s = state_at rest c.args.desk.now in
    let file = with_image c.in-Ok.read.0 c.in-Ok.read.1.now in
    let open_to = sym (none_of c.closed_refusal.result (sym c.is_some.ensures ∙ c.if-is_some.false)) ∙ c.closed_refusal.ensures t there in
    file_asks s given c.args.row t c.file_refusal-refusal.result c.judge_of.result (c.judge_of.ensures t there) c.args.file.now open_to file (λ effect. c.in-Ok.ensures.ok s effect refl refl)
    (c.file_refusal-refusal.ensures c.in-Ok.read.1.now c.in-Ok.ensures.count t there)
    ∙ ap (λ (number : Option ℕ). asks number (file_image t file)) c.in_default.is ∙ sym c.none-in_default.ensures

pub returns-clause-asks : goal.returns-clause-asks
returns-clause-asks g c = λ rest given t there.
    let s = state_at rest c.args.desk.now in
    let file = with_image c.in-Ok.read.0 c.in-Ok.read.1.now in
    let open_to = sym (none_of c.closed_refusal.result (sym c.is_some.ensures ∙ c.if-is_some.false)) ∙ c.closed_refusal.ensures t there in
    file_asks s given c.args.row t c.file_refusal-refusal.result c.judge_of.result (c.judge_of.ensures t there) c.args.file.now open_to file (λ effect. c.in-Ok.ensures.ok s effect refl refl)
    (c.file_refusal-refusal.ensures c.in-Ok.read.1.now c.in-Ok.ensures.count t there)
    ∙ ap (λ (number : Option ℕ). asks number (file_image t file)) c.in-Some.is
    ∙ ap (λ (image : List ℕ). record { number = c.in-Some.number; image = image } ∷ []) (sym (c.in_ok-image-2.ensures ∙ c.bytes.ensures ∙ c.in_ok-image.ensures.image t there)) ∙ sym c.only.ensures
