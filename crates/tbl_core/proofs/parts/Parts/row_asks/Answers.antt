use Rattle.std.proofs.Common.{◌∙◌, List, ℕ, sym, ap}
use Rattle.std.proofs.lemmas.Result.{IfOk-weaker}
use Rattle.tbl_kinds.specs.declared.request.Request.{Request}
use Rattle.tbl_model.specs.State.{State}
use Rattle.tbl_model.specs.AppLoads.{load_image_of, named_file_of}
use Rattle.tbl_model.specs.Management.{manage_of}
use Rattle.tbl_model.specs.Validations.{validation_of}
use Rattle.desk.specs.Questions.{all_asked}
use Rattle.tbl_core.specs.Asking.{asked_in}
use Rattle.tbl_core.specs.Owned.{owned_effect}
use Rattle.tbl_core.specs.Service.{parts_view}
use Rattle.tbl_core.proofs.Questions.{owner_asks}
use Rattle.tbl_core.proofs.Served.{at_desk}
use Rattle.tbl_core.proofs.parts.Parts.row_asks.Goals as goal

pub returns-in-LoadImage-clause-asks : goal.returns-in-LoadImage-clause-asks
returns-in-LoadImage-clause-asks g c = IfOk-weaker c.load_image_asks.result _ _ (λ it is actor leads.
    owner_asks (parts_view c.args.self.now) actor c.args.row c.args.request.now (all_asked it) c.requires.may leads (λ s stood given t there.
    ap (λ (r : Request). asked_in (owned_effect s c.args.row t r given)) c.in-LoadImage.is
    ∙ ap (λ (image : List ℕ). (load_image_of s image given c.args.row t).questions) (sym c.bytes.ensures) ∙ ap (λ (x : State). (load_image_of x c.bytes.result.now given c.args.row t).questions) (at_desk c.args.self.now.store c.args.self.now.ended c.args.self.now.desk s stood)
    ∙ is (record { store = s.store; ended = c.args.self.now.ended }) given t there)) c.load_image_asks.ensures.asks

pub returns-in-LoadFile-clause-asks : goal.returns-in-LoadFile-clause-asks
returns-in-LoadFile-clause-asks g c = IfOk-weaker c.load_file_asks.result _ _ (λ it is actor leads.
    owner_asks (parts_view c.args.self.now) actor c.args.row c.args.request.now (all_asked it) c.requires.may leads (λ s stood given t there.
    ap (λ (r : Request). asked_in (owned_effect s c.args.row t r given)) c.in-LoadFile.is
    ∙ ap (λ (name : List ℕ). (named_file_of s name given c.args.row t).questions) (sym c.name.ensures) ∙ ap (λ (x : State). (named_file_of x c.name.result.now given c.args.row t).questions) (at_desk c.args.self.now.store c.args.self.now.ended c.args.self.now.desk s stood)
    ∙ is (record { store = s.store; ended = c.args.self.now.ended }) given t there)) c.load_file_asks.ensures.asks

pub returns-in-Validate-clause-asks : goal.returns-in-Validate-clause-asks
returns-in-Validate-clause-asks g c = IfOk-weaker c.validate_asks.result _ _ (λ it is actor leads.
    owner_asks (parts_view c.args.self.now) actor c.args.row c.args.request.now (all_asked it) c.requires.may leads (λ s stood given t there.
    ap (λ (r : Request). asked_in (owned_effect s c.args.row t r given)) c.in-Validate.is
    ∙ ap (λ (x : State). (validation_of x given c.args.row t).questions) (at_desk c.args.self.now.store c.args.self.now.ended c.args.self.now.desk s stood)
    ∙ is (record { store = s.store; ended = c.args.self.now.ended }) given t there)) c.validate_asks.ensures.asks

pub returns-in-Manage-clause-asks : goal.returns-in-Manage-clause-asks
returns-in-Manage-clause-asks g c = IfOk-weaker c.manage_asks.result _ _ (λ it is actor leads.
    owner_asks (parts_view c.args.self.now) actor c.args.row c.args.request.now (all_asked it) c.requires.may leads (λ s stood given t there.
    ap (λ (r : Request). asked_in (owned_effect s c.args.row t r given)) c.in-Manage.is
    ∙ ap (λ (x : State). (manage_of x given c.args.row t).questions) (at_desk c.args.self.now.store c.args.self.now.ended c.args.self.now.desk s stood)
    ∙ is (record { store = s.store; ended = c.args.self.now.ended }) given t there)) c.manage_asks.ensures.asks
