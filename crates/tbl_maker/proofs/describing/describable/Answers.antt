use Rattle.std.proofs.Common.{sym, ap, ◌∙◌, rules}
use Rattle.tbl_kinds.specs.Admitted.{Admitted}
use Rattle.tbl_kinds.specs.TableFiles.{file_flaw}
use Rattle.tbl_maker.proofs.Described.{describable_is}
use Rattle.tbl_maker.proofs.describing.describable.Goals as goal

pub returns-then-not-can_be_described : goal.returns-then-not-can_be_described
returns-then-not-can_be_described c =
    let bytes = c.args.bytes.now in
    let whole = ap (λ (admit : Admitted). file_flaw admit bytes) (sym c.all.ensures) ∙ c.in-Ok.ensures.ok in
    let is = describable_is bytes c.in-Ok.file whole c.in-Ok.ensures.file c.in-Ok.ensures.count ∙ sym c.can_be_described.ensures ∙ c.if-not-can_be_described.true in
    record { contents = tt; some = tt; count = tt; none = is }

pub returns : goal.returns
returns c =
    let bytes = c.args.bytes.now in
    let whole = ap (λ (admit : Admitted). file_flaw admit bytes) (sym c.all.ensures) ∙ c.in-Ok.ensures.ok in
    let is = describable_is bytes c.in-Ok.file whole c.in-Ok.ensures.file c.in-Ok.ensures.count ∙ sym c.can_be_described.ensures ∙ c.if-not-can_be_described.false in
    record { contents = search rules; some = is; count = search rules; none = tt }
