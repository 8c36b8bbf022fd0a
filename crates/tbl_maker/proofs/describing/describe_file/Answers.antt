use Rattle.std.proofs.Common.{ℕ, List, ◌++◌, ap, ◌∙◌, subst, arith}
use Rattle.std.proofs.lemmas.Grind.{common_steps}
use Rattle.tbl_maker.specs.Descriptions.{ended, table_line, offset_line}
use Rattle.tbl_maker.specs.Parts.{PutsFields}
use Rattle.tbl_maker.proofs.Described.{described_by}
use Rattle.tbl_maker.proofs.describing.describe_file.Goals as goal

pub returns : goal.returns
returns c =
    let mid = c.put_head.new.out.list in
    let text = c.put_fields.new.out.list in
    let puts : PutsFields c.args.shape.now c.in-Some.image.now mid text = subst (λ forms. PutsFields forms c.in-Some.image.now mid text) c.forms-2.ensures.forms c.in_ok-put_fields.ensures in
    let described = described_by c.args.shape.now c.args.file.now c.in-Some.contents c.in-Some.image.now mid text c.in-Some.ensures.some c.in-Some.ensures.contents (c.in_ok-put_head.ensures ∙ ap (λ (l : List ℕ). l ++ (ended (table_line c.in-Some.contents.name) ++ ended (offset_line c.in-Some.contents.offset))) c.in_ok-text.ensures.empty) puts in
    record { described = described; ok = grind (arith, common_steps); fault = tt }
