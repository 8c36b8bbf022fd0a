use Rattle.std.proofs.Common.{ap, ◌∙◌}
use Rattle.tbl_kinds.specs.TableFiles.{table_file}
use Rattle.tbl_maker.specs.Descriptions.{made_header}
use Rattle.tbl_maker.proofs.Makes.{made_of}
use Rattle.tbl_maker.proofs.BadLines.{first_bad, second_bad, tells_line}
use Rattle.tbl_maker.proofs.making.described_file.Goals as goal

pub returns-in_default-clause-line : goal.returns-in_default-clause-line
returns-in_default-clause-line c = first_bad c.args.text.now c.in_default.ensures.none

pub returns-in_default-offset_line-clause-line : goal.returns-in_default-offset_line-clause-line
returns-in_default-offset_line-clause-line c = second_bad c.args.text.now c.in-Some.name c.in-Some.rest.now c.in-Some.ensures.some c.in_default-offset_line.ensures.none

pub returns-in-Err-clause-line : goal.returns-in-Err-clause-line
returns-in-Err-clause-line c =
    let at = c.in-Some-offset_line in
    tells_line c.args.text.now c.in-Some.name c.in-Some.rest.now at.rest.now at.offset c.in-Some.ensures.some at.ensures.some c.in-Err.fault c.in-Err.ensures.line

pub returns-clause-made : goal.returns-clause-made
returns-clause-made c =
    let at = c.in-Some-offset_line in
    let header = made_header in
    made_of c.args.text.now c.in-Some.name c.in-Some.rest.now at.rest.now c.in-Ok.image.list c.in_ok-file.file.list at.offset c.in-Some.ensures.some at.ensures.some c.in-Ok.ensures.ok
    (c.in_ok-file.ensures ∙ ap (λ bytes. table_file header (record { offset = at.offset; name = c.in-Some.name; image = bytes })) c.bytes.ensures)
