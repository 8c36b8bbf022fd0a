use Rattle.std.proofs.Common.{◌≡◌, length, slice_get, Some, sym, ap, subst, ◌∙◌}
use Rattle.tbl_kinds.specs.GroundCommands.{forms}
use Rattle.tbl_kinds.specs.GroundCommands.{payload_len as len_of}
use Rattle.cmd_packets.specs.Views.{command_of, Gives}
use Rattle.cmd_packets.proofs.CodedForms.{of_length}
use Rattle.cmd_packets.proofs.reading.read_by_form.Goals as goal

pub returns-in-Some : goal.returns-in-Some
returns-in-Some c =
    let len-is : len_of c.args.code ≡ Some (length c.args.payload.now) = sym c.in-Some.ensures ∙ ap Some (sym c.if-payload-len.true) in
    let form = slice_get forms c.args.code in
    let (read, put, reads) = c.put_fields.ensures in
    subst (Gives c.test_names.new.command) (sym (of_length c.args.code form c.args.payload.now (command_of read) len-is reads)) (c.test_names.ensures read put)
