use Rattle.std.proofs.Common.{sym, length}
use Rattle.tbl_model.proofs.RefusalLaws.{edit_taken}
use Rattle.dump_requests.proofs.owners.edit.Goals as goal

pub patched-requires-clause-within : goal.patched-requires-clause-within
patched-requires-clause-within c = λ t there. (edit_taken c.args.tables.now c.args.row t c.args.offset (length c.args.bytes.now) (sym (c.in_default.ensures.refusal t there))).1

pub put-requires-clause-unlocked : goal.put-requires-clause-unlocked
put-requires-clause-unlocked c = rw c.patched.ensures.same (λ t there. (edit_taken c.args.tables.now c.args.row t c.args.offset (length c.args.bytes.now) (sym (c.in_default.ensures.refusal t there))).2)
