use Rattle.std.proofs.Common.{◌≡◌, ℕ, List, IfOk, subst}
use Rattle.tbl_kinds.specs.Transcript.{fields_of}
use Rattle.transcript.proofs.Around.{whole}
use Rattle.transcript.proofs.writing.spell_entry.Goals as goal

pub returns : goal.returns
returns c =
    let f = fields_of c.args.place c.args.entry.now in
    subst (λ (bytes : List ℕ). IfOk c.spell.result (λ spelling. spelling.now ≡ bytes)) (whole f c.bytes.result.now c.bytes.ensures) c.spell.ensures
