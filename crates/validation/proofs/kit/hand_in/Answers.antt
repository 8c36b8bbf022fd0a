use Rattle.std.proofs.Common.{None}
use Rattle.std.proofs.lemmas.List.{get_or_default}
use Rattle.validation.proofs.Handing.{handed_at}
use Rattle.validation.proofs.kit.hand_in.Goals as goal

pub returns-then-at-entries : goal.returns-then-at-entries
returns-then-at-entries g c =
    let within = c.if-at-entries.true in
    rw (c.put_check.ensures, get_or_default c.args.entries.now c.args.at c.index-entries-at.result None within) (handed_at c.args.check c.args.entries.now c.args.at within)
