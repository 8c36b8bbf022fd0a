use Rattle.std.proofs.Common.{take, ap, ◌∙◌, rules}
use Rattle.session_records.proofs.Dropping.{moved_front}
use Rattle.session_records.proofs.kept.drop_front.Goals as goal

pub returns : goal.returns
returns c = c.truncate.ensures.items ∙ ap (take _) c.copy_within.ensures.items ∙ moved_front c.args.kept.now.items c.args.count _ _ (search rules) (search rules) c.requires
