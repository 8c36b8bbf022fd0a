use Rattle.std.proofs.Common.{length, refl, sym, ◌∙◌}
use Rattle.std.proofs.lemmas.Option.{slice_get_read}
use Rattle.file_drawer.proofs.Finding.{named_read}
use Rattle.file_drawer.proofs.drawer.is_at.Goals as goal

pub returns-in-Some-clause-at : goal.returns-in-Some-clause-at
returns-in-Some-clause-at c = λ same.
    let there = c.in-Some.ensures.lookup in
    named_read c.args.entries.now c.args.place c.args.name.now c.in-Some.entry.now
    (slice_get_read c.args.entries.now (length c.args.entries.now) c.args.place c.in-Some.entry.now refl there.3.0 there.1) (sym c.has_name.ensures ∙ same)
