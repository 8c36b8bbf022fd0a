use Rattle.std.proofs.Common.{◌<◌, ◌∙◌, length, sym, subst}
use Rattle.std.proofs.lemmas.Option.{same_Some}
use Rattle.tbl_core.specs.Log.{IsSmall}
use Rattle.tbl_live.proofs.LastingLemmas.{split_last}
use Rattle.tbl_live.proofs.lasting.LastingServiceCore.last.Goals as goal

pub unreachable-requires : goal.unreachable-requires
unreachable-requires g c =
    let it = split_last _ (subst (λ it. 0 < length it.past) (sym c.self.view_is) c.requires) in
    let there = (c.self.invariant.ends it.0 it.1.0 it.1.1).0 in
    let none = c.in_default.is in
    absurd (cc (there, none))

pub returns-clause-small : goal.returns-clause-small
returns-clause-small g c =
    let it = split_last _ (subst (λ it. 0 < length it.past) (sym c.self.view_is) c.requires) in
    let ends = c.self.invariant.ends it.0 it.1.0 it.1.1 in
    subst IsSmall (same_Some it.1.0 c.in-Some.entry (sym ends.0 ∙ c.in-Some.is)) ends.1
