use Rattle.std.proofs.Common.{sym, ◌∙◌, ap, map}
use Rattle.tbl_fakes.specs.Banks.{Banking}
use Rattle.tbl_fakes.specs.Past.{Passed}
use Rattle.tbl_fakes.proofs.Pasts.{map-passed}
use Rattle.tbl_fakes.proofs.mem_bank.MemBank.spans.Goals as goal

pub returns : goal.returns
returns c =
    let b = c.self.inside in
    c.spans.ensures
    ∙ sym (map-passed b.past.spans b.past.olds b.bytes.items)
    ∙ ap (λ (bank : Banking). map (λ (write : Passed). write.span) bank.past) c.self.view_is
