use Rattle.std.proofs.Common.{◌≡◌, ◌-◌, ◌∙◌, arith}
use Rattle.cds_layout.proofs.Turned.{whole-read}
use Rattle.cds_layout.proofs.blocks.is_whole.Goals as goal

pub returns : goal.returns
returns c =
    let as_long : c.args.end - 8 ≡ c.args.size = omega arith in
    c.is_ok.ensures.value ∙ whole-read c.args.bytes.now c.args.size c.args.end (c.args.end - 8) c.compare.result c.requires.end as_long c.compare.ensures
