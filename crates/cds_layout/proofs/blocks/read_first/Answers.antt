use Rattle.std.proofs.Common.{◌≡◌, ◌+◌, ℕ, length, take, refl, ap, ◌∙◌, arith}
use Rattle.std.proofs.lemmas.List.{take_at}
use Rattle.tbl_kinds.specs.Numbers.{piece}
use Rattle.cds_layout.specs.Restores.{is_whole_place}
use Rattle.cds_layout.proofs.EntryLaws.{right-parts}
use Rattle.cds_layout.proofs.Turned.{first-whole, front-long}
use Rattle.cds_layout.proofs.blocks.read_first.Goals as goal

pub returns-clause-whole : goal.returns-clause-whole
returns-clause-whole g c told =
    let bytes = g.B.Bank.now c.args.bank.now in
    let b = c.args.block.now in
    let into = c.read_at.new.into in
    let front : length (take (8 + b.size) c.args.room.now) ≡ 8 + b.size = front-long c.args.room.now b.size c.requires.room (right-parts b c.requires.right).within in
    let long : length into ≡ 8 + b.size = omega (arith, front) in
    c.is_whole.ensures
    ∙ ap (is_whole_place b.size) (take_at into _ (8 + b.size) long)
    ∙ first-whole bytes b into (8 + b.size) refl (c.in_ok-read_at.ensures.read told ∙ ap (λ (n : ℕ). piece b.offset n bytes) front)
