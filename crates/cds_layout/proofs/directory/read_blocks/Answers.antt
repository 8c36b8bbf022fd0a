use Rattle.std.proofs.Common.{◌≡◌, ℕ, Bool, true, false, cond, length, replicate, None, sym, ap, ◌∙◌, arith}
use Rattle.std.proofs.lemmas.List.{take_at}
use Rattle.cds_layout.specs.Directory.{is_live, directory_to}
use Rattle.cds_layout.proofs.Directories.{directory-is}
use Rattle.cds_layout.proofs.directory.read_blocks.Goals as goal

pub returns-then-is_live : goal.returns-then-is_live
returns-then-is_live c =
    let bytes = c.args.bytes.now in
    let n = length c.args.blocks.now.items in
    let live : is_live bytes ≡ true = sym c.is_live.ensures ∙ c.if-is_live.true in
    take_at c.read_entries.new.blocks _ c.args.blocks.now.len (omega arith)
    ∙ c.read_entries.ensures n c.requires.slots
    ∙ sym (directory-is bytes n c.requires.slots ∙ ap (λ (b : Bool). cond b (directory_to bytes n) (replicate n None)) live)

pub returns-else-is_live : goal.returns-else-is_live
returns-else-is_live c =
    let bytes = c.args.bytes.now in
    let n = length c.args.blocks.now.items in
    let live : is_live bytes ≡ false = sym c.is_live.ensures ∙ c.if-is_live.false in
    take_at c.clear.new.blocks _ c.args.blocks.now.len (omega arith)
    ∙ (c.clear.ensures ∙ ap (λ (k : ℕ). replicate k None) (omega arith))
    ∙ sym (directory-is bytes n c.requires.slots ∙ ap (λ (b : Bool). cond b (directory_to bytes n) (replicate n None)) live)
