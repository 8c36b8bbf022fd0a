use Rattle.std.proofs.Common.{◌≡◌, ℕ, sym, ap, subst, ◌∙◌, rules, arith}
use Rattle.tbl_kinds.specs.Numbers.{piece}
use Rattle.tbl_kinds.specs.Places.{bank_size}
use Rattle.cds_layout.specs.Directory.{directory_len, directory_of}
use Rattle.cds_layout.specs.Lines.{CanBeTogether}
use Rattle.cds_layout.proofs.DirectoryLaws.{directory-front, directory-together}
use Rattle.cds_layout.proofs.front.read_front.Goals as goal

pub returns-clause-front : goal.returns-clause-front
returns-clause-front g c =
    let b = g.B.Bank in
    let bytes = b.now c.args.bank.now in
    let kept = c.in_ok-read_at.ensures.kept in
    let front : b.tells → c.read_at.new.into ≡ piece 0 directory_len bytes = λ told. c.in_ok-read_at.ensures.read told ∙ ap (λ (n : ℕ). piece 0 n bytes) c.requires.len in
    record {
      len = search rules;
      room = search rules;
      together = subst CanBeTogether (sym c.read_directory.ensures) (directory-together c.read_at.new.into);
      is = λ told. record {
        read = front told ∙ ap (piece 0 directory_len) (sym (kept told));
        told = c.read_directory.ensures ∙ ap directory_of (front told) ∙ directory-front bytes ∙ ap directory_of (sym (kept told));
      };
    }
