use Rattle.std.proofs.Common.{◌≡◌, ◌∙◌, ◌≤◌, length, arith, rules}
use Rattle.tbl_kinds.specs.Numbers.{four_at}
use Rattle.cfe_headers.proofs.Pieces.{number_at}
use Rattle.cfe_headers.proofs.file.read_file_header.Goals as goal

pub returns : goal.returns
returns c =
    let bytes = c.args.bytes.now in
    let long : 64 ≤ length bytes = search rules in
    let content : c.read_u32.result ≡ four_at 0 bytes = search rules in
    record {
      ok = search (rules, content);
      header = rw (
        c.read_u32-2.ensures ∙ number_at 4 bytes (omega (arith, long)),
        c.read_u32-3.ensures ∙ number_at 8 bytes (omega (arith, long)),
        c.read_u32-4.ensures ∙ number_at 12 bytes (omega (arith, long)),
        c.read_u32-5.ensures ∙ number_at 16 bytes (omega (arith, long)),
        c.read_u32-6.ensures ∙ number_at 20 bytes (omega (arith, long)),
        c.read_u32-7.ensures ∙ number_at 24 bytes (omega (arith, long)),
        c.read_u32-8.ensures ∙ number_at 28 bytes (omega (arith, long)),
      ) (search rules);
    }
