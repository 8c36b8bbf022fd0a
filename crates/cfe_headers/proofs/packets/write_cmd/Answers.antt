use Rattle.std.proofs.Common.{◌≡◌, ◌++◌, ◌∷◌, [], List, ℕ, ap, ◌∙◌, length, drop, arith, rules}
use Rattle.std.specs.Prelude.{bit_xor}
use Rattle.std.specs.List.{fold}
use Rattle.std.proofs.lemmas.List.{length-append}
use Rattle.tbl_kinds.specs.Packets.{command_packet}
use Rattle.cfe_headers.proofs.Checks.{packet_from_pieces, length-command_packet}
use Rattle.cfe_headers.proofs.packets.write_cmd.Goals as goal

pub returns : goal.returns
returns c =
    let out-is = c.append-2.ensures.bytes ∙ ap (λ (s : List ℕ). s ++ c.args.code ∷ []) (c.append.ensures.bytes ∙ ap (λ (s : List ℕ). c.args.out.now.list ++ s) c.fill_primary.ensures) in
    let behind : drop (length c.bytes-start.result.now) c.bytes.result.now ≡ drop (length c.args.out.now.list) c.append-2.new.self.list = rw (c.bytes-start.ensures, c.bytes.ensures) in
    let front-is = c.checksum_from-sum.ensures ∙ ap (λ (s : List ℕ). fold bit_xor 0xFF s) (c.split_at.ensures.back ∙ behind) in
    let bytes : c.append-4.new.self.list ≡ c.args.out.now.list ++ command_packet c.args.id c.args.count c.args.code c.args.payload.now =
    c.append-4.ensures.bytes
    ∙ ap (λ (s : List ℕ). s ++ c.args.payload.now) c.append-3.ensures.bytes
    ∙ packet_from_pieces c.args.out.now.list c.args.id c.args.count c.args.code c.args.payload.now c.append-2.new.self.list c.checksum_from-sum.result c.checksum_from.result out-is front-is c.checksum_from.ensures in
    record {
      bytes = bytes;
      room = search rules;
      len = omega (
        arith,
        length-append c.args.out.now.list (command_packet c.args.id c.args.count c.args.code c.args.payload.now),
        ap length bytes,
        length-command_packet c.args.id c.args.count c.args.code c.args.payload.now,
      );
    }
