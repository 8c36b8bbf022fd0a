use Rattle.std.proofs.Common.{◌≡◌, true, is_some, take, refl, sym, ap, ◌∙◌}
use Rattle.tbl_kinds.specs.Heads.{is_name_field, is_right_body}
use Rattle.tbl_kinds.proofs.NameFields.{read_again, read_fits, spelled}
use Rattle.session_records.proofs.plain.file.Goals as goal

pub returns : goal.returns
unfolding is_right_body
returns c =
    let body = c.args.body.now in
    let right : is_name_field (take 64 body) ≡ true = ap is_name_field (sym c.split_at.ensures.front) ∙ sym c.exact.ensures.right ∙ ap is_some c.in-Some.is in
    rw (c.of-file.ensures, c.in_ok-of.ensures) (
      record { sized = read_fits 64 body; no_validator_255 = tt; kind_is = refl; body_is = sym (spelled 64 body (read_again body c.requires right)) },
      rw right refl,
    )
