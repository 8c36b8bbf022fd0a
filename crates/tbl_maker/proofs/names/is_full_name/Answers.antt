use Rattle.std.proofs.Common.{◌≡◌, true, false, sym, ap, ◌∙◌}
use Rattle.std.specs.Prelude.{◌&&◌}
use Rattle.tbl_maker.specs.Names.{is_name_within}
use Rattle.tbl_maker.proofs.FullNames.{full_is, none_is}
use Rattle.tbl_maker.proofs.names.is_full_name.Goals as goal

pub returns-then-is_name_within : goal.returns-then-is_name_within
returns-then-is_name_within c =
    let app = c.in-Some.app.now in
    let short = c.in-Some.short.now in
    let first : is_name_within 20 app ≡ true = sym c.is_name_within.ensures ∙ c.if-is_name_within.true in
    c.is_name_within-then-is_name_within.ensures ∙ sym (full_is c.args.bytes.now app short c.in-Some.ensures.found ∙ ap (λ b. b && is_name_within 16 short) first)

pub returns-else-is_name_within : goal.returns-else-is_name_within
returns-else-is_name_within c =
    let app = c.in-Some.app.now in
    let short = c.in-Some.short.now in
    let first : is_name_within 20 app ≡ false = sym c.is_name_within.ensures ∙ c.if-is_name_within.false in
    c.if-is_name_within.false ∙ sym (full_is c.args.bytes.now app short c.in-Some.ensures.found ∙ ap (λ b. b && is_name_within 16 short) first)

pub returns-in-None : goal.returns-in-None
returns-in-None c = sym (none_is c.args.bytes.now c.in-None.ensures.none)
