use Rattle.std.proofs.Common.{refl, sym, ◌∙◌}
use Rattle.std.specs.Cmp.Lexicographic.{same_text}
use Rattle.tbl_maker.specs.Values.{number, hex}
use Rattle.tbl_maker.specs.Parts.{ReadsHex, ReadsNumber, ReadsValue}
use Rattle.tbl_maker.proofs.Numbers.{if_some_map}
use Rattle.tbl_maker.proofs.value.value_bytes.Goals as goal

pub returns-then-eq-clause-some : goal.returns-then-eq-clause-some
returns-then-eq-clause-some c =
    let word = c.args.word.now in
    let text = c.args.text.now in
    let same = same_text word c.as_slice.result.now (sym c.if-eq.true ∙ c.eq.ensures) ∙ c.as_slice.ensures in
    if_some_map c.hex_bytes.result (λ bytes. ReadsHex text bytes.items) (λ bytes. ReadsValue word text bytes.items)
    (λ bytes read. record { value = hex bytes.items; is_value = read.is_value; word_is = same; text_is = read.text_is; bytes_are = refl })
    c.hex_bytes.ensures.some

pub returns-clause-some : goal.returns-clause-some
returns-clause-some c =
    let word = c.args.word.now in
    let text = c.args.text.now in
    let sign = c.in_ok-sign.sign in
    let width = c.in_ok-sign.width in
    if_some_map c.number_bytes.result (λ bytes. ReadsNumber sign width text bytes.items) (λ bytes. ReadsValue word text bytes.items)
    (λ bytes read. record { value = number sign width read.z; is_value = read.in_range; word_is = c.in_ok-sign.ensures.some; text_is = read.text_is; bytes_are = read.bytes_are })
    c.number_bytes.ensures.some
