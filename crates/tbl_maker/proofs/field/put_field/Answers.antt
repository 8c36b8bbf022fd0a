use Rattle.std.proofs.Common.{◌≡◌, ℕ, List, ◌∷◌, ◌++◌, [], ap, ◌∙◌}
use Rattle.tbl_maker.specs.Parts.{PutsField}
use Rattle.tbl_maker.proofs.Numbers.{on_ok}
use Rattle.tbl_maker.proofs.Puts.{puts_field}
use Rattle.tbl_maker.proofs.field.put_field.Goals as goal

pub returns : goal.returns
returns c =
    let form = c.args.form.now in
    let bytes = c.args.bytes.now in
    let old = c.args.out.now.list in
    let word = c.put_type.new.out.list in
    let space = c.append_text.new.out.list in
    let name = c.append_text-2.new.out.list in
    let second = c.append_text-3.new.out.list in
    let value = c.put_value.new.out.list in
    let new = c.append_text-4.new.out.list in
    on_ok c.append_text-4.result (new ≡ value ++ 10 ∷ []) (PutsField form bytes old new)
    (puts_field form bytes old new word space name second value c.requires.form
    c.in_ok-put_type.ensures c.in_ok-append_text.ensures.ok (c.in_ok-append_text-2.ensures.ok ∙ ap (λ (l : List ℕ). space ++ l) c.bytes.ensures.bytes) c.in_ok-append_text-3.ensures.ok c.in_ok-put_value.ensures)
    c.append_text-4.ensures.ok
